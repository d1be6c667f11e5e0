-- A chip made of some of its parts, the others as at power-on without a setup. A function that is given parts of a chip promises what a
-- definition says of a chip made of them; beside the definition stands the law that the other parts make no difference. Assumes nothing.
use Rattle.std.specs.Prelude.{Bool, List, ℕ, Option}
use Rattle.state.specs.declared.Chip.{Chip}
use Rattle.state.specs.declared.Drive.{Drive}
use Rattle.state.specs.declared.Setup.{Setup}
use Rattle.state.specs.declared.Ramp.{Ramp}
use Rattle.state.specs.PowerOn.{default_setup, power_on}
use Rattle.temperature.specs.declared.Reading.{Reading}
use Rattle.state.specs.With.{with_registers, with_zones, with_volts, with_fans, with_kept}

-- the chip at power-on without a setup
abbrev pub fresh : Chip
fresh = power_on default_setup

-- ---- what the bus looks at

abbrev pub of_registers : List ℕ → Chip
of_registers file = with_registers fresh file

abbrev pub of_zones : List ℕ → List Reading → Chip
of_zones file zones = with_zones (of_registers file) zones

abbrev pub of_readings : List ℕ → List Reading → List (Option ℕ) → List (Option ℕ) → Chip
of_readings file zones volts fans = with_fans (with_volts (of_zones file zones) volts) fans

abbrev pub of_kept : List ℕ → List Reading → List (Option ℕ) → List (Option ℕ) → List (Option ℕ) → Chip
of_kept file zones volts fans kept = with_kept (of_readings file zones volts fans) kept

-- ---- what a tick looks at

abbrev pub of_drive : Setup → List ℕ → List Reading → List Bool → Drive → Chip
of_drive setup file zones hot drive = record { setup = setup; registers = file; zones = zones; volts = fresh.volts; erring = fresh.erring; fans = fresh.fans; kept = fresh.kept; hot = hot; pin = fresh.pin; drive = drive }

-- its boosts: of the drive the old boosts
abbrev pub of_boosts : Setup → List ℕ → List Reading → List Bool → Chip
of_boosts setup file zones boosts = of_drive setup file zones fresh.hot (record { steps = fresh.drive.steps; boosts = boosts; ramps = fresh.drive.ramps; duties = fresh.drive.duties; starts = fresh.drive.starts })

-- its ramps: of the drive the old ramps
abbrev pub of_ramps : List ℕ → List Bool → List Ramp → Chip
of_ramps file hot ramps = of_drive fresh.setup file fresh.zones hot (record { steps = fresh.drive.steps; boosts = fresh.drive.boosts; ramps = ramps; duties = fresh.drive.duties; starts = fresh.drive.starts })

-- its kick: of the drive the old duties and start counts
abbrev pub of_kick : Setup → List ℕ → List ℕ → Chip
of_kick setup duties starts = of_drive setup fresh.registers fresh.zones fresh.hot (record { steps = fresh.drive.steps; boosts = fresh.drive.boosts; ramps = fresh.drive.ramps; duties = duties; starts = starts })
