-- Document 01, "Errors and ALERT", and 02, Q-12: the marks that a tick sets. Assumes nothing.
use Rattle.std.specs.Prelude.{Bool, not, List, ℕ, zero, suc, eqb, get_or, Option, Some, None}
use Rattle.laws.specs.Pick.{pick, both}
use Rattle.temperature.specs.declared.Reading.{Reading}
use Rattle.temperature.specs.declared.Reading.TheVariants as reading
use Rattle.state.specs.declared.Chip.{Chip}
use Rattle.state.specs.Parts.{no_zone, no_gauge}
use Rattle.state.specs.With.{with_registers}
use Rattle.sense.specs.Errors.{marked_volt, marked_fan, low_limit, high_limit, fan_limit_at}
use Rattle.sense.specs.ZoneLimits.{zone_watched, marked_zone}

-- "Not watched: a voltage with limits 00h and FFh"
unfoldable pub volt_watched : ℕ → ℕ → Bool
volt_watched low high = not (both (eqb low 0x00) (eqb high 0xFF))

-- "a fan with limit 3FFFh"
unfoldable pub fan_watched : ℕ → Bool
fan_watched limit = not (eqb limit 0x3FFF)

unfoldable pub missed_volt : List ℕ → ℕ → Option ℕ → List ℕ
missed_volt file i None = pick (volt_watched (low_limit file i) (high_limit file i)) (marked_volt file i) file
missed_volt file i (Some n) = file

unfoldable pub missed_fan : List ℕ → ℕ → Option ℕ → List ℕ
missed_fan file i None = pick (fan_watched (fan_limit_at file i)) (marked_fan file i) file
missed_fan file i (Some n) = file

-- 02, Q-12: of a watched zone "missing sets it at the tick"
unfoldable pub missed_zone : List ℕ → ℕ → Reading → List ℕ
missed_zone file i reading.Missing = pick (zone_watched file i) (marked_zone file i) file
missed_zone file i (reading.Taken n) = file

-- the first n channels, the first n fans, the first n zones
unfoldable pub missed_volts : List ℕ → List (Option ℕ) → ℕ → List ℕ
missed_volts file volts zero = file
missed_volts file volts (suc n) = missed_volt (missed_volts file volts n) n (get_or volts n no_gauge)

unfoldable pub missed_fans : List ℕ → List (Option ℕ) → ℕ → List ℕ
missed_fans file fans zero = file
missed_fans file fans (suc n) = missed_fan (missed_fans file fans n) n (get_or fans n no_gauge)

unfoldable pub missed_zones : List ℕ → List Reading → ℕ → List ℕ
missed_zones file zones zero = file
missed_zones file zones (suc n) = missed_zone (missed_zones file zones n) n (get_or zones n no_zone)

-- "At each tick every watched reading that is still missing sets its bit.": the register file, and the chip
unfoldable pub missed_file : List ℕ → List Reading → List (Option ℕ) → List (Option ℕ) → List ℕ
missed_file file zones volts fans = missed_zones (missed_fans (missed_volts file volts 16) fans 4) zones 6

unfoldable pub missed : Chip → Chip
missed c = with_registers c (missed_file c.registers c.zones c.volts c.fans)
