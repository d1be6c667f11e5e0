-- One chip no hotter than another: alike but that its temperatures may be cooler, and the steps, boosts and duties that follow from them
-- lower. The start counts may differ, since they follow from the duties, and so may the error bits of the zones, which follow from the
-- temperatures. Assumes nothing.
use Rattle.std.specs.Prelude.{◌≡◌, ◌≢◌, false, List, ℕ, ◌≤◌, T, length, get_or}
use Rattle.map.specs.Names.{B_ERROR_STATUS_1, H_ERROR_STATUS_1}
use Rattle.temperature.specs.Order.{NoHotter}
use Rattle.state.specs.declared.Chip.{Chip}
use Rattle.state.specs.declared.Drive.{Drive}
use Rattle.state.specs.Parts.{zone_at}

pub record DriveNoHigher (d e : Drive) : Type 0 where
  pub steps : (i : ℕ) → get_or d.steps i 0 ≤ get_or e.steps i 0
  pub boosts : (i : ℕ) → T (get_or d.boosts i false) → T (get_or e.boosts i false)
  pub ramps : d.ramps ≡ e.ramps
  pub duties : (i : ℕ) → get_or d.duties i 0 ≤ get_or e.duties i 0

-- register files as long and alike but for 40h and 48h, which have the zones' error bits
pub record SameButZones (f g : List ℕ) : Type 0 where
  pub long : length f ≡ length g
  pub each : (a : ℕ) → a ≢ B_ERROR_STATUS_1 → a ≢ H_ERROR_STATUS_1 → get_or f a 0 ≡ get_or g a 0

pub record Cooler (c d : Chip) : Type 0 where
  pub setup : c.setup ≡ d.setup
  pub registers : SameButZones c.registers d.registers
  pub zones : (i : ℕ) → NoHotter (zone_at c i) (zone_at d i)
  pub volts : c.volts ≡ d.volts
  pub erring : c.erring ≡ d.erring
  pub fans : c.fans ≡ d.fans
  pub kept : c.kept ≡ d.kept
  pub hot : c.hot ≡ d.hot
  pub pin : c.pin ≡ d.pin
  pub drive : DriveNoHigher c.drive d.drive
