-- What each event, and a tick's marks, leave as it was. None of them changes the setup or the drive, and error bits that stand stay.
-- Assumes nothing.
use Rattle.std.specs.Prelude.{◌≡◌, refl, ◌≢◌, Bool, false, List, ℕ, ◌<◌, get_or}
use Rattle.std.proofs.Common.{get_or-set_other}
use Rattle.map.specs.Names.{CONFIGURATION, SLEEP_STATE_CONTROL}
use Rattle.state.specs.declared.Chip.{Chip}
use Rattle.state.specs.Parts.{zone_at, volt_at, in_error, fan_at, hot_at}
use Rattle.state.specs.With.{with_hot_input}
use Rattle.sense.specs.Missing.{missed}
use Rattle.sense.specs.Events.{took_hot, took_pin, reset_file, took_reset}
use Rattle.sense.specs.Marks.{Marks}

-- ---- T: one zone's reading and its error bits

-- the registers but for marks, every other zone, and the other parts
pub record TemperatureKeeps (c d : Chip) (zone : ℕ) : Type 0 where
  pub setup : d.setup ≡ c.setup
  pub registers : Marks c.registers d.registers
  pub zones : (i : ℕ) → i ≢ zone → zone_at d i ≡ zone_at c i
  pub volts : d.volts ≡ c.volts
  pub erring : d.erring ≡ c.erring
  pub fans : d.fans ≡ c.fans
  pub kept : d.kept ≡ c.kept
  pub hot : d.hot ≡ c.hot
  pub pin : d.pin ≡ c.pin
  pub drive : d.drive ≡ c.drive

-- ---- V: one voltage, whether its channel is in error, its error bits, and zone 3 or 4 with its error bits

-- the registers but for marks, zones 1a to 2b, every other channel, and the other parts
pub record VoltageKeeps (c d : Chip) (channel : ℕ) : Type 0 where
  pub setup : d.setup ≡ c.setup
  pub registers : Marks c.registers d.registers
  pub zones : (i : ℕ) → i < 4 → zone_at d i ≡ zone_at c i
  pub volts : (i : ℕ) → i ≢ channel → volt_at d i ≡ volt_at c i
  pub erring : (i : ℕ) → i ≢ channel → in_error d i ≡ in_error c i
  pub fans : d.fans ≡ c.fans
  pub kept : d.kept ≡ c.kept
  pub hot : d.hot ≡ c.hot
  pub pin : d.pin ≡ c.pin
  pub drive : d.drive ≡ c.drive

-- ---- F: one fan count and its error bits

-- the registers but for marks, every other fan, and the other parts
pub record FanKeeps (c d : Chip) (fan : ℕ) : Type 0 where
  pub setup : d.setup ≡ c.setup
  pub registers : Marks c.registers d.registers
  pub zones : d.zones ≡ c.zones
  pub volts : d.volts ≡ c.volts
  pub erring : d.erring ≡ c.erring
  pub fans : (i : ℕ) → i ≢ fan → fan_at d i ≡ fan_at c i
  pub kept : d.kept ≡ c.kept
  pub hot : d.hot ≡ c.hot
  pub pin : d.pin ≡ c.pin
  pub drive : d.drive ≡ c.drive

-- ---- H: one hot input

-- every other input, and the other parts
pub record HotKeeps (c d : Chip) (input : ℕ) : Type 0 where
  pub setup : d.setup ≡ c.setup
  pub registers : d.registers ≡ c.registers
  pub zones : d.zones ≡ c.zones
  pub volts : d.volts ≡ c.volts
  pub erring : d.erring ≡ c.erring
  pub fans : d.fans ≡ c.fans
  pub kept : d.kept ≡ c.kept
  pub hot : (i : ℕ) → i ≢ input → hot_at d i ≡ hot_at c i
  pub pin : d.pin ≡ c.pin
  pub drive : d.drive ≡ c.drive

pub hot_keeps : (c : Chip) (input : ℕ) (hot : Bool) → HotKeeps c (took_hot c input hot) input
unfolding took_hot with_hot_input hot_at
hot_keeps c input hot = record {
  setup = refl;
  registers = refl;
  zones = refl;
  volts = refl;
  erring = refl;
  fans = refl;
  kept = refl;
  hot = λ i o. get_or-set_other c.hot input i hot false o;
  pin = refl;
  drive = refl;
}

-- ---- A: the address pin's level

-- the latch, and the other parts
pub record PinKeeps (c d : Chip) : Type 0 where
  pub setup : d.setup ≡ c.setup
  pub registers : d.registers ≡ c.registers
  pub zones : d.zones ≡ c.zones
  pub volts : d.volts ≡ c.volts
  pub erring : d.erring ≡ c.erring
  pub fans : d.fans ≡ c.fans
  pub kept : d.kept ≡ c.kept
  pub hot : d.hot ≡ c.hot
  pub latch : d.pin.latch ≡ c.pin.latch
  pub drive : d.drive ≡ c.drive

pub pin_keeps : (c : Chip) (level : ℕ) → PinKeeps c (took_pin c level)
unfolding took_pin
pin_keeps c level =
    record { setup = refl; registers = refl; zones = refl; volts = refl; erring = refl; fans = refl; kept = refl; hot = refl; latch = refl; drive = refl }

-- ---- X and a tick's marks: registers alone

-- every part but the registers
pub record RegistersAlone (c d : Chip) : Type 0 where
  pub setup : d.setup ≡ c.setup
  pub zones : d.zones ≡ c.zones
  pub volts : d.volts ≡ c.volts
  pub erring : d.erring ≡ c.erring
  pub fans : d.fans ≡ c.fans
  pub kept : d.kept ≡ c.kept
  pub hot : d.hot ≡ c.hot
  pub pin : d.pin ≡ c.pin
  pub drive : d.drive ≡ c.drive

pub reset_keeps : (c : Chip) → RegistersAlone c (took_reset c)
unfolding took_reset
reset_keeps c = record { setup = refl; zones = refl; volts = refl; erring = refl; fans = refl; kept = refl; hot = refl; pin = refl; drive = refl }

pub missed_keeps : (c : Chip) → RegistersAlone c (missed c)
unfolding missed
missed_keeps c = record { setup = refl; zones = refl; volts = refl; erring = refl; fans = refl; kept = refl; hot = refl; pin = refl; drive = refl }

-- X changes E3h and E4h alone, so no error bit
pub reset_other : (file : List ℕ) (a : ℕ) → a ≢ CONFIGURATION → a ≢ SLEEP_STATE_CONTROL → get_or (reset_file file) a 0 ≡ get_or file a 0
unfolding reset_file
reset_other file a n m = simp get_or-set_other
