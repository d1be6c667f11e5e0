-- Laws of document 02, Q-2: which readings start and end a channel's error, which leave it, and the bit that they set; and that with VH 0
-- the error bits are those of document 01's rule. Channels count from 0. Assumes nothing.
use Rattle.std.specs.Prelude.{◌≡◌, Bool, List, ℕ, ◌<◌, length, Option, Some}
use Rattle.std.proofs.Math.Bool.{true, false}
use borrow.Author.Tests.{lt-ltb}
use Rattle.masks.specs.Masks.{volt_masked}
use Rattle.state.specs.declared.Chip.{Chip}
use Rattle.state.specs.Parts.{in_error}
use Rattle.state.specs.With.{with_zone, with_volt, with_in_error}
use Rattle.state.specs.Order.{SameButZones}
use Rattle.sense.specs.Errors.{compared_volt}
use Rattle.sense.specs.Hysteresis.{hysteresis_of, erring_after, erred_volt}
use Rattle.sense.specs.Events.{read_zone, volt_reading, fed_zone, fed_each, read_volt, took_voltage}
use Rattle.sense.specs.Marks.{VoltStands}
use Rattle.sense.proofs.Marks.{volt_stands}
use Rattle.sense.specs.ButZones.{but_self}
use Rattle.sense.proofs.ButZones.{zone_file_lem}
use Rattle.sense.specs.InError.{zero_errors}

-- ---- the register file after a reading

module _ (file : List ℕ) (i : ℕ) (before : Bool) (n : ℕ) where
  -- a reading that leaves the channel in error, and is not masked, has its bit standing in both groups
  pub erring_stands : i < 16 → length file ≡ 256 → volt_masked file i ≡ false → erring_after file i before (Some n) ≡ true → VoltStands (erred_volt file i before (Some n)) i
  unfolding erred_volt
  erring_stands l long u e = rw e (volt_stands file i l u long)

-- ---- V on the chip

-- the zone that a voltage feeds changes no register but those of the zones' error bits, and not whether a channel is in error
fed_registers : (c : Chip) (channel : ℕ) (n : Option ℕ) → SameButZones c.registers (fed_zone c channel n).registers
unfolding read_zone with_zone
fed_registers c channel n =
    fed_each (λ (d : Chip). SameButZones c.registers d.registers) c channel n (zone_file_lem c.registers 4 (volt_reading n)) (zone_file_lem c.registers 5 (volt_reading n)) (but_self c.registers)

module _ (c : Chip) (channel : ℕ) (n : Option ℕ) (l : channel < 16) where
  pub volt_registers : SameButZones (erred_volt c.registers channel (in_error c channel) n) (took_voltage c channel n).registers
  unfolding took_voltage read_volt with_volt with_in_error
  volt_registers = rw (lt-ltb channel 16 l) (fed_registers _ channel n)

  -- with VH 0 the registers are those of document 01's rule, but for the bit of a zone that is fed
  pub zero_registers : hysteresis_of c.registers ≡ 0 → SameButZones (compared_volt c.registers channel n) (took_voltage c channel n).registers
  zero_registers z = rw (zero_errors c.registers channel (in_error c channel) n z) at volt_registers
