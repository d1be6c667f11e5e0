-- What a byte write stores is what the next byte read shows, by a case: BFh from power-on. Assumes nothing.
use Rattle.std.specs.Prelude.{◌≡◌, refl, true, false, [], ◌∷◌, ℕ, Some}
use Rattle.std.proofs.Common.{◌∙◌}
use Rattle.map.specs.Names.{PWM_RAMP_CONTROL, CONFIGURATION, LOCK}
use Rattle.map.specs.Tables.{defaults, writables, lock_marks, homes}
use Rattle.map.specs.Map.{writable_of, lock_marked, home_of}
use Rattle.map.specs.Bits.{is_set}
use Rattle.map.specs.Kind.{kind_of}
use Rattle.map.specs.Slave.{slave_address}
use Rattle.map.specs.FanBytes.{byte_of_kind, fan_byte_at}
use Rattle.state.specs.declared.Chip.{Chip}
use Rattle.state.specs.Parts.{register_at}
use Rattle.state.specs.With.{with_register}
use Rattle.state.specs.PowerOn.{default_setup, power_on}
use Rattle.bus.specs.Latch.{latch_by, latch_after, transacted_pin, is_ours, transacted}
use Rattle.bus.specs.Write.{stored_byte, stored, change_kind, is_shut, change_home, change_of, changed, wrote_register, wrote_byte}
use Rattle.bus.specs.Read.{given_register, kept_as, kept_after, kept_chip, read_byte}
use Rattle.bus.specs.Changes.{register_keeps_pin}
use Rattle.bus.specs.Transactions.{held_same, held_stays}
use Rattle.event.specs.declared.Event.TheVariants.{Write, Read}
use Rattle.event.specs.declared.Answer.TheVariants.{Acknowledged, Byte}
use Rattle.event.specs.Event.{event_in, refusal_of, written_answer, seen_answer, read_answer, taken_step, stepped_chip}
use Rattle.event.specs.Run.{alone, answers_to}
use Rattle.theorems.specs.LockMarks.{marked_read}

-- the chip at power-on after a transaction for its address, 2Ch at pin level 0
abbrev latched : Chip
latched = transacted (power_on default_setup) 0x2C

held : latched.pin.latch ≡ Some 0x2C
unfolding transacted transacted_pin latch_after latch_by slave_address power_on default_setup
held = refl

-- a read for our address, and a write
module _ (c : Chip) (ours : (transacted c 0x2C).pin.latch ≡ Some 0x2C) (a : ℕ) where
  reads : stepped_chip c (Read 0x2C a) [] ≡ record { chip = kept_chip (transacted c 0x2C) a; answer = Byte (Some (given_register (transacted c 0x2C) a)) }
  unfolding stepped_chip refusal_of event_in taken_step read_answer seen_answer read_byte is_ours
  reads = rw ours

  writes : (byte : ℕ) → stepped_chip c (Write 0x2C a byte) [] ≡ record { chip = wrote_register (transacted c 0x2C) a byte; answer = Acknowledged true }
  unfolding stepped_chip refusal_of event_in taken_step written_answer wrote_byte is_ours
  writes byte = rw ours

-- a read of BFh, which is no byte of a fan count, keeps and drops nothing
unkept : (c : Chip) → kept_chip c PWM_RAMP_CONTROL ≡ c
unfolding kept_after kept_as fan_byte_at byte_of_kind kind_of home_of homes
unkept c = refl

-- a write to BFh, all of whose bits are writable
written : (c : Chip) → is_set (register_at c CONFIGURATION) LOCK ≡ false → (byte : ℕ) → wrote_register c PWM_RAMP_CONTROL byte ≡ with_register c PWM_RAMP_CONTROL (stored_byte (register_at c PWM_RAMP_CONTROL) 0xFF byte)
unfolding wrote_register changed change_of change_home change_kind is_shut stored home_of homes kind_of writable_of writables lock_marked lock_marks
written c unlocked byte = rw unlocked

-- with 01h written to BFh
abbrev changed_BFh : Chip
changed_BFh = wrote_register latched PWM_RAMP_CONTROL 0x01

still_held : changed_BFh.pin.latch ≡ Some 0x2C
still_held = rw (register_keeps_pin latched PWM_RAMP_CONTROL 0x01) held

-- what a read of BFh shows before, and after
read_before : given_register latched PWM_RAMP_CONTROL ≡ 0x00
unfolding lock_marked lock_marks register_at transacted power_on defaults
read_before = marked_read latched PWM_RAMP_CONTROL tt

read_after : given_register changed_BFh PWM_RAMP_CONTROL ≡ 0x01
unfolding lock_marked lock_marks register_at with_register stored_byte is_set transacted power_on defaults
read_after = marked_read changed_BFh PWM_RAMP_CONTROL tt ∙ rw (written latched refl 0x01)

-- BFh has 00h at power-on, and 01h after W 2C BF 01
pub write_is_read : answers_to (power_on default_setup) (alone (Read 0x2C 0xBF) ∷ alone (Write 0x2C 0xBF 0x01) ∷ alone (Read 0x2C 0xBF) ∷ []) ≡ Byte (Some 0x00) ∷ Acknowledged true ∷ Byte (Some 0x01) ∷ []
unfolding answers_to
write_is_read =
    rw (reads (power_on default_setup) held 0xBF, unkept latched, writes latched (held_stays latched 0x2C held) 0xBF 0x01, held_same latched 0x2C held)
    (rw (reads changed_BFh (held_stays changed_BFh 0x2C still_held) 0xBF, held_same changed_BFh 0x2C still_held, read_before, read_after))
