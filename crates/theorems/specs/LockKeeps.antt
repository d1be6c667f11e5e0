-- What an event other than X leaves of the lock-marked registers while LOCK is set. Assumes nothing.
use Rattle.std.specs.Prelude.{◌≡◌, refl, List, [], ◌∷◌, ℕ, ◌-◌, T}
use Rattle.map.specs.Names.{CONFIGURATION, LOCK}
use Rattle.map.specs.Map.{lock_marked}
use Rattle.map.specs.Bits.{is_set}
use Rattle.state.specs.declared.Chip.{Chip}
use Rattle.state.specs.Parts.{register_at}
use Rattle.sense.specs.Missing.{missed}
use Rattle.sense.specs.Marks.{Marks}
use Rattle.sense.specs.Keeps.{hot_keeps, pin_keeps}
use Rattle.sense.proofs.Keeps.{temperature_keeps, voltage_keeps, fan_keeps}
use Rattle.sense.proofs.Alerts.{missed_marks}
use Rattle.bus.specs.Transactions.{write, write_block_lem, after, after_all, read_keeps, read_block_keeps}
use Rattle.bus.proofs.Locked.{all_locked}
use Rattle.drive.specs.TickOrder.{tick_keeps}
use Rattle.event.specs.declared.Event.{Event}
use Rattle.event.specs.declared.Event.TheVariants.{Temperature, Voltage, Fan, Hot, Pin, Tick, Reset, Write, Read, ReadBlock, WriteBlock}
use Rattle.event.specs.Event.{quiet_step, tick_answer, written_answer, read_answer, seen_block_answer, written_block_answer, taken_step}
use Rattle.event.specs.Run.{Given, given_step}
use Rattle.event.specs.Refusal.{step_cases}
use Rattle.theorems.specs.LockMarks.{marked_no_status}

-- d has the lock-marked registers of c
pub record Same (c d : Chip) : Type 0 where
  pub marked : (a : ℕ) → T (lock_marked a) → register_at d a ≡ register_at c a

module _ (c : Chip) (locked : T (is_set (register_at c CONFIGURATION) LOCK)) where
  -- the same register file, or one with marks
  same_file : (d : Chip) → d.registers ≡ c.registers → Same c d
  unfolding register_at
  same_file d e = record { marked = λ a m. rw e }

  marks_same : (d : Chip) → Marks c.registers d.registers → Same c d
  unfolding register_at
  marks_same d k = record { marked = λ a m. k.other a (marked_no_status a m) }

  -- an event other than X
  taken_same : (e : Event) (bytes : List ℕ) → (e ≡ Reset → ⊥) → Same c (taken_step c e bytes).chip
  unfolding taken_step quiet_step tick_answer written_answer read_answer seen_block_answer written_block_answer after after_all
  taken_same (Temperature zone s) bytes n = marks_same _ (temperature_keeps c (zone - 1) _).registers
  taken_same (Voltage channel k) bytes n = marks_same _ (voltage_keeps c (channel - 1) k).registers
  taken_same (Fan fan k) bytes n = marks_same _ (fan_keeps c (fan - 1) k).registers
  taken_same (Hot input level) bytes n = same_file _ (hot_keeps c (input - 1) _).registers
  taken_same (Pin level) bytes n = same_file _ (pin_keeps c _).registers
  taken_same Tick bytes n = marks_same _ (rw (tick_keeps (missed c)).registers (missed_marks c))
  taken_same Reset bytes n = absurd (n refl)
  taken_same (Write address a byte) bytes n = record { marked = (all_locked c locked (write address a byte ∷ [])).marked }
  taken_same (Read address a) bytes n = same_file _ (read_keeps c address a).registers
  taken_same (ReadBlock address command) bytes n = same_file _ (read_block_keeps c address command).rest.registers
  taken_same (WriteBlock address command) bytes n = record { marked = (all_locked c locked (write_block_lem address command bytes ∷ [])).marked }

  pub step_same : (g : Given) → (g.event ≡ Reset → ⊥) → Same c (given_step c g).chip
  step_same g n =
      step_cases c g.event g.bytes (Same c) (same_file c refl) (λ t. taken_same g.event g.bytes n)
