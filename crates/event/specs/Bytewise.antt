-- Document 02, Q-1: a block write that is acknowledged "equals its byte writes in rising order": W events for its registers, one after the
-- other, each of them acknowledged. Assumes nothing.
use Rattle.std.specs.Prelude.{◌≡◌, ℕ, suc, ◌≤◌, length, replicate, Option, Some, None}
use Rattle.std.proofs.Math.Path.{refl, ap}
use Rattle.std.proofs.Common.{◌∙◌, arith, le-leb}
use Rattle.std.proofs.Math.Bool.{true}
use mathlib.Core.List.{List, [], ◌∷◌}
use Rattle.laws.specs.Never.{never}
use Rattle.state.specs.declared.Chip.{Chip}
use Rattle.bus.specs.Latch.{latch_by, latch_after, transacted_pin, is_ours, transacted}
use Rattle.bus.specs.Write.{wrote_register, wrote_byte}
use Rattle.bus.specs.Changes.{register_keeps_pin}
use Rattle.bus.specs.Transactions.{after, after_all}
use Rattle.bus.specs.Bytewise.{writes}
use Rattle.bus.proofs.Bytewise.{block_bytewise}
use Rattle.event.specs.declared.Event.TheVariants.{Write, WriteBlock}
use Rattle.event.specs.declared.Answer.{Answer}
use Rattle.event.specs.declared.Answer.TheVariants.{Acknowledged}
use Rattle.event.specs.declared.Stepped.{Stepped}
use Rattle.event.specs.Event.{event_in, written_answer, written_block_answer, taken_step, stepped_chip}
use Rattle.event.specs.Run.{Given, alone, chip_after, answers_to}
use Rattle.event.specs.Refusal.{in_number, step_taken}
use Rattle.event.specs.Blocks.{WritesBlock, writes_taken}

-- byte writes to one register after the other
unfoldable pub writes_of : ℕ → ℕ → List ℕ → List Given
writes_of address a [] = []
writes_of address a (b ∷ bytes) = alone (Write address a b) ∷ writes_of address (suc a) bytes

-- an address that is ours stays ours
ours_stays : (latch : Option ℕ) (level address : ℕ) → is_ours latch address ≡ true → is_ours (latch_by latch level address) address ≡ true
unfolding is_ours latch_by
ours_stays None level address e = absurd (never (cc))
ours_stays (Some ours) level address e = e

module _ (address : ℕ) (low : address ≤ 0x7F) where
  -- a byte write for an address of seven bits is taken
  write_taken : (c : Chip) (a byte : ℕ) → stepped_chip c (Write address a byte) [] ≡ written_answer (wrote_byte c address a byte)
  unfolding event_in taken_step
  write_taken c a byte =
      step_taken c (Write address a byte) [] (in_number _ [] (omega arith) (le-leb address 0x7F low))

  -- the events leave the chip that the transactions leave
  writes_leave : (c : Chip) (a : ℕ) (bytes : List ℕ) → chip_after c (writes_of address a bytes) ≡ after_all c (writes address a bytes)
  unfolding writes_of chip_after writes after after_all written_answer
  writes_leave c a [] = refl
  writes_leave c a (b ∷ bytes) =
      ap (λ (s : Stepped). chip_after s.chip (writes_of address (suc a) bytes)) (write_taken c a b)
      ∙ writes_leave (wrote_byte c address a b).chip (suc a) bytes

  -- where the address is ours, each is acknowledged
  writes_answer : (c : Chip) (a : ℕ) (bytes : List ℕ) → is_ours (transacted c address).pin.latch address ≡ true → answers_to c (writes_of address a bytes) ≡ replicate (length bytes) (Acknowledged true)
  unfolding writes_of answers_to written_answer wrote_byte transacted transacted_pin latch_after
  writes_answer c a [] ours = refl
  writes_answer c a (b ∷ bytes) ours =
      let still : is_ours (transacted (wrote_register (transacted c address) a b) address).pin.latch address ≡ true = rw (register_keeps_pin (transacted c address) a b) (ours_stays (transacted c address).pin.latch _ address ours) in
      rw (write_taken c a b, ours) (ap (λ (l : List Answer). Acknowledged true ∷ l) (writes_answer (wrote_register (transacted c address) a b) (suc a) bytes still))

module _ (c : Chip) (address command : ℕ) (bytes : List ℕ) (w : WritesBlock c address command bytes) where
  -- the block write leaves the chip that the byte writes leave
  pub block_is_writes : (stepped_chip c (WriteBlock address command) bytes).chip ≡ chip_after c (writes_of address w.first bytes)
  unfolding taken_step written_block_answer
  block_is_writes =
      rw (step_taken c (WriteBlock address command) bytes (writes_taken c address command bytes w), writes_leave address w.block.low c w.first bytes) (block_bytewise c address command w.block.listed w.block.ours bytes refl)

  -- which are all acknowledged
  pub writes_acked : answers_to c (writes_of address w.first bytes) ≡ replicate (length bytes) (Acknowledged true)
  writes_acked = writes_answer address w.block.low c w.first bytes w.block.ours
