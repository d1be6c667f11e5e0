-- Document 02, Q-1: a block write "equals its byte writes in rising order". Assumes nothing.
use Rattle.std.specs.Prelude.{◌≡◌, refl, true, ℕ, suc, ◌+◌, ◌≤◌, length, Option, Some, None}
use Rattle.std.proofs.Common.{sym, ◌∙◌, arith, eqb-true, eq-eqb}
use Rattle.std.proofs.Math.Path.{ap}
use mathlib.Core.List.{List, [], ◌∷◌}
use Rattle.laws.specs.Never.{never}
use Rattle.map.specs.Blocks.{fixed, block_of, block_within}
use Rattle.state.specs.declared.Chip.{Chip}
use Rattle.bus.specs.Latch.{is_ours, transacted}
use Rattle.bus.specs.Write.{wrote_register, wrote_byte}
use Rattle.bus.specs.Changes.{register_keeps_pin}
use Rattle.bus.specs.Block.{block_place, wrote_from, wrote_block}
use Rattle.bus.specs.BlockAnswers.{listed_block_write}
use Rattle.bus.specs.Transactions.{after, after_all, held_same}
use Rattle.bus.specs.Bytewise.{writes}

ours_held : (l : Option ℕ) (address : ℕ) → is_ours l address ≡ true → l ≡ Some address
unfolding is_ours
ours_held None address e = absurd (never (cc))
ours_held (Some ours) address e = ap Some (eqb-true ours address e)

-- where our address is latched, a byte write writes its register
held_write : (c : Chip) (address a byte : ℕ) → c.pin.latch ≡ Some address → (wrote_byte c address a byte).chip ≡ wrote_register c a byte
unfolding wrote_byte is_ours
held_write c address a byte held = rw (held_same c address held, held, eq-eqb address address refl)

held_writes : (c : Chip) (address first k register : ℕ) (bytes : List ℕ) → c.pin.latch ≡ Some address → register ≡ first + k → register + length bytes ≤ 256 → wrote_from c first k bytes ≡ after_all c (writes address register bytes)
unfolding writes after after_all wrote_from block_place
held_writes c address first k register [] held e h = refl
held_writes c address first k register (b ∷ bytes) held e h =
    let place : block_place first k ≡ register = omega arith in
    rw place (held_writes (wrote_register c register b) address first (suc k) (suc register) bytes (rw (register_keeps_pin c register b) held) (omega arith) (omega arith)) ∙ ap (λ (d : Chip). after_all d (writes address (suc register) bytes)) (sym (held_write c address register b held))

module _ (c : Chip) (address command : ℕ) {first count : ℕ} (listed : block_of command ≡ fixed first count) (ours : is_ours (transacted c address).pin.latch address ≡ true) where
  -- what the block write writes, byte writes to its registers write
  pub block_bytewise : (bytes : List ℕ) → length bytes ≡ count → (wrote_block c address command bytes).chip ≡ after_all c (writes address first bytes)
  unfolding writes after after_all wrote_byte
  block_bytewise [] n = let w = block_within command listed in absurd (omega arith)
  block_bytewise (b ∷ bytes) n =
      let w = block_within command listed in
      let held = ours_held (transacted c address).pin.latch address ours in
      let same : (wrote_byte (transacted c address) address first b).chip ≡ (wrote_byte c address first b).chip = held_write (transacted c address) address first b held ∙ rw ours in
      rw (listed_block_write c address command listed ours (b ∷ bytes) n) (held_writes (transacted c address) address first 0 first (b ∷ bytes) held (omega arith) (omega arith) ∙ ap (λ (d : Chip). after_all d (writes address (suc first) bytes)) same)
