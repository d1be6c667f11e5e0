-- A listed block is a part of the dump. Assumes nothing.
use Rattle.std.specs.Prelude.{◌≡◌, ℕ, ◌+◌, ◌<◌, take, drop, get_or}
use Rattle.std.proofs.Math.Path.{sym}
use Rattle.std.proofs.Common.{◌∙◌, length-take, get_or-take}
use native.Mathlib.Omega.{arith}
use Rattle.std.proofs.Math.ListN.{length, length-drop}
use Rattle.std.proofs.Math.Seq.{get_or-drop, ext_get_or}
use Rattle.laws.specs.Tab.{tab_at}
use Rattle.map.specs.Blocks.{fixed, block_of, block_within}
use Rattle.state.specs.declared.Chip.{Chip}
use Rattle.bus.specs.Latch.{transacted}
use Rattle.bus.specs.Read.{shown_register}
use Rattle.bus.specs.Dump.{shown_all, all_long, shown_at}
use Rattle.bus.specs.Block.{block_place, block_bytes, read_block}
use Rattle.bus.specs.BlockAnswers.{for_listed}
use Rattle.bus.specs.BlockPart.{block_long, transacted_shown}

module _ (command : ℕ) {first count : ℕ} (listed : block_of command ≡ fixed first count) where
  -- byte k stands in the register first + k
  pub place_within : (k : ℕ) → k < count → block_place first k ≡ first + k
  unfolding block_place
  place_within k h = let w = block_within command listed in omega arith

  module _ (c : Chip) where
    -- and is its present byte
    pub block_at : (k : ℕ) → k < count → get_or (block_bytes c first count) k 0 ≡ shown_register c (first + k)
    unfolding block_bytes
    block_at k h = tab_at _ count k 0 h ∙ rw (place_within k h)

    -- the block is the part of the dump that starts at its first register and has its count
    pub block_part : block_bytes c first count ≡ take count (drop first (shown_all c))
    unfolding block_bytes
    block_part =
        let w = block_within command listed in
        let long = block_long c first count in
        let same : length (take count (drop first (shown_all c))) ≡ count = simp (length-take, length-drop, all_long) (omega arith) in
        ext_get_or 0 _ _ (long ∙ sym same) (λ k h. let l : k < count = omega arith in block_at k l ∙ sym (get_or-take count (drop first (shown_all c)) k 0 l ∙ get_or-drop first (shown_all c) k 0 ∙ shown_at c (first + k) (omega arith)))

-- a transaction as such changes nothing of the dump; so a block read shows the part of the dump, of the chip that it finds and of the one
-- that it leaves
module _ (c : Chip) (address : ℕ) where
  pub block_read_part : (command : ℕ) {first count : ℕ} → (read_block c address command).block ≡ fixed first count → block_bytes (read_block c address command).chip first count ≡ take count (drop first (shown_all c))
  unfolding read_block
  block_read_part command e =
      block_part command (for_listed (transacted c address).pin.latch address command e).1 (transacted c address) ∙ rw transacted_shown
