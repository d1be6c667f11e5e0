-- What a block write keeps, and the parts of the chip that a block looks at. Assumes nothing.
use Rattle.std.specs.Prelude.{◌≡◌, true, List, ℕ, ◌+◌, ◌<◌, length, get_or, Option, Some, None}
use Rattle.std.proofs.Math.Path.{refl}
use Rattle.std.proofs.Common.{zero-add, arith}
use Rattle.map.specs.declared.Block.{Block}
use Rattle.map.specs.Blocks.{fixed, block_of}
use Rattle.state.specs.declared.Chip.{Chip}
use Rattle.bus.specs.Latch.{is_ours, transacted}
use Rattle.bus.specs.Write.{wrote_register}
use Rattle.bus.specs.Block.{block_for, counted_block, wrote_by, wrote_block}
use Rattle.bus.specs.BlockAnswers.{for_listed, counted_is}
use Rattle.bus.proofs.BlockPart.{place_within}
use Rattle.bus.specs.Blocks.{each_keeps}

-- so what a transaction as such and each byte write keep, a block write keeps
module _ (c : Chip) (address command : ℕ) (bytes : List ℕ) (P : Chip → Type 0) where
  -- where Q tells something of each byte and its register, if the block is acknowledged
  pub block_keeps : (Q : ℕ → ℕ → Type 0) → ((first : ℕ) → is_ours (transacted c address).pin.latch address ≡ true → block_of command ≡ fixed first (length bytes) → (i : ℕ) → i < length bytes → Q (first + i) (get_or bytes i 0)) → P (transacted c address) → ((d : Chip) (a byte : ℕ) → Q a byte → P d → P (wrote_register d a byte)) → P (wrote_block c address command bytes).chip
  unfolding wrote_block wrote_by
  block_keeps Q told p wrote = go (counted_block (length bytes) (block_for (transacted c address).pin.latch address command)) refl
    where
      go : (b : Option Block) → counted_block (length bytes) (block_for (transacted c address).pin.latch address command) ≡ b → P (wrote_by (transacted c address) b bytes).chip
      go None e = p
      go (Some block) e =
          let counted = counted_is (length bytes) _ e in
          let ours = for_listed (transacted c address).pin.latch address command counted.1 in
          each_keeps (λ d e. P d) Q (λ d e. wrote d) (transacted c address) (transacted c address) block.first 0 bytes (λ i h. rw (zero-add, place_within command ours.1 i (omega arith)) (told block.first ours.0 (rw counted.0 ours.1) i h)) p

  pub block_cases : P (transacted c address) → ((d : Chip) (a byte : ℕ) → P d → P (wrote_register d a byte)) → P (wrote_block c address command bytes).chip
  block_cases p wrote =
      block_keeps (λ a byte. Unit {0}) (λ first ours listed i h. tt) p (λ d a byte t. wrote d a byte)
