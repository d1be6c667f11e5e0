-- Document 02, Q-1: "the fixed block commands that source document 000 lists, each with its first register and its count". F2h to FDh, of
-- 000's register summary; FCh begins at D0h there (the table of 6.3.1.5.2 has a slip, D00h). Assumes nothing.
use Rattle.std.specs.Prelude.{◌≡◌, Bool, Option, Some, None, List, [], ◌∷◌, ℕ, ◌+◌, ◌-◌, ◌≤◌, ◌<◌, T, leb, get_or}
use Rattle.std.proofs.Math.Decide.{dec_lt}
use Rattle.std.proofs.Common.{arith, leb→le}
use borrow.Author.Tests.{le-leb, lt-leb}
use Rattle.laws.specs.Pick.{pick, both}
use Rattle.laws.specs.Both.{both_false}
use Rattle.laws.specs.Never.{never}
use Rattle.laws.specs.Table.{passes, entry}
use Rattle.map.specs.declared.Block.{Block}
use Rattle.map.specs.Names.{FIXED_BLOCK_0, FIXED_BLOCK_11}

-- the first register of each, from F2h on
unfoldable pub block_firsts : List ℕ
block_firsts = 0x40 ∷ 0x48 ∷ 0x50 ∷ 0x56 ∷ 0x67 ∷ 0x6E ∷ 0x78 ∷ 0x90 ∷ 0xB4 ∷ 0xC8 ∷ 0xD0 ∷ 0xE5 ∷ []

-- and its count
unfoldable pub block_counts : List ℕ
block_counts = 8 ∷ 8 ∷ 6 ∷ 16 ∷ 4 ∷ 8 ∷ 12 ∷ 32 ∷ 8 ∷ 8 ∷ 16 ∷ 9 ∷ []

-- a fixed block, by these two
abbrev pub fixed : ℕ → ℕ → Option Block
fixed first count = Some (record { first = first; count = count })

-- the block that a command names; F0h and F1h are no fixed blocks
unfoldable pub block_of : ℕ → Option Block
block_of command =
    pick (both (leb FIXED_BLOCK_0 command) (leb command FIXED_BLOCK_11))
    (fixed (get_or block_firsts (command - FIXED_BLOCK_0) 0) (get_or block_counts (command - FIXED_BLOCK_0) 0))
    None

-- ---- by where the command stands

module _ (command : ℕ) where
  pub block_listed : FIXED_BLOCK_0 ≤ command → command ≤ FIXED_BLOCK_11 → block_of command ≡ fixed (get_or block_firsts (command - FIXED_BLOCK_0) 0) (get_or block_counts (command - FIXED_BLOCK_0) 0)
  unfolding block_of
  block_listed l h = rw (le-leb FIXED_BLOCK_0 command l, le-leb command FIXED_BLOCK_11 h)

  pub block_below : command < FIXED_BLOCK_0 → block_of command ≡ None
  unfolding block_of
  block_below h = rw (lt-leb FIXED_BLOCK_0 command h)

  pub block_above : FIXED_BLOCK_11 < command → block_of command ≡ None
  unfolding block_of
  block_above h = rw (lt-leb command FIXED_BLOCK_11 h, both_false)

-- ---- all of them

-- a test passes at the first register and the count of every block
abbrev pub passes_all : (ℕ → ℕ → Bool) → Bool
passes_all f = passes (λ k first. f first (get_or block_counts k 0)) 0 block_firsts

-- then it passes at those of any block that a command names
pub block_test : (f : ℕ → ℕ → Bool) → T (passes_all f) → (command : ℕ) {block : Block} → block_of command ≡ Some block → T (f block.first block.count)
unfolding block_firsts
block_test f t command {block} e = go (dec_lt command FIXED_BLOCK_0) (dec_lt FIXED_BLOCK_11 command)
  where
    go : Dec (command < FIXED_BLOCK_0) → Dec (FIXED_BLOCK_11 < command) → T (f block.first block.count)
    go (yes l) h = absurd (never (cc (block_below command l)))
    go (no l) (yes h) = absurd (never (cc (block_above command h)))
    go (no l) (no h) =
        let k = command - FIXED_BLOCK_0 in
        let listed = block_listed command (omega arith) (omega arith) in
        let p : get_or block_firsts k 0 ≡ block.first = cc in
        let q : get_or block_counts k 0 ≡ block.count = cc in
        rw (← p, ← q) (entry (λ k first. f first (get_or block_counts k 0)) block_firsts t k (omega arith))

-- no block is empty, has more than 32 bytes or goes past the registers, which end at EFh
pub record Within (first count : ℕ) : Type 0 where
  pub some : 1 ≤ count
  pub most : count ≤ 32
  pub ends : first + count ≤ 0xF0

pub block_within : (command : ℕ) {block : Block} → block_of command ≡ Some block → Within block.first block.count
unfolding block_firsts block_counts
block_within command e = record {
  some = leb→le _ _ (block_test (λ first count. leb 1 count) tt command e);
  most = leb→le _ _ (block_test (λ first count. leb count 32) tt command e);
  ends = leb→le _ _ (block_test (λ first count. leb (first + count) 0xF0) tt command e);
}
