-- Document 02, Q-6, "Offsets now run from 0 to 63 in both tables.": how large the sums of a table's offsets are, of a setup that is taken.
-- Assumes nothing.
use Rattle.std.specs.Prelude.{ℕ, zero, suc, ◌*◌, ◌≤◌, List, ltb}
use Rattle.std.proofs.Common.{arith}
use Rattle.std.proofs.Math.ListN.{get_or}
use Rattle.laws.specs.Pointwise.{pick_each}
use Rattle.state.specs.declared.Setup.{Setup}
use Rattle.state.specs.Most.{OFFSET_MOST}
use Rattle.state.specs.Valid.{Valid, valid_offsets12, valid_offsets34}
use Rattle.drive.specs.Tables.{Table, table_of, sum_to}

-- k offsets in range
sum_le : (offsets : List ℕ) → ((k : ℕ) → get_or offsets k 0 ≤ OFFSET_MOST) → (k : ℕ) → sum_to offsets k ≤ k * OFFSET_MOST
unfolding sum_to
sum_le offsets h zero = omega arith
sum_le offsets h (suc k) = omega (arith, sum_le offsets h k, h k)

module _ (s : Setup) (v : Valid s) (control table : ℕ) where
  table_offset : (k : ℕ) → get_or (table_of s control table).offsets k 0 ≤ OFFSET_MOST
  unfolding table_of
  table_offset k = pick_each (λ (t : Table). get_or t.offsets k 0 ≤ OFFSET_MOST) (ltb table 2) (valid_offsets12 s v k) (valid_offsets34 s v k)

  -- twelve are at most 756 counts
  pub sum_most : (k : ℕ) → k ≤ 12 → sum_to (table_of s control table).offsets k ≤ 756
  sum_most k l = omega (arith, sum_le (table_of s control table).offsets table_offset k)
