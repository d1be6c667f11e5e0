-- The fields from field `left` on of what is left are those from field k on of the line.
use Rattle.std.proofs.Common.{◌≡◌, ℕ, ◌+◌, drop}
use Rattle.text.specs.Fields.{field_at}
use Rattle.text.proofs.field_start.Given as goal

abbrev pub invariant-loop-i : goal.invariant-loop-i
invariant-loop-i l = (j : ℕ) → field_at (drop l.i l.s) (l.left + j) ≡ field_at l.s (l.k + j)
