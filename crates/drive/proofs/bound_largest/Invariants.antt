-- `drive::bound_largest` meets its contract: after i turns the largest of the first i values that are bound. Assumes nothing.
use Rattle.std.proofs.Common.{◌≡◌}
use Rattle.drive.specs.Duties.{bound_largest}
use Rattle.drive.proofs.bound_largest.Given as goal

abbrev pub invariant-loop-i : goal.invariant-loop-i
invariant-loop-i l = l.largest ≡ bound_largest l.bound l.value-items l.i
