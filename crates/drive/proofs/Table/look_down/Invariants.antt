-- `drive::Table::look_down` meets its contract: what is left of the look downward stays how it ends, and the sum is that of the offsets up to
-- the step. Assumes nothing.
use Rattle.std.proofs.Common.{◌≡◌, ◌+◌, ◌≤◌}
use Rattle.drive.specs.Tables.{lent, sum_to, threshold_reached}
use Rattle.drive.specs.Search.{downward}
use Rattle.drive.proofs.Table.look_down.Given as goal

abbrev pub invariant-loop-step : goal.invariant-loop-step
invariant-loop-step l =
    (l.step + l.compared ≤ 24) × (l.sum ≡ sum_to l.self.offsets.now l.step) × (downward (threshold_reached (lent l.self) l.held) l.initial.step l.initial.compared ≡ downward (threshold_reached (lent l.self) l.held) l.step l.compared)
