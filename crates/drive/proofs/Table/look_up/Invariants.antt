-- `drive::Table::look_up` meets its contract: what is left of the look upward stays how it ends, and the sum is that of the offsets up to the
-- step. Assumes nothing.
use Rattle.std.proofs.Common.{◌≡◌, ◌*◌, ◌≤◌, min}
use Rattle.drive.specs.Tables.{lent, sum_to, threshold_reached}
use Rattle.drive.specs.Search.{look_up}
use Rattle.drive.specs.SearchTurns.{left_at}
use Rattle.drive.proofs.Table.look_up.Given as goal

abbrev pub invariant-loop-step : goal.invariant-loop-step
invariant-loop-step l =
    (l.compared ≤ l.step) × (l.sum ≤ 255 * l.step) × (l.sum ≡ sum_to l.self.offsets.now l.step) × (look_up (threshold_reached (lent l.self) l.reading) (min 12 l.old) ≡ left_at (threshold_reached (lent l.self) l.reading) (min 12 l.old) l.step l.compared)
