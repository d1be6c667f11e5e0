-- The duties up to duty k never fall.
use Rattle.std.specs.Prelude.{slice_get}
use Rattle.laws.specs.Tried.{Tried}
use Rattle.settings.specs.Settings.{rises_by}
use Rattle.settings.proofs.all_rise.Given as goal

abbrev pub invariant-loop-k : goal.invariant-loop-k
invariant-loop-k l = Tried (rises_by (slice_get l.entries)) 12 l.k
