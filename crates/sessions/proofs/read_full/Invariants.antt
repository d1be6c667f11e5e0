use Rattle.std.proofs.Common.{◌≡◌, ◌≤◌, length}
use Rattle.sessions.proofs.read_full.Given as goal

abbrev pub invariant-loop : goal.invariant-loop
invariant-loop g l = (length l.input ≡ length l.initial.input) × (l.done ≤ length l.input)
