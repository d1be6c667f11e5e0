-- The fields counted and those behind the next tab are the line's.
use Rattle.std.proofs.Common.{◌≡◌, ◌+◌, ◌≤◌, length, drop}
use Rattle.text.specs.Fields.{other_fields, fields_of}
use Rattle.text.proofs.count_fields.Given as goal

abbrev pub invariant-loop-b : goal.invariant-loop-b
invariant-loop-b l =
    (l.n ≤ l.b-index + 1) × (l.n + length (other_fields (drop l.b-index l.s)) ≡ length (fields_of l.s))
