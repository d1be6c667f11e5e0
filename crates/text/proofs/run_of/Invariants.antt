-- v and the digits that are left spell the number, up to 65535.
use Rattle.std.proofs.Common.{◌≡◌, ◌≤◌, drop, min}
use Rattle.text.specs.Number.{all_digits, value_of, top}
use Rattle.text.proofs.run_of.Given as goal

abbrev pub invariant-loop-b : goal.invariant-loop-b
invariant-loop-b l =
    record {
      held : l.v ≤ top;
      same_digits : all_digits (drop l.b-index l.s) ≡ all_digits l.s;
      same_value : min (value_of l.v (drop l.b-index l.s)) top ≡ min (value_of 0 l.s) top;
    }
