-- After k turns the first k bytes are written.
use Rattle.std.proofs.Common.{◌≡◌, ◌+◌, ◌*◌, take}
use Rattle.text.specs.Answers.{Writes, bytes_text}
use Rattle.text.proofs.Output.hexes.Given as goal

abbrev pub invariant-loop-b : goal.invariant-loop-b
invariant-loop-b l =
    record {
      writes : Writes l.initial.self (bytes_text (take l.b-index l.bytes)) l.self;
      three : l.self.written ≡ l.initial.self.written + 3 * l.b-index;
    }
