use Rattle.std.proofs.Common.{rules, arith}
use Rattle.text.specs.Answers.{ROOM, digit_of, no_byte_text}
use Rattle.text.specs.Written.{with_room, no_byte_length}
use Rattle.text.proofs.Outputs.{then}
use Rattle.text.proofs.write_not_shown.Goals as goal

pub returns : goal.returns
unfolding digit_of no_byte_text
returns c =
    let w = then c.head.ensures (then c.byte.ensures (then c.byte-2.ensures (then c.byte-3.ensures c.end.ensures.writes))) in
    let h = with_room ROOM c.if-out-lt-ROOM.false (omega (arith, no_byte_length c.args.letter)) w.wrote in
    search (rules, h)
