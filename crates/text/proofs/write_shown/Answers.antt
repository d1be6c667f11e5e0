use Rattle.std.proofs.Common.{rules, arith}
use Rattle.text.specs.Answers.{ROOM, digit_of, byte_text}
use Rattle.text.specs.Written.{with_room, byte_length}
use Rattle.text.proofs.Outputs.{then}
use Rattle.text.proofs.write_shown.Goals as goal

pub returns : goal.returns
unfolding digit_of byte_text
returns c =
    let w = then c.head.ensures (then c.hex.ensures.writes c.end.ensures.writes) in
    let h = with_room ROOM c.if-out-lt-ROOM.false (omega (arith, byte_length c.args.byte)) w.wrote in
    search (rules, h)
