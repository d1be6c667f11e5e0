use Rattle.std.proofs.Common.{rules}
use Rattle.text.specs.Answers.{ROOM, refusal_text}
use Rattle.text.specs.Written.{with_room, refusal_length}
use Rattle.text.proofs.Outputs.{then}
use Rattle.text.proofs.write_refusal.Goals as goal

pub returns : goal.returns
unfolding refusal_text
returns c =
    let w = then c.byte.ensures (then c.column.ensures.writes (then c.column-2.ensures.writes c.end.ensures.writes)) in
    let h = with_room ROOM c.if-out-lt-ROOM.false (refusal_length c.args.number c.args.refusal) w.wrote in
    search (rules, h)
