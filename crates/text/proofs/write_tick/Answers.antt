use Rattle.std.proofs.Common.{rules, arith}
use Rattle.text.specs.Answers.{ROOM, tick_text}
use Rattle.text.specs.Written.{with_room, tick_length}
use Rattle.text.proofs.Outputs.{then}
use Rattle.text.proofs.write_tick.Goals as goal

pub returns : goal.returns
unfolding tick_text
returns c =
    let a = c.args in
    let errors = then c.column-5.ensures.writes c.end.ensures.writes in
    let outputs = then c.column-3.ensures.writes (then c.column-4.ensures.writes errors) in
    let w = then c.head.ensures (then c.column.ensures.writes (then c.column-2.ensures.writes outputs)) in
    let l = tick_length a.alert a.duty1 a.duty2 a.output1 a.output2 a.errors (omega arith) (omega arith) (omega arith) (omega arith) in
    let h = with_room ROOM c.if-out-lt-ROOM.false l w.wrote in
    search (rules, h)
