use Rattle.std.proofs.Common.{rules}
use Rattle.text.specs.Answers.{BLOCK_ROOM, digit_of}
use Rattle.text.specs.Written.{with_room, block_some, block_length}
use Rattle.text.proofs.Outputs.{then}
use Rattle.text.proofs.write_block_shown.Goals as goal

pub returns : goal.returns
unfolding digit_of
returns c =
    let all = c.args.bytes.now in
    let some = block_some all c.if-bytes-gt-BLOCK_MOST.false in
    let w = then c.head.ensures (then c.hex.ensures.writes (then c.hexes.ensures.writes c.end.ensures.writes)) in
    let h = with_room BLOCK_ROOM c.if-out-lt-BLOCK_ROOM.false (block_length all) (rw (← some) at w.wrote) in
    search (rules, h)
