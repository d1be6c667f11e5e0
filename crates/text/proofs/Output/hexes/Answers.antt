use Rattle.std.proofs.Common.{arith}
use Rattle.text.specs.Written.{bytes_more}
use Rattle.text.proofs.Outputs.{then}
use Rattle.text.proofs.Output.hexes.Goals as goal

pub loop-b-preserved : goal.loop-b-preserved
loop-b-preserved c =
    let so_far = c.loop-b.invariant in
    record {
      writes = rw (bytes_more c.args.bytes.now c.loop-b.b-index c.loop-b-test.true) (then so_far.writes c.hex.ensures.writes);
      three = omega (arith, so_far.three, c.hex.ensures.three);
    }
