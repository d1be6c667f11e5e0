use Rattle.std.proofs.Common.{◌≡◌, ◌+◌, ◌*◌, ◌%◌, arith}
use Rattle.sense.specs.Ones.{ones_four}
use Rattle.sense.proofs.ones_in.Goals as goal

pub returns : goal.returns
returns c =
    let same : c.from_le_bytes.result ≡ ((c.args.zones % 16 * 16 + c.args.fans % 16) * 256 + c.args.second) * 256 + c.args.first = omega (arith, c.from_le_bytes.ensures) in
    rw same (ones_four _ _ _ _ c.ranges.first.fits c.ranges.second.fits)
