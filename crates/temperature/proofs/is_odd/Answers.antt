use Rattle.std.proofs.Common.{◌≡◌, ◌%◌, arith}
use mir.Facts.{to_z-of_z}
use Rattle.temperature.specs.Raised.{raised, raised_odd}
use Rattle.temperature.proofs.is_odd.Goals as goal

pub returns : goal.returns
returns c =
    let f = c.ranges.h in
    let e : raised c.args.h % 65536 % 2 ≡ raised c.args.h % 2 = omega arith in
    rw (c.bits_of.ensures, to_z-of_z f, e) (raised_odd c.args.h (omega (arith, f)))
