use Rattle.std.proofs.Common.{◌≡◌, ◌%◌, FitsSigned, arith}
use lib.Signed.{shr_z}
use mir.Syntax.{w16}
use mir.Facts.{to_z-of_z}
use Rattle.temperature.specs.Temperature.{DEGREE, whole_of}
use Rattle.temperature.specs.Sixteenths.{down_mag}
use Rattle.temperature.specs.Raised.{raised, raised_byte}
use Rattle.temperature.proofs.whole.Goals as goal

pub returns : goal.returns
unfolding whole_of
returns c =
    let f = c.ranges.n in
    let d = shr_z c.args.n DEGREE in
    let g : FitsSigned w16 d = omega (arith, f, down_mag c.args.n DEGREE) in
    let e : raised d % 65536 % 256 ≡ raised d % 256 = omega arith in
    rw (c.bits_of.ensures, to_z-of_z f, to_z-of_z g, e) (raised_byte d (omega (arith, g)))
