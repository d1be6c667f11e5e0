-- `drive::Table::is_reached` meets its contract. The threshold is far inside an i64, so the machine's numbers are those of the definition.
-- Assumes nothing.
use Prim.Native.Nat.{ℕ, ◌*◌, ◌≤◌}
use native.Mathlib.Nat.{mul-le-mul}
use native.Mathlib.Omega.{arith}
use lib.IntN.{ℤ, pos, ◌+ℤ◌, ◌*ℤ◌}
use mir.Syntax.{w8, w32, w64}
use mir.Val.{Fits, SFits}
use mir.Facts.{to_z-of_z}
use borrow.Author.Rules.{rules}
use Rattle.laws.specs.Magnitude.{mag_plus}
use Rattle.temperature.specs.Temperature.{DEGREE}
use Rattle.temperature.specs.Sixteenths.{degrees_mag}
use Rattle.drive.specs.Tables.{is_reached}
use Rattle.drive.proofs.Table.is_reached.Goals as goal

module _ {base : ℤ} (b : SFits w8 base) where
  degrees64 : SFits w64 (base *ℤ pos DEGREE)
  degrees64 = omega (arith, degrees_mag base, b)

module _ {unit sum : ℕ} (u : Fits w8 unit) (s : Fits w32 sum) where
  rise : unit * sum ≤ 255 * 4294967295
  rise = mul-le-mul {n₂ = 255} {m₂ = 4294967295} (omega arith) (omega arith)

  rise64 : SFits w64 (pos (unit * sum))
  rise64 = omega (arith, rise)

  threshold64 : {base : ℤ} → SFits w8 base → SFits w64 (base *ℤ pos DEGREE +ℤ pos (unit * sum))
  threshold64 {base} b = omega (arith, mag_plus (base *ℤ pos DEGREE) (unit * sum), degrees_mag base, b, rise)

pub returns : goal.returns
unfolding is_reached
returns c =
    let b : SFits w8 c.args.self.now.base = search rules in
    let u : Fits w8 c.args.self.now.unit = search rules in
    let s : Fits w32 c.args.sum = search rules in
    let f1 : SFits w64 c.from.result = search rules in
    let f2 : SFits w64 c.from-2.result = search rules in
    let f3 : SFits w64 c.from-3.result = search rules in
    let f4 : SFits w64 c.from-4.result = search rules in
    let r : SFits w64 c.args.reading = c.ranges.reading in
    let base = rw (to_z-of_z b) at c.from.ensures in
    simp (to_z-of_z, f1, f2, f3, f4, r) (simp (base, c.from-2.ensures, c.from-3.ensures, c.from-4.ensures, to_z-of_z, degrees64 b, rise64 u s, threshold64 u s b))
