-- `drive::Table::search_taken` meets its contract: it looks upward, and downward where it has not moved. Assumes nothing.
use mathlib.Core.Path.{◌≡◌, ◌∙◌}
use Prim.Native.Nat.{ℕ, ◌*◌, ◌≤◌}
use native.Mathlib.Nat.{mul-le-mul}
use native.Mathlib.Omega.{arith}
use lib.IntN.{ℤ, pos, ◌+ℤ◌}
use mir.Syntax.{w8, w16, w64}
use mir.Val.{Fits, SFits, to_z, of_z}
use mir.Facts.{to_z-of_z}
use borrow.Author.Rules.{rules}
use Rattle.laws.specs.Magnitude.{mag_plus}
use Rattle.drive.specs.declared.Look.{Look}
use Rattle.drive.specs.Tables.{Table, lent, threshold_reached}
use Rattle.drive.specs.Search.{look_up, LooksUp}
use Rattle.drive.specs.SearchEnds.{start, up, look_inside, search_stayed, search_moved}
use Rattle.drive.specs.SearchCount.{look_within}
use Rattle.drive.proofs.Table.search_taken.Goals as goal

-- reading plus hysteresis is far inside an i64
module _ {unit hysteresis : ℕ} (u : Fits w8 unit) (h : Fits w8 hysteresis) where
  rise : unit * hysteresis ≤ 255 * 255
  rise = mul-le-mul {n₂ = 255} {m₂ = 255} (omega arith) (omega arith)

  rise64 : SFits w64 (pos (unit * hysteresis))
  rise64 = omega (arith, rise)

  held64 : {n : ℤ} → SFits w16 n → SFits w64 (n +ℤ pos (unit * hysteresis))
  held64 {n} n16 = omega (arith, mag_plus n (unit * hysteresis), n16, rise)

-- what the look upward promises of the reading that it is handed
taken_up : (t : Table) (old : ℕ) {n reading : ℤ} {look : Look} → SFits w16 n → reading ≡ to_z w16 (of_z w16 n) → SFits w64 reading → LooksUp t.offsets (look_up (threshold_reached t (to_z w64 (of_z w64 reading))) (start t old)) look → LooksUp t.offsets (up t old n) look
taken_up t old n16 e r64 l = rw (to_z-of_z r64, e ∙ to_z-of_z n16) at l

pub look_down-requires : goal.look_down-requires
look_down-requires c =
    let a = c.args in
    let t = lent a.self.now in
    let l = taken_up t a.old c.ranges.n c.from-reading.ensures (search rules) c.look_up-up.ensures in
    (look_inside t a.old a.n l, omega (arith, l.compared, look_within t a.old a.n), l.sum)

pub returns-then-up-from : goal.returns-then-up-from
unfolding threshold_reached
returns-then-up-from c =
    let a = c.args in
    let t = lent a.self.now in
    let n = c.ranges.n in
    let u : Fits w8 a.self.now.unit = search rules in
    let h : Fits w8 a.self.now.hysteresis = search rules in
    let reading64 : SFits w64 c.from-reading.result = search rules in
    let unit64 : SFits w64 c.from.result = search rules in
    let hysteresis64 : SFits w64 c.from-2.result = search rules in
    let l = taken_up t a.old n c.from-reading.ensures reading64 c.look_up-up.ensures in
    let plain = simp (to_z-of_z, reading64, unit64, hysteresis64) at c.look_down.ensures in
    let down = simp (c.from-reading.ensures, c.from.ensures, c.from-2.ensures, to_z-of_z, n, rise64 u h, held64 u h n) at plain in
    down ∙ search_stayed t a.old a.n l (omega (arith, c.if-up-from.true, c.from-3.ensures))

pub overflow_cast-result : goal.overflow_cast-result
overflow_cast-result c =
    let a = c.args in
    let t = lent a.self.now in
    let l = taken_up t a.old c.ranges.n c.from-reading.ensures (search rules) c.look_up-up.ensures in
    omega (arith, look_inside t a.old a.n l)

pub returns : goal.returns
returns c =
    let a = c.args in
    let t = lent a.self.now in
    let l = taken_up t a.old c.ranges.n c.from-reading.ensures (search rules) c.look_up-up.ensures in
    search_moved t a.old a.n l (omega (arith, c.if-up-from.false, c.from-3.ensures))
