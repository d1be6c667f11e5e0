-- `drive::Table::look_down` meets its contract: what is left of the look downward stays how it ends, and the sum is that of the offsets up to
-- the step. Assumes nothing.
use mathlib.Core.Path.{◌≡◌, sym, ◌∙◌}
use mathlib.Core.List.{List}
use Prim.Native.Nat.{ℕ, suc, ◌+◌, ◌-◌, ◌<◌}
use native.Mathlib.Omega.{arith}
use lib.ListN.{get_or}
use mir.Facts.{to_z-of_z}
use Rattle.drive.specs.Tables.{lent, sum_to, threshold_reached}
use Rattle.drive.specs.Search.{downward}
use Rattle.drive.specs.SearchTurns.{down_more, down_stop, sum_back}
use Rattle.drive.proofs.Table.look_down.Goals as goal

-- the sum is that of the threshold below the step
sum_at : {sum k : ℕ} (offsets : List ℕ) → 0 < k → sum ≡ sum_to offsets k → sum ≡ sum_to offsets (suc (k - 1))
sum_at {sum} {k} offsets l s = let e : suc (k - 1) ≡ k = omega arith in rw e s

-- with one offset less, the sum is that of the threshold before
sum_less : {sum offset k : ℕ} (offsets : List ℕ) → 0 < k → sum ≡ sum_to offsets k → offset ≡ get_or offsets (k - 1) 0 → sum ≡ sum_to offsets (k - 1) + offset
sum_less {k = k} offsets l s o = omega (arith, sum_back offsets k l)

-- a turn's test is that of the threshold
pub returns-then-is_reached : goal.returns-then-is_reached
unfolding threshold_reached
returns-then-is_reached c =
    let a = c.args in
    let l = c.loop-step in
    let P = threshold_reached (lent a.self.now) a.held in
    let held = to_z-of_z c.ranges.held in
    let so_far = rw held at l.invariant.2 in
    let test = rw (held, sum_at a.self.now.offsets.now c.loop-step-test.true l.invariant.1) at c.is_reached.ensures in
    let back : l.step - 1 + 1 ≡ l.step = omega arith in
    rw back (sym (so_far ∙ down_stop P _ _ c.loop-step-test.true (sym test ∙ c.if-is_reached.true)))

pub overflow_sub-sum : goal.overflow_sub-sum
overflow_sub-sum c =
    omega (arith, sum_less c.args.self.now.offsets.now c.loop-step-test.true c.loop-step.invariant.1 c.from-sum.ensures)

pub loop-step-preserved : goal.loop-step-preserved
unfolding threshold_reached
loop-step-preserved c =
    let a = c.args in
    let l = c.loop-step in
    let P = threshold_reached (lent a.self.now) a.held in
    let held = to_z-of_z c.ranges.held in
    let so_far = rw held at l.invariant.2 in
    let test = rw (held, sum_at a.self.now.offsets.now c.loop-step-test.true l.invariant.1) at c.is_reached.ensures in (
      omega arith,
      omega (arith, sum_less a.self.now.offsets.now c.loop-step-test.true l.invariant.1 c.from-sum.ensures),
      rw held (so_far ∙ down_more P _ _ c.loop-step-test.true (sym test ∙ c.if-is_reached.false)),
    )

pub returns : goal.returns
unfolding downward
returns c =
    let so_far = rw (to_z-of_z c.ranges.held) at c.loop-step.invariant.2 in
    let zero : c.loop-step.step ≡ 0 = omega arith in
    sym (rw zero at so_far)
