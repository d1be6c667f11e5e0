-- `drive::Table::look_up` meets its contract: what is left of the look upward stays how it ends, and the sum is that of the offsets up to the
-- step. Assumes nothing.
use mathlib.Core.Path.{◌≡◌, refl, sym, ap, ◌∙◌}
use mathlib.Core.List.{List}
use Prim.Native.Nat.{ℕ, suc, ◌+◌, min}
use native.Mathlib.Numerals.{add-one}
use native.Mathlib.Omega.{arith}
use lib.ListN.{get_or}
use mir.Facts.{to_z-of_z}
use Rattle.drive.specs.declared.Searched.{Searched}
use Rattle.drive.specs.Tables.{lent, sum_to, threshold_reached}
use Rattle.drive.specs.SearchTurns.{left_first, left_over, left_more, left_stop, left_none}
use Rattle.drive.proofs.Table.look_up.Goals as goal
use Rattle.drive.proofs.Table.look_up.Goals.{then-start-step+else-not-is_reached, else-start-step}

-- with one offset more, the sum is that of the next threshold
sum_more : {sum offset : ℕ} (offsets : List ℕ) (k : ℕ) → sum ≡ sum_to offsets k → offset ≡ get_or offsets k 0 → sum + offset ≡ sum_to offsets (suc k)
unfolding sum_to
sum_more offsets k s o = omega arith

pub loop-step-init : goal.loop-step-init
unfolding sum_to
loop-step-init c = (omega arith, omega arith, refl, left_first _ _)

-- a turn's test is that of the threshold
pub returns-then-not-is_reached : goal.returns-then-not-is_reached
unfolding threshold_reached
returns-then-not-is_reached c =
    let a = c.args in
    let l = c.loop-step in
    let P = threshold_reached (lent a.self.now) a.reading in
    let reading = to_z-of_z c.ranges.reading in
    let so_far = rw reading at l.invariant.3 in
    let test = rw (reading, sum_more a.self.now.offsets.now l.step l.invariant.2 c.from.ensures) at c.is_reached.ensures in
    let ends = so_far ∙ left_stop P (min 12 a.old) _ l.compared (omega arith) (omega arith) (sym test ∙ c.if-not-is_reached.true) in
    record { step = sym (ap (λ (s : Searched). s.step) ends); compared = sym (ap (λ (s : Searched). s.compared) ends); sum = l.invariant.2 }

pub loop-step-preserved : goal.loop-step-preserved
unfolding threshold_reached
loop-step-preserved c =
    let a = c.args in
    let l = c.loop-step in
    let P = threshold_reached (lent a.self.now) a.reading in
    let reading = to_z-of_z c.ranges.reading in
    let so_far = rw reading at l.invariant.3 in
    let more = sum_more a.self.now.offsets.now l.step l.invariant.2 c.from.ensures in (
      elim c.if-start-step.branch [
        | then-start-step+else-not-is_reached w ↦ omega (arith, w.compared-is)
        | else-start-step w ↦ omega (arith, w.compared-is)
      ],
      omega arith,
      more ∙ rw add-one,
      rw reading (so_far ∙ elim c.if-start-step.branch [
        | then-start-step+else-not-is_reached w ↦
            let test = rw (reading, more) at w.is_reached.ensures in
            rw w.compared-is (left_more P (min 12 a.old) _ _ (omega (arith, w.if-start-step.true)) (omega arith) (sym test ∙ w.if-not-is_reached.false))
        | else-start-step w ↦ rw w.compared-is (left_over P (min 12 a.old) _ _ (omega (arith, w.if-start-step.false)))
      ]),
    )

pub returns : goal.returns
returns c =
    let a = c.args in
    let P = threshold_reached (lent a.self.now) a.reading in
    let so_far = rw (to_z-of_z c.ranges.reading) at c.loop-step.invariant.3 in
    let twelve : c.loop-step.step ≡ 12 = omega arith in
    let ends = rw twelve at so_far ∙ left_none P (min 12 a.old) c.loop-step.compared (omega arith) in
    record { step = sym (ap (λ (s : Searched). s.step) ends); compared = sym (ap (λ (s : Searched). s.compared) ends); sum = rw twelve at c.loop-step.invariant.2 }
