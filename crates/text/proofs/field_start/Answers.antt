use Rattle.std.proofs.Common.{◌≡◌, ◌+◌, ◌-◌, ◌<◌, length, zero-add, sym, ◌∙◌, arith}
use Rattle.text.specs.Walk.{field_left_tab, field_left_byte, field_left_none}
use Rattle.text.proofs.field_start.Goals as goal
use Rattle.text.proofs.field_start.Goals.{then-b-eq-TAB, else-b-eq-TAB}

pub returns-then-left-eq0 : goal.returns-then-left-eq0
returns-then-left-eq0 c =
    record { within = omega arith; left = λ j. rw (zero-add j) at (rw c.if-left-eq0.true at (c.loop-i.invariant j)) }

pub loop-i-preserved : goal.loop-i-preserved
loop-i-preserved c =
    let s = c.args.s.now in
    let i = c.loop-i.i in
    let more : i < length s = omega arith in
    let some : 0 < c.loop-i.left = omega arith in
    λ j. elim c.if-b-eq-TAB.branch [
      | then-b-eq-TAB w ↦
          let e : c.if-b-eq-TAB.left + j ≡ c.loop-i.left + j - 1 = omega (arith, w.left-is) in
          rw e (sym (field_left_tab s i more w.if-b-eq-TAB.true (c.loop-i.left + j) (omega arith)) ∙ c.loop-i.invariant j)
      | else-b-eq-TAB w ↦ rw w.left-is (sym (field_left_byte s i more w.if-b-eq-TAB.false (c.loop-i.left + j) (omega arith)) ∙ c.loop-i.invariant j)
    ]

pub returns : goal.returns
returns c =
    let s = c.args.s.now in
    let e : length s ≡ c.loop-i.i = omega arith in
    let none = field_left_none s c.loop-i.i (omega arith) in
    record { within = omega arith; left = λ j. rw e (sym (none j) ∙ none (c.loop-i.left + j) ∙ c.loop-i.invariant j) }
