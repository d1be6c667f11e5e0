use Rattle.std.proofs.Common.{◌≡◌, length, arith, ap, rules}
use Rattle.text.specs.Fields.{fields_of}
use Rattle.text.specs.Walk.{others_left_tab, others_left_byte, others_left_none}
use Rattle.text.proofs.count_fields.Goals as goal
use Rattle.text.proofs.count_fields.Goals.{then-b-eq-TAB, else-b-eq-TAB}

pub loop-b-init : goal.loop-b-init
unfolding fields_of
loop-b-init c = search rules

pub loop-b-preserved : goal.loop-b-preserved
unfolding fields_of
loop-b-preserved c =
    let s = c.args.s.now in
    let i = c.loop-b.b-index in
    let more = c.loop-b-test.true in
    elim c.if-b-eq-TAB.branch [
      | then-b-eq-TAB w ↦ omega (arith, w.n-is, ap length (others_left_tab s i more w.if-b-eq-TAB.true))
      | else-b-eq-TAB w ↦ omega (arith, w.n-is, ap length (others_left_byte s i more w.if-b-eq-TAB.false))
    ]

pub returns : goal.returns
returns c =
    omega (arith, ap length (others_left_none c.args.s.now c.loop-b.b-index c.loop-b-test.false))
