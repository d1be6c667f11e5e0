use Rattle.std.proofs.Common.{rules, ◌≡◌, true, false, get_or, min, sym, ◌∙◌, arith}
use Rattle.text.specs.Number.{is_digit, value_of, top, one_more}
use Rattle.text.specs.Run.{digits_left_other, digits_left_digit, value_left_digit, digits_left_none, value_left_none, value_top, run_digits, run_other}
use Rattle.text.proofs.run_of.Goals as goal

pub returns-then-not-is_ascii_digit : goal.returns-then-not-is_ascii_digit
unfolding is_digit
returns-then-not-is_ascii_digit c =
    let s = c.args.s.now in
    let i = c.loop-b.b-index in
    let other : is_digit (get_or s i 0) ≡ false = search rules in
    sym (run_other s (sym c.loop-b.invariant.same_digits ∙ digits_left_other s i c.loop-b-test.true other))

pub loop-b-preserved : goal.loop-b-preserved
unfolding one_more is_digit
loop-b-preserved c =
    let s = c.args.s.now in
    let i = c.loop-b.b-index in
    let more = c.loop-b-test.true in
    let digit : is_digit (get_or s i 0) ≡ true = search rules in
    record {
      held = omega (arith, c.one_more-v.ensures);
      same_digits = sym (digits_left_digit s i more digit) ∙ c.loop-b.invariant.same_digits;
      same_value = rw (c.one_more-v.ensures, value_top, ← value_left_digit s i more c.loop-b.v) c.loop-b.invariant.same_value;
    }

pub returns : goal.returns
returns c =
    let s = c.args.s.now in
    let i = c.loop-b.b-index in
    let e = digits_left_none s i c.loop-b-test.false in
    let v : c.loop-b.v ≡ min (value_of 0 s) top = omega (arith, value_left_none s i c.loop-b-test.false c.loop-b.v) in
    rw (run_digits s (sym c.loop-b.invariant.same_digits ∙ e), ← v)
