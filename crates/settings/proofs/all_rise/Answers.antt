use Rattle.std.specs.Prelude.{◌≡◌, ℕ, ◌+◌, ◌<◌, List, Some, slice_get, get_or, length}
use Rattle.std.proofs.Common.{arith, leb, le-leb, ap, ◌∙◌}
use Rattle.std.proofs.lemmas.Bool.{lt-leb}
use Rattle.std.proofs.lemmas.Option.{slice_get-get_or}
use Rattle.laws.specs.Tried.{tried_none, tried_more, tried_stop, tried_all}
use Rattle.text.specs.declared.Number.{Number}
use Rattle.text.specs.declared.Number.TheVariants.{Dash}
use Rattle.settings.specs.Places.{DUTIES, NUMBERS}
use Rattle.settings.specs.Settings.{rises_by, plain_of}
use Rattle.settings.proofs.all_rise.Goals as goal

module _ (es : List Number) (long : length es ≡ NUMBERS) where
  abbrev word : ℕ → ℕ
  word i = plain_of (Some (get_or es i Dash))

  -- by the words of duty k and the next
  rises : (k : ℕ) → k < 12 → {lower upper : ℕ} → lower ≡ word (DUTIES + k) → upper ≡ word (DUTIES + k + 1) → rises_by (slice_get es) k ≡ leb lower upper
  unfolding rises_by
  rises k l e h = rw (slice_get-get_or es (DUTIES + k) Dash (omega (arith, long)), slice_get-get_or es (DUTIES + k + 1) Dash (omega (arith, long)), e, h)

  -- a word at the place that is meant
  placed : {w i j : ℕ} → w ≡ word i → i ≡ j → w ≡ word j
  placed e p = e ∙ ap word p

pub loop-k-init : goal.loop-k-init
loop-k-init c = tried_none

pub loop-k-preserved : goal.loop-k-preserved
loop-k-preserved c =
    let es = c.args.entries.now in
    let n = c.told-entries in
    let r = rises es n c.loop-k.k c.loop-k-test.true (placed es n c.word_of-lower.ensures (omega arith)) (placed es n c.word_of-upper.ensures (omega arith)) in
    tried_more c.loop-k.invariant c.loop-k-test.true (r ∙ le-leb _ _ c.if-upper-lower.false)

pub returns-then-upper-lower : goal.returns-then-upper-lower
returns-then-upper-lower c =
    let es = c.args.entries.now in
    let n = c.told-entries in
    let r = rises es n c.loop-k.k c.loop-k-test.true (placed es n c.word_of-lower.ensures (omega arith)) (placed es n c.word_of-upper.ensures (omega arith)) in
    tried_stop c.loop-k.invariant c.loop-k-test.true (r ∙ lt-leb _ _ c.if-upper-lower.true)

pub returns : goal.returns
returns c = tried_all c.loop-k.invariant (omega (arith, c.loop-k-test.false))
