use Rattle.std.specs.Prelude.{◌≡◌, false, List, None, Some, ℕ, ◌≤◌, ◌<◌, ◌≢◌, slice_get, length, drop, get_or}
use Rattle.std.proofs.Common.{arith, add-one, below_more, get_or-set_other, length-set, sym, ap, ◌∙◌}
use Rattle.std.proofs.Math.Decide.{dec_lt}
use Rattle.std.proofs.Math.Logic.{by_cases}
use Rattle.std.proofs.lemmas.List.{get_or-set_same, get_or_past}
use Rattle.std.proofs.lemmas.Option.{slice_get-get_or, slice_get_past}
use Rattle.laws.specs.Every.{every_of, every_stop}
use Rattle.laws.specs.Tab.{tab_long}
use Rattle.text.specs.declared.Number.{Number}
use Rattle.text.specs.declared.Number.TheVariants.{Dash}
use Rattle.text.specs.Fields.{field_at, next_field}
use Rattle.text.specs.Number.{decimal_of, is_spelt, saturated}
use Rattle.text.specs.Walk.{FieldsFrom, from_field, from_next}
use Rattle.settings.specs.Places.{NUMBERS}
use Rattle.settings.specs.Settings.{setting_at}
use Rattle.settings.specs.Entries.{entries_of, entry_in, all_spelt, AreEntries, entry_held}
use Rattle.settings.proofs.entries_of.Goals as goal

-- a number that is spelled wrong
one_wrong : (s : List ℕ) (k : ℕ) → k < NUMBERS → saturated (setting_at s k) ≡ None → all_spelt s ≡ false
unfolding is_spelt
one_wrong s k l e = every_stop _ k NUMBERS l (rw (entry_held s k l, e))

-- all are there
module _ (s : List ℕ) (es : List Number) (long : length es ≡ NUMBERS) (filled : (k : ℕ) → k < NUMBERS → (d : Number) → Some (get_or es k d) ≡ saturated (setting_at s k)) where
  each : (k : ℕ) → slice_get es k ≡ entry_in (entries_of s) k
  unfolding entry_in entries_of
  each k =
      by_cases (dec_lt k NUMBERS) (λ l. slice_get-get_or es k Dash (omega arith) ∙ filled k l Dash ∙ sym (entry_held s k l))
      (λ m. let p : NUMBERS ≤ k = omega arith in slice_get_past es k (omega arith) ∙ sym (get_or_past (entries_of s) k None (rw (tab_long (λ k. saturated (setting_at s k)) NUMBERS) p)))

  all_there : AreEntries s es
  unfolding is_spelt
  all_there = (every_of _ NUMBERS (λ k l. rw (entry_held s k l, ← filled k l Dash)), each)

-- the number in the field behind the one at a place
number_next : {s : List ℕ} {at k : ℕ} → FieldsFrom s at k → {next : ℕ} → next ≤ length s → next ≡ next_field s at → saturated (decimal_of (field_at (drop next s) 0)) ≡ saturated (setting_at s k)
unfolding setting_at
number_next h w e = rw (from_field (from_next h w e), add-one)

pub loop-entry-preserved : goal.loop-entry-preserved
loop-entry-preserved c =
    let n = c.next_field-at.ensures in
    let now = number_next c.loop-entry.invariant.walk n.within n.holds in
    record {
      walk = from_next c.loop-entry.invariant.walk n.within n.holds;
      long = length-set _ _ _ ∙ c.loop-entry.invariant.long;
      filled =
          below_more _ _
          (λ k l d. let ne : k ≢ c.loop-entry.entry-index = omega arith in rw get_or-set_other (c.loop-entry.invariant.filled k l d))
          (λ d. ap Some (get_or-set_same c.loop-entry.entry-items c.loop-entry.entry-index _ d (omega arith)) ∙ sym c.in_ok-entry.was ∙ c.number_from.ensures ∙ now);
    }

pub returns-in_err-entry : goal.returns-in_err-entry
returns-in_err-entry c =
    let n = c.next_field-at.ensures in
    let now = number_next c.loop-entry.invariant.walk n.within n.holds in
    rw c.from_residual.ensures (one_wrong _ c.loop-entry.entry-index c.loop-entry-test.true (sym now ∙ sym c.number_from.ensures ∙ c.in_err-entry.was))

pub returns : goal.returns
returns c =
    all_there c.args.line.now c.loop-entry.entry-items c.loop-entry.invariant.long (λ k l. c.loop-entry.invariant.filled k (omega arith))
