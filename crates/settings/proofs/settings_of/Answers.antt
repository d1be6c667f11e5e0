use Rattle.std.specs.Prelude.{◌≡◌, refl, Bool, true, false, List, Ok, Err, ℕ, slice_get}
use Rattle.std.proofs.Common.{rules}
use Rattle.laws.specs.Pick.{pick, both}
use Rattle.laws.specs.Every.{every}
use Rattle.text.specs.declared.Number.{Number}
use Rattle.state.specs.declared.Refusal.TheVariants as refusal
use Rattle.settings.specs.Places.{NUMBERS}
use Rattle.settings.specs.Settings.{range_of, is_within, setup_by, rises_by, refused_settings, is_setup, settings_of}
use Rattle.settings.specs.Entries.{entries_of, entry_in, all_spelt, AreEntries, held_byte, held_degrees, settings_from, settings_same}
use Rattle.settings.proofs.settings_of.Goals as goal
use Rattle.settings.proofs.settings_of.Goals.{else-all_within-via-then-all_within+else-all_rise, else-all_within-via-else-all_within}

module _ (s : List ℕ) where
  no_setup : is_setup s ≡ false → refused_settings refusal.Spelling ≡ settings_of s
  no_setup e = rw (settings_same, e)

  -- an S line
  module _ (fits : is_setup s ≡ true) where
    spelt_wrong : all_spelt s ≡ false → refused_settings refusal.Spelling ≡ settings_of s
    unfolding settings_from
    spelt_wrong e = rw (settings_same, fits, e)

    -- whose numbers are spelled right
    module _ (es : List Number) (right : AreEntries s es) where
      same : slice_get es ≡ entry_in (entries_of s)
      same = λ i k. right.1 k i

      spelt_right : (within up : Bool) → within ≡ every NUMBERS (λ k. is_within (range_of k) (slice_get es k)) → up ≡ every 12 (rises_by (slice_get es)) → pick (both within up) (Ok (setup_by held_byte held_degrees (slice_get es))) (refused_settings refusal.Setup) ≡ settings_of s
      unfolding settings_from
      spelt_right within up w u = rw (settings_same, fits, right.0, w, u, same)

pub returns-then-not-is_setup : goal.returns-then-not-is_setup
returns-then-not-is_setup c = no_setup _ (search rules)

pub returns-in_err-entries : goal.returns-in_err-entries
returns-in_err-entries c =
    let e : c.from_residual.result ≡ Err refusal.Spelling = search rules in
    rw e (spelt_wrong c.args.line.now (search rules) (search rules))

pub returns-then-all_rise : goal.returns-then-all_rise
returns-then-all_rise c =
    rw c.setup_from.ensures
    (spelt_right c.args.line.now (search rules) c.in_ok-entries.entries (search rules) true true (search rules) (search rules))

pub returns-else-all_within : goal.returns-else-all_within
returns-else-all_within c =
    let at = spelt_right c.args.line.now (search rules) c.in_ok-entries.entries (search rules) in
    elim c.else-all_within.branch [
      | else-all_within-via-then-all_within+else-all_rise w ↦ at true false (search rules) (search rules)
      | else-all_within-via-else-all_within w ↦ at false _ (search rules) refl
    ]
