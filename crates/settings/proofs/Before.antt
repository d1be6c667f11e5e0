-- Document 02, Q-6: "S lines written before mean what they meant; an old reader refuses a line with an offset above 15 with 1." Assumes
-- nothing.
use Rattle.std.specs.Prelude.{◌≡◌, Bool, List, Option, None, Some, ℕ, ◌+◌, ◌-◌, ◌≤◌, ◌<◌, leb, get_or}
use Rattle.std.proofs.Math.Path.{refl}
use Rattle.std.proofs.Math.Bool.{true, false}
use Rattle.std.proofs.Math.Decide.{dec_lt}
use native.Mathlib.Omega.{arith}
use Rattle.std.proofs.Math.ListN.{get_or-eq_default}
use Rattle.std.proofs.Common.{leb-true, ltb-true, le-leb, lt-ltb}
use Rattle.std.proofs.lemmas.Bool.{lt-leb}
use Rattle.laws.specs.Both.{both_false, both_left, both_right, both_true}
use Rattle.laws.specs.Never.{never}
use Rattle.laws.specs.Every.{every, every_at, every_of, every_stop}
use Rattle.laws.specs.Tab.{tab, tab_at, tab_long}
use Rattle.text.specs.declared.Number.{Number}
use Rattle.text.specs.declared.Number.TheVariants.{Dash, Plus, Minus}
use Rattle.text.specs.Number.{is_spelt}
use Rattle.state.specs.declared.Setup.{Setup}
use Rattle.state.specs.declared.Refusal.TheVariants as refusal
use Rattle.state.specs.Refusal.{number_of, number_returned}
use Rattle.state.specs.Most.{OFFSET_MOST}
use Rattle.settings.specs.Places.{OFFSETS12, OFFSETS34, HYSTERESES, NUMBERS}
use Rattle.settings.specs.Settings.{setting_at, up_to, range_of, is_within, plain_of, signed_of, setup_by, refused_settings, answered, is_setup, settings_of, setup_or_default}
use Rattle.settings.specs.Ranges.{offset_range}
use Rattle.settings.specs.Before.{OLD_OFFSET_MOST, is_offset, old_range_of, old_settings_of, Wide, first, second}

-- ---- one number

-- an offset, before and now
module _ (k : ℕ) (o : is_offset k ≡ true) where
  offset_from : OFFSETS12 ≤ k
  offset_from = leb-true OFFSETS12 k (both_left (leb OFFSETS12 k) _ o)

  offset_to : k < HYSTERESES
  offset_to = ltb-true k HYSTERESES (both_right (leb OFFSETS12 k) _ o)

  old_offset : old_range_of k ≡ up_to OLD_OFFSET_MOST
  unfolding old_range_of
  old_offset = rw o

  now_offset : range_of k ≡ up_to OFFSET_MOST
  now_offset = offset_range k offset_from offset_to

-- any other number
same_range : (k : ℕ) → is_offset k ≡ false → old_range_of k ≡ range_of k
unfolding old_range_of
same_range k o = rw o

-- in range before is in range now
offset_wider : (n : Option Number) → is_within (up_to OLD_OFFSET_MOST) n ≡ true → is_within (up_to OFFSET_MOST) n ≡ true
unfolding is_within
offset_wider None e = e
offset_wider (Some Dash) e = e
offset_wider (Some (Plus v)) e = le-leb v OFFSET_MOST (omega (arith, leb-true v OLD_OFFSET_MOST e))
offset_wider (Some (Minus v)) e = e

wider : (k : ℕ) (n : Option Number) → is_within (old_range_of k) n ≡ true → is_within (range_of k) n ≡ true
wider k n = go (is_offset k) refl
  where
    go : (b : Bool) → is_offset k ≡ b → is_within (old_range_of k) n ≡ true → is_within (range_of k) n ≡ true
    go true o = rw (old_offset k o, now_offset k o) (offset_wider n)
    go false o = rw (same_range k o) (λ e. e)

-- an offset in range now and not above 15 was in range before
offset_narrow : (n : Option Number) → plain_of n ≤ OLD_OFFSET_MOST → is_within (up_to OFFSET_MOST) n ≡ true → is_within (up_to OLD_OFFSET_MOST) n ≡ true
unfolding is_within plain_of
offset_narrow None h e = e
offset_narrow (Some Dash) h e = e
offset_narrow (Some (Plus v)) h e = le-leb v OLD_OFFSET_MOST h
offset_narrow (Some (Minus v)) h e = e

-- one above 15 was not
offset_wide : (n : Option Number) → OLD_OFFSET_MOST < plain_of n → is_within (up_to OLD_OFFSET_MOST) n ≡ false
unfolding is_within plain_of
offset_wide None h = absurd (omega arith)
offset_wide (Some Dash) h = absurd (omega arith)
offset_wide (Some (Plus v)) h = lt-leb v OLD_OFFSET_MOST h
offset_wide (Some (Minus v)) h = absurd (omega arith)

-- ---- the numbers of a setup

module _ (n : ℕ → Option Number) where
  -- number k is in its range, before and now
  abbrev in_old : ℕ → Bool
  in_old k = is_within (old_range_of k) (n k)

  abbrev in_now : ℕ → Bool
  in_now k = is_within (range_of k) (n k)

  -- all are
  abbrev old_within : Bool
  old_within = every NUMBERS in_old

  abbrev within : Bool
  within = every NUMBERS in_now

  within_wider : old_within ≡ true → within ≡ true
  within_wider e = every_of in_now NUMBERS (λ k l. wider k (n k) (every_at in_old NUMBERS k e l))

  -- the twelve offsets that begin at `first`
  module _ (first : ℕ) (least : OFFSETS12 ≤ first) (most : first + 12 ≤ HYSTERESES) where
    abbrev offset : ℕ → ℕ
    offset k = plain_of (n (first + k))

    abbrev row : List ℕ
    row = tab offset 12

    row_offset : (k : ℕ) → k < 12 → is_offset (first + k) ≡ true
    row_offset k l = both_true (le-leb OFFSETS12 (first + k) (omega arith)) (lt-ltb (first + k) HYSTERESES (omega arith))

    -- an offset above 15 was out of range
    row_wide : (k : ℕ) → OLD_OFFSET_MOST < get_or row k 0 → old_within ≡ false
    row_wide k h = go (dec_lt k 12)
      where
        go : Dec (k < 12) → old_within ≡ false
        go (yes l) =
            every_stop in_old (first + k) NUMBERS (omega arith) (rw (old_offset (first + k) (row_offset k l)) (offset_wide (n (first + k)) (rw (tab_at offset 12 k 0 l) at h)))
        go (no m) = absurd (omega (arith, h, get_or-eq_default row 0 {n = k} (rw (tab_long offset 12) (omega arith))))

    -- offsets that are in range now and not above 15 were in range
    row_narrow : ((k : ℕ) → get_or row k 0 ≤ OLD_OFFSET_MOST) → within ≡ true → (k : ℕ) → k < 12 → in_old (first + k) ≡ true
    row_narrow h e k l =
        rw (old_offset (first + k) (row_offset k l))
        (offset_narrow (n (first + k)) (rw (tab_at offset 12 k 0 l) at (h k))
        (rw (now_offset (first + k) (row_offset k l)) at (every_at in_now NUMBERS (first + k) e (omega arith))))

  -- the setup that they make
  abbrev made : Setup
  made = setup_by plain_of signed_of n

  wide_out : Wide made → old_within ≡ false
  unfolding setup_by
  wide_out (first k h) = row_wide OFFSETS12 (omega arith) (omega arith) k h
  wide_out (second k h) = row_wide OFFSETS34 (omega arith) (omega arith) k h

  -- numbers in range now, with no offset above 15, were in range
  module _ (narrow : Wide made → ⊥) (e : within ≡ true) where
    small : (w : ℕ) → (OLD_OFFSET_MOST < w → Wide made) → w ≤ OLD_OFFSET_MOST
    small w h = go (dec_lt OLD_OFFSET_MOST w)
      where
        go : Dec (OLD_OFFSET_MOST < w) → w ≤ OLD_OFFSET_MOST
        go (yes l) = absurd (narrow (h l))
        go (no l) = omega arith

    narrow_offset : (k : ℕ) → OFFSETS12 ≤ k → k < HYSTERESES → in_old k ≡ true
    unfolding setup_by
    narrow_offset k p q = go (dec_lt k OFFSETS34)
      where
        go : Dec (k < OFFSETS34) → in_old k ≡ true
        go (yes l) =
            let i : OFFSETS12 + (k - OFFSETS12) ≡ k = omega arith in
            rw i at (row_narrow OFFSETS12 (omega arith) (omega arith) (λ j. small _ (first j)) e (k - OFFSETS12) (omega arith))
        go (no m) =
            let i : OFFSETS34 + (k - OFFSETS34) ≡ k = omega arith in
            rw i at (row_narrow OFFSETS34 (omega arith) (omega arith) (λ j. small _ (second j)) e (k - OFFSETS34) (omega arith))

    narrow_in : old_within ≡ true
    narrow_in = every_of in_old NUMBERS (λ k l. go k l (is_offset k) refl)
      where
        go : (k : ℕ) → k < NUMBERS → (b : Bool) → is_offset k ≡ b → in_old k ≡ true
        go k l true o = narrow_offset k (offset_from k o) (offset_to k o)
        go k l false o = rw (same_range k o) (every_at in_now NUMBERS k e l)

-- ---- a line

module _ (x : Setup) where
  -- one that was taken was in range
  answer_before : (fits spelt old now up : Bool) → (old ≡ true → now ≡ true) → number_returned (answered fits spelt old up x) ≡ 0 → answered fits spelt now up x ≡ answered fits spelt old up x
  unfolding number_of
  answer_before true true true now up h z = rw (h refl)
  answer_before true true false now up h z = absurd (omega arith)
  answer_before true false old now up h z = refl
  answer_before false spelt old now up h z = refl

  -- one that is taken, and was out of range if it is wide
  answer_wide : (fits spelt old now up : Bool) → (Wide x → old ≡ false) → number_returned (answered fits spelt now up x) ≡ 0 → Wide (setup_or_default (answered fits spelt now up x)) → answered fits spelt old up x ≡ refused_settings refusal.Setup
  unfolding number_of
  answer_wide true true old true true h z w = rw (h w)
  answer_wide true true old true false h z w = absurd (omega arith)
  answer_wide true true old false up h z w = absurd (omega arith)
  answer_wide true false old now up h z w = absurd (omega arith)
  answer_wide false spelt old now up h z w = absurd (omega arith)

  -- one that has no such offset, or is refused
  answer_narrow : (fits spelt old now up : Bool) → (old ≡ true → now ≡ true) → ((Wide x → ⊥) → now ≡ true → old ≡ true) → (Wide (setup_or_default (answered fits spelt now up x)) → ⊥) → answered fits spelt old up x ≡ answered fits spelt now up x
  answer_narrow true true old true true h g w = rw (g w refl)
  answer_narrow true true old true false h g w = rw (both_false old)
  answer_narrow true true true false up h g w = let e = h refl in absurd (never (cc))
  answer_narrow true true false false up h g w = refl
  answer_narrow true false old now up h g w = refl
  answer_narrow false spelt old now up h g w = refl

module _ (s : List ℕ) where
  -- "S lines written before mean what they meant": a line that the old ranges take is taken now, with the same setup
  pub meant_before : number_returned (old_settings_of s) ≡ 0 → settings_of s ≡ old_settings_of s
  unfolding settings_of old_settings_of
  meant_before =
      answer_before _ (is_setup s) (every NUMBERS (λ k. is_spelt (setting_at s k))) _ _ _ (within_wider (setting_at s))

  -- "an old reader refuses a line with an offset above 15 with 1": one that is taken now
  pub wide_refused : number_returned (settings_of s) ≡ 0 → Wide (setup_or_default (settings_of s)) → old_settings_of s ≡ refused_settings refusal.Setup
  unfolding settings_of old_settings_of
  wide_refused =
      answer_wide _ (is_setup s) (every NUMBERS (λ k. is_spelt (setting_at s k))) _ (within (setting_at s)) _ (wide_out (setting_at s))

  -- to any other line it answers what is answered now: the setup, or the same refusal
  pub narrow_same : (Wide (setup_or_default (settings_of s)) → ⊥) → old_settings_of s ≡ settings_of s
  unfolding settings_of old_settings_of
  narrow_same =
      answer_narrow _ (is_setup s) (every NUMBERS (λ k. is_spelt (setting_at s k))) _ _ _ (within_wider (setting_at s)) (narrow_in (setting_at s))
