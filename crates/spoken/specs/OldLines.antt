-- Document 02, Q-6, of lines given to the chip: "S lines written before mean what they meant; an old reader refuses a line with an offset
-- above 15 with 1." Assumes nothing.
use Rattle.std.specs.Prelude.{◌≡◌, Bool, List, [], ◌∷◌, ◌++◌, ℕ, ◌+◌, ltb, length, None, Result, Ok, Err}
use Rattle.std.proofs.Math.Path.{refl, ap, sym}
use Rattle.std.proofs.Common.{◌∙◌, eqb-true}
use Rattle.std.proofs.lemmas.Option.{none-some}
use Rattle.std.proofs.Math.Bool.{true, false}
use Rattle.std.proofs.Math.Dec.{eqb}
use Rattle.laws.specs.Pick.{pick}
use Rattle.state.specs.PowerOn.{power_on}
use Rattle.event.specs.declared.Answer.TheVariants as answer
use Rattle.parse.specs.Parse.{letter_of, event_by, event_of}
use Rattle.settings.specs.Settings.{settings_of, setup_or_default}
use Rattle.settings.specs.Before.{old_settings_of, Wide}
use Rattle.settings.proofs.Before.{meant_before, wide_refused, narrow_same}
use Rattle.line.specs.declared.Session.{Session}
use Rattle.line.specs.declared.Asked.{Asked}
use Rattle.line.specs.declared.Asked.TheVariants as asked
use Rattle.line.specs.Line.{Judged, asked_settings, asked_other, asked_by, asked_text, refused_line, begun_line, setup_line, judged_by, judged_line}
use Rattle.state.specs.declared.Refusal.{Refusal}
use Rattle.state.specs.declared.Refusal.TheVariants as refusal
use Rattle.state.specs.Refusal.{number_of, number_returned}
use Rattle.state.specs.declared.Setup.{Setup}
use Rattle.line.specs.Session.{printed_by, printed_from}

-- ---- the old reader

-- what comes of something that a line asks for, with these settings in place of its own
unfoldable pub made_by : Session → List ℕ → Result Setup Refusal → Result Asked Refusal → Judged
made_by s l x (Ok asked.Setup) = begun_line (power_on (setup_or_default x)) answer.Nothing
made_by s l x (Err n) = judged_by s l (Err n)
made_by s l x (Ok (asked.Event e)) = judged_by s l (Ok (asked.Event e))

-- what comes of a line with the letter S, with these settings; "line too long" is asked first
abbrev pub letter_s : Session → List ℕ → Result Setup Refusal → Judged
letter_s s l x = made_by s l x (pick (ltb 512 (length l)) (Err refusal.Spelling) (asked_settings s.begun x))

-- a line with the letter S, 83, goes by the old ranges, any other is what it is now
unfoldable pub old_line : Session → List ℕ → Judged
old_line s l = pick (eqb (letter_of l) 83) (letter_s s l (old_settings_of l)) (judged_line s l)

-- what lines print to an old reader, the first of them line n
unfoldable pub old_printed : Session → ℕ → List (List ℕ) → List ℕ
old_printed s n [] = []
old_printed s n (l ∷ ls) = printed_by (old_line s l) n ++ old_printed (old_line s l).session (n + 1) ls

-- ---- one line

-- a line with the letter S says no event
no_event : (l : List ℕ) → letter_of l ≡ 83 → event_of l ≡ None
unfolding event_by
no_event l e = rw e

-- settings that are not refused
abbrev NotRefused : Result Setup Refusal → Type 0
NotRefused x = number_returned x ≡ 0

module _ (s : Session) (l : List ℕ) where
  -- with its own settings it is what comes of it now
  made_now : (a : Result Asked Refusal) → judged_by s l a ≡ made_by s l (settings_of l) a
  unfolding made_by judged_by setup_line
  made_now (Ok asked.Setup) = refl
  made_now (Err n) = refl
  made_now (Ok (asked.Event e)) = refl

  now_line : letter_of l ≡ 83 → judged_line s l ≡ letter_s s l (settings_of l)
  unfolding judged_line asked_text asked_by asked_other
  now_line e = rw (no_event l e, e) (made_now _)

  -- one that is taken is not too long, has no taken line before it, and its settings are not refused
  letter_taken : (x : Result Setup Refusal) → (letter_s s l x).refusal ≡ None → (ltb 512 (length l) ≡ false) × (s.begun ≡ false) × NotRefused x
  unfolding made_by judged_by asked_settings refused_line
  letter_taken (Ok x) = go (ltb 512 (length l)) s.begun
    where
      go : (long begun : Bool) → (made_by s l (Ok x) (pick long (Err refusal.Spelling) (pick begun (Err refusal.Late) (Ok asked.Setup)))).refusal ≡ None → (long ≡ false) × (begun ≡ false) × NotRefused (Ok x)
      go true begun z = absurd (none-some _ (sym z))
      go false true z = absurd (none-some _ (sym z))
      go false false z = (refl, refl, refl)
  letter_taken (Err r) = go (ltb 512 (length l)) (eqb (number_of r) 4) s.begun
    where
      go : (long wrong begun : Bool) → (made_by s l (Err r) (pick long (Err refusal.Spelling) (pick wrong (Err r) (pick begun (Err refusal.Late) (Err r))))).refusal ≡ None → (long ≡ false) × (begun ≡ false) × NotRefused (Err r)
      go true wrong begun z = absurd (none-some _ (sym z))
      go false true begun z = absurd (none-some _ (sym z))
      go false false true z = absurd (none-some _ (sym z))
      go false false false z = absurd (none-some _ (sym z))

  -- "S lines written before mean what they meant": a line that an old reader takes is taken now, and the session goes on from the same chip
  pub line_before : (old_line s l).refusal ≡ None → judged_line s l ≡ old_line s l
  unfolding old_line
  line_before = go (eqb (letter_of l) 83) refl
    where
      go : (b : Bool) → eqb (letter_of l) 83 ≡ b → (pick b (letter_s s l (old_settings_of l)) (judged_line s l)).refusal ≡ None → judged_line s l ≡ pick b (letter_s s l (old_settings_of l)) (judged_line s l)
      go true e z =
          now_line (eqb-true (letter_of l) 83 e) ∙ ap (letter_s s l) (meant_before l (letter_taken (old_settings_of l) z).2)
      go false e z = refl

  -- "an old reader refuses a line with an offset above 15 with 1": one that is taken now
  pub line_refused : letter_of l ≡ 83 → (judged_line s l).refusal ≡ None → Wide (setup_or_default (settings_of l)) → old_line s l ≡ refused_line s refusal.Setup
  unfolding old_line made_by judged_by asked_settings number_of
  line_refused e z w =
      let t = letter_taken (settings_of l) (ap (λ (j : Judged). j.refusal) (sym (now_line e)) ∙ z) in
      rw (e, t.0, t.1, wide_refused l t.2 w)

  -- any line but one with an offset above 15 is to an old reader what it is now, taken or refused
  pub line_same : (Wide (setup_or_default (settings_of l)) → ⊥) → old_line s l ≡ judged_line s l
  unfolding old_line
  line_same narrow = go (eqb (letter_of l) 83) refl
    where
      go : (b : Bool) → eqb (letter_of l) 83 ≡ b → pick b (letter_s s l (old_settings_of l)) (judged_line s l) ≡ judged_line s l
      go true e = ap (letter_s s l) (narrow_same l narrow) ∙ sym (now_line (eqb-true (letter_of l) 83 e))
      go false e = refl

-- ---- a text of lines

-- none has an offset above 15
pub data NoneWide : List (List ℕ) → Type 0 where
  none : NoneWide []
  more : {l : List ℕ} {ls : List (List ℕ)} → (Wide (setup_or_default (settings_of l)) → ⊥) → NoneWide ls → NoneWide (l ∷ ls)

-- so it prints what it printed, from any session on
pub printed_before : (s : Session) (n : ℕ) (ls : List (List ℕ)) → NoneWide ls → old_printed s n ls ≡ printed_from s n ls
unfolding old_printed printed_from
printed_before s n [] none = refl
printed_before s n (l ∷ ls) (more narrow rest) =
    rw (line_same s l narrow) (ap (λ (t : List ℕ). printed_by (judged_line s l) n ++ t) (printed_before (judged_line s l).session (n + 1) ls rest))
