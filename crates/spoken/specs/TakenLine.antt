-- A line that is taken says an event that is not refused, or a setup that is in range. Assumes nothing.
use Rattle.std.specs.Prelude.{◌≡◌, true, false, List, eqb, ltb, length, Option, Some, None, Ok, Result, Err}
use Rattle.std.proofs.Math.Path.{refl}
use Rattle.std.proofs.Math.Bool.{Bool}
use Prim.Native.Nat.{ℕ}
use Rattle.std.proofs.Common.{sym}
use Rattle.std.proofs.lemmas.Option.{none-some}
use Rattle.laws.specs.Pick.{pick}
use Rattle.state.specs.Valid.{Valid}
use Rattle.event.specs.declared.Event.{Event}
use Rattle.event.specs.Event.{refusal_of}
use Rattle.event.specs.Run.{Given}
use Rattle.event.specs.Refusal.{in_taken}
use Rattle.parse.specs.Parse.{letter_of, event_of, data_of}
use Rattle.settings.specs.Settings.{settings_of, setup_or_default}
use Rattle.settings.specs.InRange.{settings_valid}
use Rattle.line.specs.declared.Session.{Session}
use Rattle.line.specs.declared.Asked.{Asked}
use Rattle.line.specs.declared.Asked.TheVariants as asked
use Rattle.line.specs.Line.{Judged, asked_unless, asked_event, asked_settings, asked_other, asked_by, asked_text, refused_line, setup_line, event_line, judged_by, judged_line}
use Rattle.state.specs.declared.Refusal.{Refusal}
use Rattle.state.specs.declared.Refusal.TheVariants as refusal
use Rattle.state.specs.Refusal.{number_of}
use Rattle.state.specs.declared.Setup.{Setup}
use Rattle.theorems.specs.Steps.{NotRefused}

-- an event as a line gives it, with the bytes that the line carries
abbrev pub given_by : List ℕ → Event → Given
given_by l e = record { event = e; bytes = data_of l }

-- what a taken line makes of a session, by the event that it says; an S line says none
pub data Takes (s : Session) (l : List ℕ) : Option Event → Judged → Type 0 where
  event : {e : Event} → NotRefused s.chip (given_by l e) → Takes s l (Some e) (event_line s.chip e (data_of l))
  setup : Valid (setup_or_default (settings_of l)) → Takes s l None (setup_line l)

module _ (s : Session) (l : List ℕ) where
  -- what comes of something that is asked for
  abbrev made : Result Asked Refusal → Judged
  made a = judged_by s l a

  -- an event that has no refusal is not refused
  event_takes : (e : Event) → (made (asked_event e (data_of l))).refusal ≡ None → Takes s l (Some e) (made (asked_event e (data_of l)))
  unfolding asked_event asked_unless judged_by refused_line
  event_takes e = go (refusal_of e (data_of l)) refl
    where
      go : (r : Option Refusal) → refusal_of e (data_of l) ≡ r → (made (asked_unless e r)).refusal ≡ None → Takes s l (Some e) (made (asked_unless e r))
      go None i z = event (in_taken s.chip e (data_of l) i)
      go (Some r) i z = absurd (none-some r (sym z))

  -- an S line
  settings_takes : (x : Result Setup Refusal) → (made (asked_settings s.begun x)).refusal ≡ None → Takes s l None (made (asked_settings s.begun x))
  unfolding asked_settings judged_by refused_line
  settings_takes (Ok x) = go s.begun
    where
      go : (begun : Bool) → (made (pick begun (Err refusal.Late) (Ok asked.Setup))).refusal ≡ None → Takes s l None (made (pick begun (Err refusal.Late) (Ok asked.Setup)))
      go true z = absurd (none-some _ (sym z))
      go false z = setup (settings_valid l)
  settings_takes (Err r) = go (eqb (number_of r) 4) s.begun
    where
      go : (wrong begun : Bool) → (made (pick wrong (Err r) (pick begun (Err refusal.Late) (Err r)))).refusal ≡ None → Takes s l None (made (pick wrong (Err r) (pick begun (Err refusal.Late) (Err r))))
      go true begun z = absurd (none-some _ (sym z))
      go false true z = absurd (none-some _ (sym z))
      go false false z = absurd (none-some _ (sym z))

  -- a line that says no event
  other_takes : (made (asked_other s.begun l)).refusal ≡ None → Takes s l None (made (asked_other s.begun l))
  unfolding asked_other judged_by refused_line
  other_takes = go (eqb (letter_of l) 83)
    where
      answer : Bool → Result Asked Refusal
      answer letter = pick letter (asked_settings s.begun (settings_of l)) (Err refusal.Spelling)

      go : (letter : Bool) → (made (answer letter)).refusal ≡ None → Takes s l None (made (answer letter))
      go true z = settings_takes (settings_of l) z
      go false z = absurd (none-some _ (sym z))

  said_takes : (p : Option Event) → (made (asked_by s.begun l p)).refusal ≡ None → Takes s l p (made (asked_by s.begun l p))
  unfolding asked_by
  said_takes None z = other_takes z
  said_takes (Some e) z = event_takes e z

  -- every line that is taken
  pub line_takes : (judged_line s l).refusal ≡ None → Takes s l (event_of l) (judged_line s l)
  unfolding judged_line asked_text judged_by refused_line
  line_takes = go (ltb 512 (length l))
    where
      answer : Bool → Result Asked Refusal
      answer long = pick long (Err refusal.Spelling) (asked_by s.begun l (event_of l))

      go : (long : Bool) → (made (answer long)).refusal ≡ None → Takes s l (event_of l) (made (answer long))
      go true z = absurd (none-some _ (sym z))
      go false z = said_takes (event_of l) z
