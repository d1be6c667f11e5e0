-- Refusal 5 is given exactly if the lent output has less than the line's room: `Comes` has how much that is. Assumes nothing.
use Rattle.std.specs.Prelude.{◌≡◌, refl, Bool, true, false, List, ℕ, ◌<◌, ltb, eqb, length, Option, Some, None, Result, Ok, Err}
use Rattle.std.proofs.Common.{sym, ap, ◌∙◌, arith, lt-ltb}
use Rattle.std.proofs.lemmas.Option.{none-some}
use Rattle.std.proofs.Math.Logic.{by_cases}
use Rattle.laws.specs.Never.{never}
use Rattle.laws.specs.Pick.{pick}
use Rattle.std.proofs.Math.Decide.{dec_lt}
use Rattle.laws.specs.Pointwise.{pick_each}
use Rattle.laws.specs.Every.{every}
use Rattle.text.specs.Number.{is_spelt}
use Rattle.state.specs.declared.Setup.{Setup}
use Rattle.event.specs.Event.{event_in}
use Rattle.state.specs.declared.Refusal.{Refusal}
use Rattle.state.specs.declared.Refusal.TheVariants as refusal
use Rattle.state.specs.Refusal.{number_of, number_returned}
use Rattle.event.specs.declared.Event.{Event}
use Rattle.parse.specs.Parse.{letter_of, event_of, data_of}
use Rattle.parse.specs.Data.{data_short}
use Rattle.settings.specs.Places.{NUMBERS}
use Rattle.settings.specs.Settings.{setting_at, range_of, is_within, rises_by, answered, is_setup, settings_of}
use Rattle.line.specs.declared.Session.{Session}
use Rattle.line.specs.declared.Asked.{Asked}
use Rattle.line.specs.declared.Asked.TheVariants as asked
use Rattle.line.specs.Line.{Judged, room_for, asked_settings, asked_other, asked_by, asked_text, asked_line, refused_line, begun_line, setup_line, event_line, judged_by, judged_line, judged_in, replied, taken_by, taken_line}
use Rattle.line.specs.Clamped.{asked_is}
use Rattle.line.specs.Comes.{judged_with_room}

-- settings are not refused by 5, spelled right or not, in range or not
answered_other : (fits spelt within up : Bool) (x : Setup) → answered fits spelt within up x ≡ Err refusal.Room → ⊥
answered_other true true true true x e = never (cc)
answered_other true true true false x e = never (cc)
answered_other true true false up x e = never (cc)
answered_other true false within up x e = never (cc)
answered_other false spelt within up x e = never (cc)

settings_other : (line : List ℕ) → settings_of line ≡ Err refusal.Room → ⊥
unfolding settings_of
settings_other line =
    answered_other (is_setup line) (every NUMBERS (λ k. is_spelt (setting_at line k))) (every NUMBERS (λ k. is_within (range_of k) (setting_at line k))) (every 12 (rises_by (setting_at line))) _

module _ (s : Session) (line : List ℕ) where
  -- what is asked for is not refused by 5
  abbrev Other : Result Asked Refusal → Type 0
  Other a = a ≡ Err refusal.Room → ⊥

  other_settings : (x : Result Setup Refusal) → (x ≡ Err refusal.Room → ⊥) → Other (asked_settings s.begun x)
  unfolding asked_settings
  other_settings (Ok x) n = pick_each Other s.begun (λ e. never (cc)) (λ e. never (cc))
  other_settings (Err r) n =
      let same : Other (Err r) = λ e. n (cc) in
      pick_each Other (eqb (number_of r) 4) same (pick_each Other s.begun (λ e. never (cc)) same)

  other_by : (p : Option Event) → Other (asked_by s.begun line p)
  unfolding asked_by asked_other
  other_by None = pick_each Other (eqb (letter_of line) 83) (other_settings (settings_of line) (settings_other line)) (λ e. never (cc))
  other_by (Some e) = rw (asked_is e (data_of line) (data_short line)) (pick_each Other (event_in e) (λ z. never (cc)) (λ z. never (cc)))

  other_text : Other (asked_text s.begun line)
  unfolding asked_text
  other_text = pick_each Other (ltb 512 (length line)) (λ e. never (cc)) (other_by (event_of line))

  -- so nothing that comes of it has number 5
  made_other : (a : Result Asked Refusal) → Other a → (judged_by s line a).refusal ≡ Some refusal.Room → ⊥
  unfolding judged_by refused_line setup_line event_line begun_line
  made_other (Ok asked.Setup) n e = none-some _ e
  made_other (Ok (asked.Event f)) n e = none-some _ e
  made_other (Err r) n e = n (cc)

  -- no line with room is refused by 5
  pub judged_other : (judged_line s line).refusal ≡ Some refusal.Room → ⊥
  unfolding judged_line
  judged_other = made_other (asked_text s.begun line) other_text

-- number 5 is that refusal's alone
only_room : (x : Option Refusal) (n : ℕ) → number_returned (replied x n) ≡ 5 → x ≡ Some refusal.Room
unfolding replied number_of
only_room None n e = absurd (omega arith)
only_room (Some refusal.Setup) n e = absurd (omega arith)
only_room (Some refusal.Event) n e = absurd (omega arith)
only_room (Some refusal.Late) n e = absurd (omega arith)
only_room (Some refusal.Spelling) n e = absurd (omega arith)
only_room (Some refusal.Room) n e = refl

module _ (s : Session) (line out : List ℕ) where
  -- any line without is, whatever is in it
  pub no_room : length out < room_for line → number_returned (taken_line s line out).reply ≡ 5
  unfolding taken_line taken_by judged_in asked_line judged_by refused_line replied number_of
  no_room h = rw (lt-ltb (length out) (room_for line) h)

  -- and no other
  pub no_room_only : number_returned (taken_line s line out).reply ≡ 5 → length out < room_for line
  unfolding taken_line taken_by
  no_room_only five =
      by_cases (dec_lt (length out) (room_for line)) (λ h. h)
      (λ h. absurd (judged_other s line (sym (ap (λ (j : Judged). j.refusal) (judged_with_room s line (length out) (omega arith))) ∙ only_room _ _ five)))
