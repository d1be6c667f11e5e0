-- Document 02, Q-7, of lines given to the chip: T and U lines are read "by the temperature they state". Two that state the same for a zone
-- come to the same in any session, taken or refused, and so do texts of them; so T h is U 8h. Assumes nothing.
use Rattle.std.specs.Prelude.{◌≡◌, Bool, List, [], ◌∷◌, ◌++◌, ℕ, ◌+◌, ◌-◌, ◌≤◌, ℤ, pos, ◌*ℤ◌, length, Some}
use Rattle.std.proofs.Math.Path.{refl, ap}
use Rattle.std.proofs.Common.{sym, ◌∙◌, le-ltb}
use Rattle.std.proofs.Math.Bool.{true, false}
use Rattle.laws.specs.Pick.{pick, both}
use Rattle.temperature.specs.declared.Reading.{Reading}
use Rattle.temperature.specs.declared.Stated.{Stated}
use Rattle.temperature.specs.declared.Stated.TheVariants.{Halves, Sixteenths}
use Rattle.temperature.specs.Temperature.{HALF, stated_reading}
use Rattle.sense.specs.Events.{took_temperature}
use Rattle.event.specs.declared.Event.{Event}
use Rattle.event.specs.declared.Event.TheVariants.{Temperature}
use Rattle.event.specs.declared.Answer.TheVariants.{Nothing}
use Rattle.event.specs.Event.{index_in, event_in, quiet_step, taken_step}
use Rattle.event.specs.Stated.{reading_in, stated_range}
use Rattle.event.specs.Refusal.{in_number, out_number, step_taken}
use Rattle.parse.specs.Parse.{event_of, data_of}
use Rattle.parse.specs.Data.{data_short}
use Rattle.line.specs.declared.Session.{Session}
use Rattle.line.specs.Line.{Judged, asked_event, asked_by, asked_text, refused_line, begun_line, event_line, judged_by, judged_line, asked_unless}
use Rattle.state.specs.declared.Refusal.{Refusal}
use Rattle.state.specs.declared.Refusal.TheVariants as refusal
use Rattle.line.specs.Session.{printed_by, printed_from}

-- what a session makes of a reading for a zone: it is taken, or refused with 2
unfoldable pub reading_line : Session → ℕ → Reading → Judged
reading_line s zone r =
    pick (both (index_in 5 zone) (reading_in r)) (begun_line (took_temperature s.chip (zone - 1) r) Nothing) (refused_line s refusal.Event)

-- a line that is not too long and says a T or a U
pub record States (l : List ℕ) (zone : ℕ) (q : Stated) : Type 0 where
  pub short : length l ≤ 512
  pub says : event_of l ≡ Some (Temperature zone q)

module _ (s : Session) {l : List ℕ} {zone : ℕ} {q : Stated} (t : States l zone q) where
  abbrev e : Event
  e = Temperature zone q

  -- it asks for its event
  asks : asked_text s.begun l ≡ asked_event e (data_of l)
  unfolding asked_text asked_by
  asks = rw (le-ltb 512 (length l) t.short, t.says)

  -- in range
  taken : event_in e ≡ true → judged_by s l (asked_event e (data_of l)) ≡ begun_line (took_temperature s.chip (zone - 1) (stated_reading q)) Nothing
  unfolding asked_event asked_unless judged_by event_line taken_step quiet_step
  taken i =
      let none = in_number e (data_of l) (data_short l) i in
      rw (none, step_taken s.chip e (data_of l) none)

  -- out of range
  refused : event_in e ≡ false → judged_by s l (asked_event e (data_of l)) ≡ refused_line s refusal.Event
  unfolding asked_event asked_unless judged_by
  refused o = rw (out_number e (data_of l) (data_short l) o)

  -- what comes of it goes by the temperature that it states
  pub stated_line : judged_line s l ≡ reading_line s zone (stated_reading q)
  unfolding judged_line reading_line event_in
  stated_line = ap (judged_by s l) asks ∙ go (event_in e) refl ∙ rw (stated_range q)
    where
      go : (b : Bool) → event_in e ≡ b → judged_by s l (asked_event e (data_of l)) ≡ pick b (begun_line (took_temperature s.chip (zone - 1) (stated_reading q)) Nothing) (refused_line s refusal.Event)
      go true i = taken i
      go false o = refused o

-- ---- two lines, and two texts

-- the same line, or T and U lines that state the same temperature for a zone
pub data SameLine : List ℕ → List ℕ → Type 0 where
  same : (l : List ℕ) → SameLine l l
  stated : {l m : List ℕ} {zone : ℕ} {q r : Stated} → States l zone q → States m zone r → stated_reading q ≡ stated_reading r → SameLine l m

-- a T line of h half degrees and a U line of 8h sixteenths
pub halves_line : {l m : List ℕ} {zone : ℕ} (h : ℤ) → States l zone (Halves h) → States m zone (Sixteenths (h *ℤ pos HALF)) → SameLine l m
unfolding stated_reading
halves_line h t u = stated t u refl

-- they come to the same
pub same_judged : (s : Session) {l m : List ℕ} → SameLine l m → judged_line s l ≡ judged_line s m
same_judged s (same l) = refl
same_judged s (stated {zone = zone} t u e) = stated_line s t ∙ ap (reading_line s zone) e ∙ sym (stated_line s u)

-- place by place
pub data SameText : List (List ℕ) → List (List ℕ) → Type 0 where
  none : SameText [] []
  more : {l m : List ℕ} {ls ms : List (List ℕ)} → SameLine l m → SameText ls ms → SameText (l ∷ ls) (m ∷ ms)

-- so both print the same, from any session on
pub same_printed : (s : Session) (n : ℕ) {ls ms : List (List ℕ)} → SameText ls ms → printed_from s n ls ≡ printed_from s n ms
unfolding printed_from
same_printed s n none = refl
same_printed s n (more {l} {m} t rest) =
    rw (same_judged s t) (ap (λ (x : List ℕ). printed_by (judged_line s m) n ++ x) (same_printed (judged_line s m).session (n + 1) rest))
