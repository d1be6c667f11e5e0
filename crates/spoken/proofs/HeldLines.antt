-- Document 02, Q-2, "Voltage hysteresis as the chip has it", said of lines of text, an S line too, and of what they print. Channels count
-- from 0 here, and from 1 in V lines. Assumes nothing.
use Rattle.std.specs.Prelude.{◌≡◌, true, false, List, ℕ, suc, Some, Result, Ok, Err}
use Rattle.std.proofs.Math.Path.{refl, ap}
use Rattle.std.proofs.Common.{◌∙◌}
use Rattle.masks.specs.Masks.{volt_masked}
use Rattle.state.specs.Parts.{in_error}
use Rattle.sense.specs.Errors.{low_limit, high_limit, is_outside}
use Rattle.event.specs.declared.Event.TheVariants.{Voltage}
use Rattle.event.specs.Lasting.{Sized, step_sized}
use Rattle.parse.specs.Parse.{data_of}
use Rattle.line.specs.declared.Session.{Session}
use Rattle.line.specs.declared.Asked.{Asked}
use Rattle.line.specs.declared.Asked.TheVariants as asked
use Rattle.line.specs.Line.{start_session, asked_text, refused_line, begun_line, event_line, judged_by, judged_line}
use Rattle.line.specs.Comes.{asks_taken}
use Rattle.line.specs.Session.{session_after}
use Rattle.theorems.specs.VoltReadings.{GivesCount, outside, Ends, within as event-within, started, held, reading_sets}
use Rattle.spoken.specs.TakenLine.{given_by}
use Rattle.spoken.specs.SaidLines.{asks_no_setup, lines_sized}
use Rattle.spoken.specs.ReadLines.{bit_printed}
use Rattle.state.specs.declared.Refusal.{Refusal}
use Rattle.event.specs.declared.Event.{Event}
use Rattle.spoken.specs.HeldLines.{CountLine, EndsLine, within, NoneEndLines, more, none, PrintsError}

-- ---- lines

-- channel i is in error in a session that has taken a line
record Erring (i : ℕ) (s : Session) : Type 0 where
  begun : s.begun ≡ true
  sized : Sized s.chip
  erring : in_error s.chip i ≡ true

count_event : (i n : ℕ) (s : Session) (l : List ℕ) → CountLine i n s l → GivesCount i (Some n) (given_by l (Voltage (suc i) (Some n)))
count_event i n s l a = record { event = refl; taken = asks_taken s.begun l _ a }

module _ (i : ℕ) (s : Session) (l : List ℕ) where
  -- a V line outside the limits
  line_starts : (n : ℕ) → Sized s.chip → CountLine i n s l → is_outside (low_limit s.chip.registers i) (high_limit s.chip.registers i) n ≡ true → Erring i (judged_line s l).session
  unfolding judged_line judged_by event_line begun_line
  line_starts n z a o = rw a (record { begun = refl; sized = step_sized z _ (data_of l); erring = started i s.chip z _ (outside n (count_event i n s l a) o) })

  asked_held : (a : Result Asked Refusal) → asked_text s.begun l ≡ a → (EndsLine i s l → ⊥) → Erring i s → Erring i (judged_by s l a).session
  unfolding judged_by refused_line event_line begun_line
  asked_held (Ok asked.Setup) q n u = absurd (asks_no_setup s u.begun l q)
  asked_held (Err r) q n u = u
  asked_held (Ok (asked.Event e)) q n u = record { begun = refl; sized = step_sized u.sized e (data_of l); erring = held i s.chip u.sized (given_by l e) ends u.erring }
    where
      ends : Ends i s.chip (given_by l e) → ⊥
      ends (event-within m r b) = n (within m (q ∙ ap (λ (e : Event). Ok (asked.Event e)) r.event) b)

  -- a line that does not end the error leaves it
  line_held : (EndsLine i s l → ⊥) → Erring i s → Erring i (judged_line s l).session
  unfolding judged_line
  line_held = asked_held (asked_text s.begun l) refl

  -- a V line that leaves the channel in error, where it is not masked
  set_printed : (n : ℕ) → CountLine i n s l → Sized s.chip → volt_masked s.chip.registers i ≡ false → Erring i (judged_line s l).session → PrintsError i (judged_line s l).session
  unfolding judged_line judged_by event_line begun_line
  set_printed n a z m u =
      let shows = reading_sets i s.chip z (given_by l (Voltage (suc i) (Some n))) n (count_event i n s l a) m (rw a at u.erring) in
      rw a (record { bmc = bit_printed _ _ _ shows.in_bmc.0; host = bit_printed _ _ _ shows.in_host.0 })

-- so do lines, one after the other
lines_held : {i : ℕ} {s : Session} {ls : List (List ℕ)} → NoneEndLines i s ls → Erring i s → Erring i (session_after s ls)
unfolding session_after
lines_held none u = u
lines_held {i} {s} (more {l = l} n rest) u = lines_held rest (line_held i s l n u)

-- From the bench's start, the S line included, after any lines: behind a V line outside its channel's limits, and any lines of which none
-- ends the error, a V line of the channel that does not end it either sets its error bit in both groups, and R lines print it: "each taken
-- reading in between sets the bit again". 02, Q-12: unless it is masked at that line; before it may have been masked or not.
pub held_lines : (ls : List (List ℕ)) (i n m : ℕ) (first last : List ℕ) (between : List (List ℕ))
    → CountLine i n (session_after start_session ls) first
    → is_outside (low_limit (session_after start_session ls).chip.registers i) (high_limit (session_after start_session ls).chip.registers i) n ≡ true
    → NoneEndLines i (judged_line (session_after start_session ls) first).session between
    → CountLine i m (session_after (judged_line (session_after start_session ls) first).session between) last
    → (EndsLine i (session_after (judged_line (session_after start_session ls) first).session between) last → ⊥)
    → volt_masked (session_after (judged_line (session_after start_session ls) first).session between).chip.registers i ≡ false
    → PrintsError i (judged_line (session_after (judged_line (session_after start_session ls) first).session between) last).session
held_lines ls i n m first last between a o u b w k =
    let s = session_after (judged_line (session_after start_session ls) first).session between in
    let before = lines_held u (line_starts i (session_after start_session ls) first n (lines_sized ls) a o) in
    set_printed i s last m b before.sized k (line_held i s last w before)
