-- What comes of a line, by what it asks for. Assumes nothing.
use Rattle.std.specs.Prelude.{◌≡◌, refl, Bool, true, false, List, ℕ, ◌≤◌, ◌<◌, eqb, ltb, length, get_or, Option, Some, None, Result, Ok, Err}
use Rattle.std.proofs.Common.{arith, eq-eqb, ne_eqb, eqb-true, lt-ltb, le-ltb}
use Rattle.laws.specs.Never.{never}
use Rattle.laws.specs.Pick.{pick}
use Rattle.laws.specs.Pointwise.{pick_each}
use Rattle.event.specs.declared.Event.{Event}
use Rattle.event.specs.Event.{refusal_of}
use Rattle.state.specs.declared.Setup.{Setup}
use Rattle.state.specs.declared.Refusal.{Refusal}
use Rattle.state.specs.declared.Refusal.TheVariants as refusal
use Rattle.state.specs.Refusal.{number_of}
use Rattle.parse.specs.Parse.{letter_of, event_of, data_of}
use Rattle.settings.specs.Settings.{settings_of}
use Rattle.text.specs.Answers.{ROOM, BLOCK_ROOM}
use Rattle.text.specs.Written.{wrote_none, wrote_zero}
use Rattle.line.specs.declared.Session.{Session}
use Rattle.line.specs.declared.Taken.{Taken}
use Rattle.line.specs.declared.Asked.{Asked}
use Rattle.line.specs.declared.Asked.TheVariants as asked
use Rattle.line.specs.Line.{room_for, asked_unless, asked_event, asked_settings, asked_other, asked_by, asked_text, asked_line, refused_line, begun_line, setup_line, event_line, judged_by, answer_text, answer_room, replied, taken_by, buffer_by, silent_line, judged_line, judged_in, taken_line, buffer_after}

-- a line's reply and what it leaves in the lent output
pub record Comes (s : Session) (line out : List ℕ) (t : Taken) (left : List ℕ) : Type 0 where
  pub taken : taken_line s line out ≡ t
  pub buffer : buffer_after s line out ≡ left

-- with room for its answer a line is judged as the laws of lines have it
pub judged_with_room : (s : Session) (line : List ℕ) (room : ℕ) → room_for line ≤ room → judged_in s line room ≡ judged_line s line
unfolding judged_in judged_line asked_line
judged_with_room s line room h = rw (le-ltb room (room_for line) h)

-- 128 bytes are room for any line's
pub room_for_most : (line : List ℕ) → room_for line ≤ BLOCK_ROOM
unfolding room_for
room_for_most line = pick_each (λ (n : ℕ). n ≤ BLOCK_ROOM) (eqb (get_or line 0 0) 71) (omega arith) (omega arith)

-- and 64 for one that does not begin with G
pub room_for_other : (line : List ℕ) → (get_or line 0 0 ≡ 71 → ⊥) → room_for line ≡ ROOM
unfolding room_for
room_for_other line n = rw (ne_eqb (get_or line 0 0) 71 n)

-- and 128 for one that does
pub room_for_block : (line : List ℕ) → get_or line 0 0 ≡ 71 → room_for line ≡ BLOCK_ROOM
unfolding room_for
room_for_block line g = rw (eq-eqb (get_or line 0 0) 71 g)

-- 02: "for a line that begins with G, an output under 128 bytes is 5", whatever else is in the line
pub no_room_for_block : (begun : Bool) (room : ℕ) (line : List ℕ) → get_or line 0 0 ≡ 71 → room < BLOCK_ROOM → asked_line begun room line ≡ Err refusal.Room
unfolding asked_line
no_room_for_block begun room line g h = rw (room_for_block line g, lt-ltb room BLOCK_ROOM h)

-- refusal 3: "S after any taken line", so a session that has begun asks for no setup
pub begun_asks : (l : List ℕ) → asked_text true l ≡ Ok asked.Setup → ⊥
unfolding asked_text asked_by asked_other asked_settings asked_event asked_unless
begun_asks l = pick_each NoSetup (ltb 512 (length l)) (λ e. never (cc)) (said (event_of l))
  where
    NoSetup : Result Asked Refusal → Type 0
    NoSetup a = a ≡ Ok asked.Setup → ⊥

    settings : (s : Result Setup Refusal) → NoSetup (asked_settings true s)
    settings (Ok s) = λ e. never (cc)
    settings (Err r) = pick_each NoSetup (eqb (number_of r) 4) (λ e. never (cc)) (λ e. never (cc))

    event : (e : Event) (r : Option Refusal) → NoSetup (asked_unless e r)
    event e None q = never (cc)
    event e (Some r) q = never (cc)

    said : (p : Option Event) → NoSetup (asked_by true l p)
    said None = pick_each NoSetup (eqb (letter_of l) 83) (settings (settings_of l)) (λ e. never (cc))
    said (Some e) = event e (refusal_of e (data_of l))

-- an event that a line asks for is not refused
pub asks_taken : (begun : Bool) (l : List ℕ) (e : Event) → asked_text begun l ≡ Ok (asked.Event e) → refusal_of e (data_of l) ≡ None
unfolding asked_text asked_by asked_other asked_settings asked_event asked_unless
asks_taken begun l e = pick_each Tells (ltb 512 (length l)) (λ q. absurd (never (cc))) (said (event_of l))
  where
    Tells : Result Asked Refusal → Type 0
    Tells a = a ≡ Ok (asked.Event e) → refusal_of e (data_of l) ≡ None

    settings : (s : Result Setup Refusal) → Tells (asked_settings begun s)
    settings (Ok s) = pick_each Tells begun (λ q. absurd (never (cc))) (λ q. absurd (never (cc)))
    settings (Err r) =
        pick_each Tells (eqb (number_of r) 4) (λ q. absurd (never (cc)))
        (pick_each Tells begun (λ q. absurd (never (cc))) (λ q. absurd (never (cc))))

    event : (f : Event) (r : Option Refusal) → refusal_of f (data_of l) ≡ r → Tells (asked_unless f r)
    event f None z q = let same : f ≡ e = cc in rw (← same) z
    event f (Some r) z q = absurd (never (cc))

    said : (p : Option Event) → Tells (asked_by begun l p)
    said None = pick_each Tells (eqb (letter_of l) 83) (settings (settings_of l)) (λ q. absurd (never (cc)))
    said (Some f) = event f (refusal_of f (data_of l)) refl

module _ (s : Session) (line out : List ℕ) where
  pub setup_comes : asked_line s.begun (length out) line ≡ Ok asked.Setup → Comes s line out (silent_line (setup_line line)) out
  unfolding taken_line buffer_after judged_in judged_by taken_by buffer_by silent_line replied setup_line begun_line answer_text answer_room
  setup_comes e = record { taken = rw (e, wrote_zero); buffer = rw e (wrote_none _ out) }

  pub refused_comes : (r : Refusal) → asked_line s.begun (length out) line ≡ Err r → Comes s line out (silent_line (refused_line s r)) out
  unfolding taken_line buffer_after judged_in judged_by taken_by buffer_by silent_line replied refused_line answer_text answer_room
  refused_comes r e = record { taken = rw e; buffer = rw e (wrote_none _ out) }

  pub event_comes : (e : Event) → asked_line s.begun (length out) line ≡ Ok (asked.Event e) → Comes s line out (taken_by (event_line s.chip e (data_of line)) out) (buffer_by (event_line s.chip e (data_of line)) out)
  unfolding taken_line buffer_after judged_in judged_by
  event_comes e a = record { taken = rw a; buffer = rw a }
