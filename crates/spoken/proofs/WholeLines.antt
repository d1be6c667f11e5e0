-- Document 02, Q-4, "Fan counts that are not torn", said of lines of text, an S line too, and of what they print. Fans count from 0.
-- Assumes nothing.
use Rattle.std.specs.Prelude.{◌≡◌, refl, true, List, [], ℕ, ◌<◌, Result, Ok, Err, Some}
use Rattle.std.proofs.Math.Path.{ap}
use Rattle.std.proofs.Common.{◌∙◌}
use Rattle.map.specs.FanBytes.{low_place, high_place}
use Rattle.state.specs.declared.Chip.{Chip}
use Rattle.event.specs.declared.Event.TheVariants.{Read}
use Rattle.event.specs.declared.Answer.TheVariants.{Byte}
use Rattle.event.specs.Event.{stepped_chip}
use Rattle.event.specs.Run.{Given, chip_after}
use Rattle.event.specs.NotTorn.{ReadsFan, low as event-low, high as event-high, NoneReads, none as no-events, more as more-events}
use Rattle.line.specs.declared.Session.{Session}
use Rattle.line.specs.declared.Asked.{Asked}
use Rattle.line.specs.declared.Asked.TheVariants as asked
use Rattle.line.specs.Line.{start_session, asked_text, refused_line, begun_line, event_line, judged_by, judged_line}
use Rattle.line.specs.Session.{session_after}
use Rattle.theorems.specs.WholeCounts.{WholeCount, whole_counts}
use Rattle.spoken.specs.TakenLine.{given_by}
use Rattle.spoken.specs.SaidLines.{said_by, said_from, line_begun, asks_no_setup, said_chip, Reached, reach, lines_reach}
use Rattle.spoken.specs.ReadLines.{read_line_lem, read_answer_lem, byte_printed}
use Rattle.state.specs.declared.Refusal.{Refusal}
use Rattle.event.specs.declared.Event.{Event}
use Rattle.spoken.specs.WholeLines.{ReadsFanLine, high, low, NoneReadLines, more, none, PrintsWhole}

-- ---- lines as events

module _ (s : Session) (begun : s.begun ≡ true) (l : List ℕ) where
  -- a line that is no acknowledged R of either byte is no such event
  asked_none : (fan : ℕ) (a : Result Asked Refusal) → asked_text s.begun l ≡ a → (ReadsFanLine fan s l → ⊥) → {gs : List Given} → NoneReads fan (judged_by s l a).session.chip gs → NoneReads fan s.chip (said_by l a gs)
  unfolding judged_line judged_by refused_line event_line begun_line said_by
  asked_none fan (Ok asked.Setup) q n u = absurd (asks_no_setup s begun l q)
  asked_none fan (Err r) q n u = u
  asked_none fan (Ok (asked.Event e)) q n u = more-events reads u
    where
      reads : ReadsFan fan s.chip (given_by l e) → ⊥
      reads (event-low address byte i r) = n (low address byte (q ∙ ap (λ (e : Event). Ok (asked.Event e)) i) (rw q r))
      reads (event-high address byte i r) = n (high address byte (q ∙ ap (λ (e : Event). Ok (asked.Event e)) i) (rw q r))

said_none : {fan : ℕ} {s : Session} {ls : List (List ℕ)} → s.begun ≡ true → NoneReadLines fan s ls → NoneReads fan s.chip (said_from s ls)
unfolding said_from judged_line
said_none b none = no-events
said_none {fan} {s} b (more {l = l} n u) = asked_none s b l fan _ refl n (said_none (line_begun s b l) u)

-- ---- the two bytes

-- d is the chip after the first of the two reads
reached_whole : {c d : Chip} → Reached c → (fan : ℕ) → fan < 4
    → (first second : ℕ) (between : List Given) {lower upper : ℕ}
    → (stepped_chip c (Read first (low_place fan)) []).answer ≡ Byte (Some lower)
    → (stepped_chip c (Read first (low_place fan)) []).chip ≡ d
    → NoneReads fan d between
    → (stepped_chip (chip_after d between) (Read second (high_place fan)) []).answer ≡ Byte (Some upper)
    → WholeCount c fan lower upper
reached_whole (reach s gs) fan h first second between l e u r = whole_counts s gs fan h first second [] [] between l (rw e u) (rw e r)

-- From the bench's start, the S line included, after any lines: an R line of a fan's low byte and, behind any lines but an acknowledged R
-- of either byte, one of its high byte, both acknowledged, print two bytes that make the count at the first.
pub whole_lines : (ls : List (List ℕ)) (fan : ℕ) → fan < 4
    → (first second : List ℕ) (address address' : ℕ) (between : List (List ℕ)) {lower upper : ℕ}
    → asked_text (session_after start_session ls).begun first ≡ Ok (asked.Event (Read address (low_place fan)))
    → (judged_line (session_after start_session ls) first).answer ≡ Byte (Some lower)
    → NoneReadLines fan (judged_line (session_after start_session ls) first).session between
    → asked_text (session_after (judged_line (session_after start_session ls) first).session between).begun second ≡ Ok (asked.Event (Read address' (high_place fan)))
    → (judged_line (session_after (judged_line (session_after start_session ls) first).session between) second).answer ≡ Byte (Some upper)
    → PrintsWhole (session_after start_session ls).chip fan (judged_line (session_after start_session ls) first) (judged_line (session_after (judged_line (session_after start_session ls) first).session between) second) lower upper
unfolding event_line begun_line
whole_lines ls fan h first second address address' between {upper = upper} a l u b r =
    let s = session_after start_session ls in
    let t = (judged_line s first).session in
    let line = read_line_lem s first address (low_place fan) a in
    let begun : t.begun ≡ true = rw line in
    let last : (stepped_chip (chip_after t.chip (said_from t between)) (Read address' (high_place fan)) []).answer ≡ Byte (Some upper) = rw (said_chip t begun between) at (read_answer_lem _ second address' (high_place fan) b r) in
    record {
      prints_low = byte_printed s first address (low_place fan) a l;
      prints_high = byte_printed _ second address' (high_place fan) b r;
      count = reached_whole (lines_reach ls) fan h address address' (said_from t between) (read_answer_lem s first address (low_place fan) a l) (rw line) (said_none begun u) last;
    }
