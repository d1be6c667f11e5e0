-- Demand 3 for lines of text: of two texts, no line refused, alike but that temperatures in the second may be hotter (missing is hottest),
-- each fan's duty after every tick, before the start-up kick, is at least as high in the second. A first line may be an S line, the same in
-- both; G and P lines say the same in both. Assumes nothing.
use Rattle.std.specs.Prelude.{◌≡◌, ℕ, Option, Some, None}
use mathlib.Core.List.{List, []}
use Rattle.state.specs.PowerOn.{default_setup}
use Rattle.state.specs.Valid.{default_valid}
use Rattle.laws.specs.Never.{never}
use Rattle.temperature.specs.declared.Stated.{Stated}
use Rattle.temperature.specs.Temperature.{stated_reading}
use Rattle.temperature.specs.Order.{NoHotter}
use Rattle.event.specs.declared.Event.{Event}
use Rattle.event.specs.declared.Event.TheVariants.{Temperature}
use Rattle.event.specs.declared.Answer.TheVariants.{Nothing, Ticked}
use Rattle.event.specs.declared.Tick.{Tick}
use Rattle.event.specs.Run.{Given}
use Rattle.parse.specs.Parse.{data_of}
use Rattle.line.specs.declared.Session.{Session}
use Rattle.line.specs.Line.{Judged, start_session, begun_line, setup_line, event_line, judged_line}
use Rattle.theorems.specs.Alike.{Alike, same as alike, hotter as alike-hotter, NoHigher, others, AllNoHigher, none as no-answers, more as more-answers}
use Rattle.theorems.specs.Steps.{NotRefused}
use Rattle.theorems.proofs.Hotter.{Pair, power_pair, step, next}
use Rattle.spoken.specs.Lines.{answers_of, AllTaken, LinesAlike, AllLinesAlike, same, said, hotter, none, more}
use Rattle.spoken.specs.Carried.{event_alone}
use Rattle.spoken.specs.TakenLine.{given_by, Takes, event, setup, line_takes}

-- two judged lines: the first leaves a chip no hotter, and answers no higher duties
record Lines (j k : Judged) : Type 0 where
  chips : Pair j.session.chip k.session.chip
  answers : NoHigher j.answer k.answer

nothing : (t : Tick) → Nothing ≡ Ticked t → ⊥
nothing t e = never (cc)

module _ (s t : Session) (p : Pair s.chip t.chip) where
  -- alike events
  events_rise : {g h : Given} → Alike g h → NotRefused s.chip g → NotRefused t.chip h → Lines (event_line s.chip g.event g.bytes) (event_line t.chip h.event h.bytes)
  unfolding begun_line event_line
  events_rise a x y = record { chips = next p a x y; answers = (step p a x y).answers }

  -- T or U lines, the second hotter; the bytes that they carry make no difference
  hotter_rises : {l m : List ℕ} {zone : ℕ} {q r : Stated} {j k : Judged} → NoHotter (stated_reading q) (stated_reading r) → Takes s l (Some (Temperature zone q)) j → Takes t m (Some (Temperature zone r)) k → Lines j k
  unfolding event_line
  hotter_rises {l} {m} {zone} {q} {r} h (event x) (event y) =
      let cool = event_alone l (Temperature zone q) (λ address command e. never (cc)) s.chip in
      let hot = event_alone m (Temperature zone r) (λ address command e. never (cc)) t.chip in
      rw (cool, hot) (events_rise (alike-hotter zone [] {r = q} {s = r} h) (rw cool at x) (rw hot at y))

  -- lines that say the same event with the same bytes
  said_rises : {l m : List ℕ} {e : Event} {j k : Judged} → data_of l ≡ data_of m → Takes s l (Some e) j → Takes t m (Some e) k → Lines j k
  said_rises {l} {m} {e} d (event x) (event y) = rw d (events_rise (alike (given_by m e)) (rw d at x) y)

  -- the same line: an event, or a setup, which starts both chips anew
  same_rises : {l : List ℕ} {q : Option Event} {j k : Judged} → Takes s l q j → Takes t l q k → Lines j k
  unfolding begun_line setup_line
  same_rises {l} (event {e} x) (event y) = events_rise (alike (given_by l e)) x y
  same_rises (setup v) (setup w) = record { chips = power_pair _ v; answers = others nothing nothing }

  lines_rise : {l m : List ℕ} → LinesAlike l m → (judged_line s l).refusal ≡ None → (judged_line t m).refusal ≡ None → Lines (judged_line s l) (judged_line t m)
  lines_rise (same l) x y = same_rises (line_takes s l x) (line_takes t l y)
  lines_rise (said {l} {m} g h d) x y = said_rises d (rw g at (line_takes s l x)) (rw h at (line_takes t m y))
  lines_rise (hotter {l} {m} g h a) x y = hotter_rises a (rw g at (line_takes s l x)) (rw h at (line_takes t m y))

-- from two such sessions on, all duties are at least as high in the second
run : (s t : Session) {ls ms : List (List ℕ)} → Pair s.chip t.chip → AllLinesAlike ls ms → AllTaken s ls → AllTaken t ms → AllNoHigher (answers_of s ls) (answers_of t ms)
unfolding answers_of
run s t p none x y = no-answers
run s t p (more {l = l} {m = m} a rest) (more x xs) (more y ys) =
    let r = lines_rise s t p a x y in
    more-answers r.answers (run (judged_line s l).session (judged_line t m).session r.chips rest xs ys)

pub demand_3_lines : (ls ms : List (List ℕ)) → AllLinesAlike ls ms → AllTaken start_session ls → AllTaken start_session ms → AllNoHigher (answers_of start_session ls) (answers_of start_session ms)
unfolding start_session
demand_3_lines ls ms a x y = run start_session start_session (power_pair default_setup default_valid) a x y
