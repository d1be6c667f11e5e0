-- Lines as the events that they ask for, and the chips that lines reach from the bench's start. Assumes nothing.
use Rattle.std.specs.Prelude.{◌≡◌, true, List, [], ◌∷◌, ℕ, Result, Ok, Err}
use Rattle.std.proofs.Math.Path.{refl}
use Rattle.std.proofs.Common.{◌∙◌}
use Rattle.state.specs.declared.Chip.{Chip}
use Rattle.state.specs.declared.Setup.{Setup}
use Rattle.state.specs.PowerOn.{default_setup, power_on}
use Rattle.event.specs.Run.{Given, chip_after}
use Rattle.event.specs.Lasting.{Sized}
use Rattle.event.specs.Reached.{reached_sized}
use Rattle.settings.specs.Settings.{settings_of, setup_or_default}
use Rattle.line.specs.declared.Session.{Session}
use Rattle.line.specs.declared.Asked.{Asked}
use Rattle.line.specs.declared.Asked.TheVariants as asked
use Rattle.line.specs.Line.{start_session, asked_text, refused_line, begun_line, setup_line, event_line, judged_by, judged_line}
use Rattle.line.specs.Comes.{begun_asks}
use Rattle.line.specs.Session.{session_after}
use Rattle.state.specs.declared.Refusal.{Refusal}
use Rattle.spoken.specs.TakenLine.{given_by}

-- ---- lines as events

-- the event that a line asks for, before others
unfoldable pub said_by : List ℕ → Result Asked Refusal → List Given → List Given
said_by l (Ok asked.Setup) gs = gs
said_by l (Err n) gs = gs
said_by l (Ok (asked.Event e)) gs = given_by l e ∷ gs

-- the events that lines ask for, from a session on
unfoldable pub said_from : Session → List (List ℕ) → List Given
said_from s [] = []
said_from s (l ∷ ls) = said_by l (asked_text s.begun l) (said_from (judged_line s l).session ls)

module _ (s : Session) (begun : s.begun ≡ true) (l : List ℕ) where
  asked_begun : (a : Result Asked Refusal) → (judged_by s l a).session.begun ≡ true
  unfolding judged_by setup_line refused_line event_line begun_line
  asked_begun (Ok asked.Setup) = refl
  asked_begun (Err n) = begun
  asked_begun (Ok (asked.Event e)) = refl

  -- a session that has taken a line has, whatever comes
  pub line_begun : (judged_line s l).session.begun ≡ true
  unfolding judged_line
  line_begun = asked_begun (asked_text s.begun l)

  pub asks_no_setup : asked_text s.begun l ≡ Ok asked.Setup → ⊥
  asks_no_setup = rw begun (begun_asks l)

  -- a line is its event, or leaves the chip
  asked_chip : (a : Result Asked Refusal) → (a ≡ Ok asked.Setup → ⊥) → (gs : List Given) → chip_after (judged_by s l a).session.chip gs ≡ chip_after s.chip (said_by l a gs)
  unfolding judged_by refused_line event_line begun_line said_by chip_after
  asked_chip (Ok asked.Setup) n gs = absurd (n refl)
  asked_chip (Err r) n gs = refl
  asked_chip (Ok (asked.Event e)) n gs = refl

-- from a taken line on, lines do to the chip what their events do
pub said_chip : (s : Session) → s.begun ≡ true → (ls : List (List ℕ)) → (session_after s ls).chip ≡ chip_after s.chip (said_from s ls)
unfolding session_after said_from chip_after judged_line
said_chip s b [] = refl
said_chip s b (l ∷ ls) = said_chip (judged_line s l).session (line_begun s b l) ls ∙ asked_chip s b l _ (asks_no_setup s b l) _

-- ---- the bench's start

-- a chip that events reach from power-on
pub data Reached : Chip → Type 0 where
  reach : (s : Setup) (gs : List Given) → Reached (chip_after (power_on s) gs)

begun_reached : (s : Session) → s.begun ≡ true → (ls : List (List ℕ)) → ((gs : List Given) → Reached (chip_after s.chip gs)) → Reached (session_after s ls).chip
begun_reached s b ls r = rw (said_chip s b ls) (r (said_from s ls))

asked_reached : (l : List ℕ) (a : Result Asked Refusal) (ls : List (List ℕ)) → Reached (session_after start_session ls).chip → Reached (session_after (judged_by start_session l a).session ls).chip
unfolding judged_by setup_line refused_line event_line begun_line start_session chip_after
asked_reached l (Ok asked.Setup) ls r = begun_reached _ refl ls (reach (setup_or_default (settings_of l)))
asked_reached l (Err n) ls r = r
asked_reached l (Ok (asked.Event e)) ls r = begun_reached _ refl ls (λ gs. reach default_setup (given_by l e ∷ gs))

-- any lines reach one, with the default setup or that of an S line
pub lines_reach : (ls : List (List ℕ)) → Reached (session_after start_session ls).chip
unfolding session_after start_session judged_line chip_after
lines_reach [] = reach default_setup []
lines_reach (l ∷ ls) = asked_reached l _ ls (lines_reach ls)

-- so its lists are as long as the chip has parts
reached_long : {c : Chip} → Reached c → Sized c
reached_long (reach s gs) = reached_sized s gs

pub lines_sized : (ls : List (List ℕ)) → Sized (session_after start_session ls).chip
lines_sized ls = reached_long (lines_reach ls)
