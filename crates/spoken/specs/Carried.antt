-- The bytes that a line carries: they make no difference to an event that is no block write. Assumes nothing.
use Rattle.std.specs.Prelude.{◌≡◌, List, [], ℕ, Ok}
use Rattle.std.proofs.Math.Path.{ap}
use Rattle.std.proofs.Common.{◌∙◌}
use Rattle.state.specs.declared.Chip.{Chip}
use Rattle.event.specs.declared.Event.{Event}
use Rattle.event.specs.declared.Event.TheVariants.{WriteBlock}
use Rattle.event.specs.Event.{stepped_chip}
use Rattle.event.specs.Blocks.{step_alone_lem}
use Rattle.parse.specs.Parse.{data_of}
use Rattle.parse.specs.Data.{data_short}
use Rattle.line.specs.declared.Session.{Session}
use Rattle.line.specs.declared.Asked.TheVariants as asked
use Rattle.line.specs.Line.{asked_text, event_line, judged_by, judged_line}

module _ (l : List ℕ) (e : Event) (none : (address command : ℕ) → e ≡ WriteBlock address command → ⊥) where
  -- the event with a line's bytes beside it is the event alone
  pub event_alone : (c : Chip) → stepped_chip c e (data_of l) ≡ stepped_chip c e []
  event_alone c = step_alone_lem c e (data_of l) (data_short l) none

  -- so a line that asks for it comes to what the event alone does
  pub line_alone : (s : Session) → asked_text s.begun l ≡ Ok (asked.Event e) → judged_line s l ≡ event_line s.chip e []
  unfolding judged_line judged_by event_line
  line_alone s a = ap (judged_by s l) a ∙ rw (event_alone s.chip)
