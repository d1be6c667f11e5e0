-- A list of events, one after the other. Assumes nothing.
use Rattle.std.specs.Prelude.{List, [], ◌∷◌, ℕ}
use Rattle.state.specs.declared.Chip.{Chip}
use Rattle.event.specs.declared.Event.{Event}
use Rattle.event.specs.declared.Answer.{Answer}
use Rattle.event.specs.declared.Stepped.{Stepped}
use Rattle.event.specs.Event.{stepped_chip}

-- an event as it is given, with the bytes beside it
pub record Given : Type 0 where
  pub event : Event
  pub bytes : List ℕ

-- an event with none
abbrev pub alone : Event → Given
alone e = record { event = e; bytes = [] }

abbrev pub given_step : Chip → Given → Stepped
given_step c g = stepped_chip c g.event g.bytes

-- the chip after the events
unfoldable pub chip_after : Chip → List Given → Chip
chip_after c [] = c
chip_after c (g ∷ gs) = chip_after (given_step c g).chip gs

-- what each of them answers
unfoldable pub answers_to : Chip → List Given → List Answer
answers_to c [] = []
answers_to c (g ∷ gs) = (given_step c g).answer ∷ answers_to (given_step c g).chip gs
