-- Alike events, none refused, leave a chip that is no hotter than another no hotter, and answer no higher duties. Assumes nothing.
use Rattle.std.specs.Prelude.{◌≡◌, ℕ}
use Rattle.state.specs.declared.Chip.{Chip}
use Rattle.event.specs.declared.Answer.TheVariants.{Refused}
use Rattle.event.specs.declared.Stepped.{Stepped}
use Rattle.event.specs.Run.{Given, given_step}
use Rattle.theorems.specs.Alike.{NoHigher}
use Rattle.state.specs.declared.Refusal.{Refusal}
use Rattle.theorems.specs.Beside.{Under}

-- the event is not refused
abbrev pub NotRefused : Chip → Given → Type 0
NotRefused c g = (r : Refusal) → (given_step c g).answer ≡ Refused r → ⊥

-- of two steps, the first leaves a chip no hotter and answers no higher duties
pub record Rises (s t : Stepped) : Type 0 where
  pub chips : Under s.chip t.chip
  pub answers : NoHigher s.answer t.answer
