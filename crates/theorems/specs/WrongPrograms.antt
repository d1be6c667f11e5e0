-- Document 01, "What counts as done": "Try these against it". What each of these programs answers is not what the definition answers, so a
-- promise to answer by the definition shuts it out. The session is that of 01; its K are the lines 1, 4, 7 and 9. "One that refuses every
-- line" is shut out in spoken/specs/WrongLines.antt. Assumes nothing.
use Rattle.std.specs.Prelude.{◌≡◌, List, map, ℕ, ◌-◌, get_or}
use Rattle.std.proofs.Common.{ap, ◌∙◌, arith}
use Rattle.laws.specs.Never.{never}
use Rattle.state.specs.PowerOn.{default_setup, power_on}
use Rattle.event.specs.declared.Answer.{Answer}
use Rattle.event.specs.declared.Answer.TheVariants.{Nothing, Ticked}
use Rattle.event.specs.declared.Tick.{Tick}
use Rattle.event.specs.Run.{given_step, answers_to}
use Rattle.event.specs.Session.{session, answers, session_answers}

-- the definition's answer to a line of the session, without a setup
abbrev pub answer : ℕ → Answer
answer line = get_or (answers_to (power_on default_setup) session) (line - 1) Nothing

-- what the definition answers to its first, second and fourth K
module _ (t : Tick) where
  first_duty : answer 1 ≡ Ticked t → t.duty1 ≡ 256
  unfolding answers
  first_duty e = let f = rw session_answers at e in cc

  second_duty : answer 4 ≡ Ticked t → t.duty1 ≡ 96
  unfolding answers
  second_duty e = let f = rw session_answers at e in cc

  fourth_errors : answer 9 ≡ Ticked t → t.errors ≡ 1
  unfolding answers
  fourth_errors e = let f = rw session_answers at e in cc

-- "one that always answers 256 and no error": the second K has no 256
pub always_256 : (t : Tick) → t.duty1 ≡ 256 → answer 4 ≡ Ticked t → ⊥
always_256 t d e = omega (arith, second_duty t e)

-- "one that takes events and does nothing", so that each event finds the chip as at power-on: the fourth K has an error that the first has not
pub does_nothing : answers_to (power_on default_setup) session ≡ map (λ g. (given_step (power_on default_setup) g).answer) session → ⊥
unfolding answers_to session answers
does_nothing e = never (fourth_errors _ (ap (λ (l : List Answer). get_or l 8 Nothing) e ∙ ap (λ (l : List Answer). get_or l 0 Nothing) session_answers))

-- "One that runs the tables on the first tick only breaks demand 2 at the second K above"
pub first_tick_only : (t u : Tick) → u.duty1 ≡ t.duty1 → answer 1 ≡ Ticked t → answer 4 ≡ Ticked u → ⊥
first_tick_only t u d e f = omega (arith, first_duty t e, second_duty u f)

-- "so does a made-up error count at the fourth": any number but the definition's
pub made_up_errors : (t : Tick) → (t.errors ≡ 1 → ⊥) → answer 9 ≡ Ticked t → ⊥
made_up_errors t made_up e = made_up (fourth_errors t e)
