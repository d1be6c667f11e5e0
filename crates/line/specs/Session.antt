-- A text of lines given to the chip one after the other, and what it prints. Assumes nothing.
use Rattle.std.specs.Prelude.{List, [], ◌∷◌, ◌++◌, ℕ, ◌+◌, Option, Some, None}
use Rattle.state.specs.declared.Refusal.{Refusal}
use Rattle.state.specs.Refusal.{number_of}
use Rattle.text.specs.Answers.{refusal_text}
use Rattle.line.specs.declared.Session.{Session}
use Rattle.line.specs.Line.{Judged, judged_line, answer_text}

-- the session after the lines
unfoldable pub session_after : Session → List (List ℕ) → Session
session_after s [] = s
session_after s (l ∷ ls) = session_after (judged_line s l).session ls

-- what line n prints: its answer, or "E, its line number from 1, the refusal"
unfoldable pub printed_unless : Judged → ℕ → Option Refusal → List ℕ
printed_unless j n None = answer_text j.session.chip j.answer
printed_unless j n (Some r) = refusal_text n (number_of r)

unfoldable pub printed_by : Judged → ℕ → List ℕ
printed_by j n = printed_unless j n j.refusal

unfoldable pub printed_from : Session → ℕ → List (List ℕ) → List ℕ
printed_from s n [] = []
printed_from s n (l ∷ ls) = printed_by (judged_line s l) n ++ printed_from (judged_line s l).session (n + 1) ls
