-- The lines of an input text as demand 3 speaks of them: none refused, and alike but that temperatures in the second may be hotter. Each
-- line is without its line feed. Assumes nothing.
use Rattle.std.specs.Prelude.{◌≡◌, List, [], ◌∷◌, ℕ, Some, None}
use Rattle.temperature.specs.declared.Stated.{Stated}
use Rattle.temperature.specs.Temperature.{stated_reading}
use Rattle.temperature.specs.Order.{NoHotter}
use Rattle.event.specs.declared.Event.{Event}
use Rattle.event.specs.declared.Event.TheVariants.{Temperature}
use Rattle.event.specs.declared.Answer.{Answer}
use Rattle.parse.specs.Parse.{event_of, data_of}
use Rattle.line.specs.declared.Session.{Session}
use Rattle.line.specs.Line.{judged_line}

-- what each line answers, from a session on
unfoldable pub answers_of : Session → List (List ℕ) → List Answer
answers_of s [] = []
answers_of s (l ∷ ls) = (judged_line s l).answer ∷ answers_of (judged_line s l).session ls

-- none of the lines is refused, from a session on
pub data AllTaken : Session → List (List ℕ) → Type 0 where
  none : {s : Session} → AllTaken s []
  more : {s : Session} {l : List ℕ} {ls : List (List ℕ)} → (judged_line s l).refusal ≡ None → AllTaken (judged_line s l).session ls → AllTaken s (l ∷ ls)

-- the same line, whatever it says, lines that say the same event with the same bytes, or T or U lines for the same zone, the temperature of
-- the second hotter or equal in sixteenths, missing the hottest; 02, Q-7: "Demand 3 reads T and U alike, by the temperature they state."
pub data LinesAlike : List ℕ → List ℕ → Type 0 where
  same : (l : List ℕ) → LinesAlike l l
  said : {l m : List ℕ} {e : Event} → event_of l ≡ Some e → event_of m ≡ Some e → data_of l ≡ data_of m → LinesAlike l m
  hotter : {l m : List ℕ} {zone : ℕ} {q r : Stated} → event_of l ≡ Some (Temperature zone q) → event_of m ≡ Some (Temperature zone r) → NoHotter (stated_reading q) (stated_reading r) → LinesAlike l m

-- alike place by place
pub data AllLinesAlike : List (List ℕ) → List (List ℕ) → Type 0 where
  none : AllLinesAlike [] []
  more : {l m : List ℕ} {ls ms : List (List ℕ)} → LinesAlike l m → AllLinesAlike ls ms → AllLinesAlike (l ∷ ls) (m ∷ ms)
