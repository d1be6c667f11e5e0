-- Document 02, Q-4, "Fan counts that are not torn", said of lines of text, an S line too, and of what they print. Fans count from 0.
-- Assumes nothing.
use Rattle.std.specs.Prelude.{◌≡◌, List, [], ◌∷◌, ℕ, Some, Ok}
use Rattle.map.specs.FanBytes.{low_place, high_place}
use Rattle.state.specs.declared.Chip.{Chip}
use Rattle.event.specs.declared.Event.TheVariants.{Read}
use Rattle.event.specs.declared.Answer.TheVariants.{Byte}
use Rattle.text.specs.Answers.{byte_text}
use Rattle.line.specs.declared.Session.{Session}
use Rattle.line.specs.declared.Asked.TheVariants as asked
use Rattle.line.specs.Line.{Judged, asked_text, judged_line}
use Rattle.line.specs.Session.{printed_by}
use Rattle.theorems.specs.WholeCounts.{WholeCount}

-- ---- what is said

-- a line that is an R of either byte of a fan's count, and is acknowledged
pub data ReadsFanLine (fan : ℕ) (s : Session) (l : List ℕ) : Type 0 where
  low : (address byte : ℕ) → asked_text s.begun l ≡ Ok (asked.Event (Read address (low_place fan))) → (judged_line s l).answer ≡ Byte (Some byte) → ReadsFanLine fan s l
  high : (address byte : ℕ) → asked_text s.begun l ≡ Ok (asked.Event (Read address (high_place fan))) → (judged_line s l).answer ≡ Byte (Some byte) → ReadsFanLine fan s l

-- none of the lines, from a session on, is one; a line that is refused may say anything, since it asks for no event
pub data NoneReadLines (fan : ℕ) : Session → List (List ℕ) → Type 0 where
  none : {s : Session} → NoneReadLines fan s []
  more : {s : Session} {l : List ℕ} {ls : List (List ℕ)} → (ReadsFanLine fan s l → ⊥) → NoneReadLines fan (judged_line s l).session ls → NoneReadLines fan s (l ∷ ls)

-- two lines that print two bytes, which are those of the fan's count in a chip and make it
pub record PrintsWhole (c : Chip) (fan : ℕ) (first second : Judged) (lower upper : ℕ) : Type 0 where
  pub prints_low : (n : ℕ) → printed_by first n ≡ byte_text lower
  pub prints_high : (n : ℕ) → printed_by second n ≡ byte_text upper
  pub count : WholeCount c fan lower upper
