-- Document 02, Q-2, "Voltage hysteresis as the chip has it", said of lines of text, an S line too, and of what they print. Channels count
-- from 0 here, and from 1 in V lines. Assumes nothing.
use Rattle.std.specs.Prelude.{◌≡◌, true, List, [], ◌∷◌, ℕ, suc, ◌+◌, ◌/◌, ◌%◌, ◌^◌, Some, Ok}
use Rattle.map.specs.Names.{B_ERROR_STATUS_2, H_ERROR_STATUS_2}
use Rattle.sense.specs.Errors.{low_limit, high_limit}
use Rattle.sense.specs.Hysteresis.{hysteresis_of, ends_error}
use Rattle.event.specs.declared.Event.TheVariants.{Voltage}
use Rattle.line.specs.declared.Session.{Session}
use Rattle.line.specs.declared.Asked.TheVariants as asked
use Rattle.line.specs.Line.{asked_text, judged_line}
use Rattle.spoken.specs.ReadLines.{PrintsBit}

-- ---- what is said

-- a line that gives channel i a count, and is not refused
abbrev pub CountLine : ℕ → ℕ → Session → List ℕ → Type 0
CountLine i n s l = asked_text s.begun l ≡ Ok (asked.Event (Voltage (suc i) (Some n)))

-- a V line that is "at least low plus VH and at most high minus VH"
pub data EndsLine (i : ℕ) (s : Session) (l : List ℕ) : Type 0 where
  within : (n : ℕ) → CountLine i n s l → ends_error (low_limit s.chip.registers i) (high_limit s.chip.registers i) (hysteresis_of s.chip.registers) n ≡ true → EndsLine i s l

-- none of the lines, from a session on, is one; a line that is refused may say anything, since it asks for no event
pub data NoneEndLines (i : ℕ) : Session → List (List ℕ) → Type 0 where
  none : {s : Session} → NoneEndLines i s []
  more : {s : Session} {l : List ℕ} {ls : List (List ℕ)} → (EndsLine i s l → ⊥) → NoneEndLines i (judged_line s l).session ls → NoneEndLines i s (l ∷ ls)

-- R lines that are acknowledged print the error bit of channel i, of the BMC group and of the Host group
pub record PrintsError (i : ℕ) (s : Session) : Type 0 where
  pub bmc : PrintsBit s (B_ERROR_STATUS_2 + i / 8) (2 ^ (i % 8))
  pub host : PrintsBit s (H_ERROR_STATUS_2 + i / 8) (2 ^ (i % 8))
