-- The refusals by document 01's numbers ("Lines and refusals"). Assumes nothing.
use Rattle.std.specs.Prelude.{ℕ, Option, Some, None, Result, Ok, Err}
use Rattle.state.specs.declared.Refusal.{Refusal}
use Rattle.state.specs.declared.Refusal.TheVariants as refusal

unfoldable pub number_of : Refusal → ℕ
-- "1 | a setup number out of range, or duties that fall"
number_of refusal.Setup = 1
-- "2 | an event number out of range, "-" in H or A, address above 7Fh"
number_of refusal.Event = 2
-- "3 | S after any taken line"
number_of refusal.Late = 3
-- "4 | line too long, unknown letter, field count or spelling wrong"
number_of refusal.Spelling = 4
-- "5 | the lent output has under 64 bytes (a register dump: under 256)"
number_of refusal.Room = 5

-- "It returns its number", "A taken line returns 0"
unfoldable pub number_or_0 : Option Refusal → ℕ
number_or_0 None = 0
number_or_0 (Some r) = number_of r

-- "It returns its number and length 0", "A taken line returns 0 and its answer's length": of an answer the number, and the length
abbrev pub number_returned : {A : Type 0} → Result A Refusal → ℕ
number_returned (Ok x) = 0
number_returned (Err r) = number_of r

abbrev pub length_returned : Result ℕ Refusal → ℕ
length_returned (Ok n) = n
length_returned (Err r) = 0
