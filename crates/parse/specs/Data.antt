-- How many bytes stand beside an event. Assumes nothing.
use Rattle.std.specs.Prelude.{◌≡◌, List, Option, None, Some, ℕ, ◌≤◌, min, length}
use Rattle.std.proofs.Common.{arith}
use Rattle.laws.specs.Tab.{tab_long}
use Rattle.text.specs.Hex.{hexes_of}
use Rattle.parse.specs.Parse.{three_of, data_by, data_of}

-- as many as the count says, up to the longest block
pub data_count : (a command n : ℕ) (s : List ℕ) → length (data_by (Some (a, command, n)) s) ≡ min n 32
unfolding hexes_of
data_count a command n s = tab_long _ (min n 32)

by_short : (t : Option (ℕ × ℕ × ℕ)) (s : List ℕ) → length (data_by t s) ≤ 32
by_short None s = omega arith
by_short (Some (a, command, n)) s = omega (arith, data_count a command n s)

-- never more than that
pub data_short : (s : List ℕ) → length (data_of s) ≤ 32
unfolding data_of
data_short s = grind (arith, by_short (three_of s) s)
