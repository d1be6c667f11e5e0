-- What is left of a list at a place, as a loop walks it. Assumes nothing.
use Rattle.std.specs.Prelude.{◌≡◌, List, [], ◌∷◌, ℕ, ◌+◌, ◌-◌, ◌≤◌, ◌<◌, length, get_or, take, drop}
use Rattle.std.proofs.Common.{add-one, arith, length-drop, drop_of_length-le, drop-cons, take_all}

-- the element at i, and what is left behind it
pub left_some : (s : List ℕ) (i : ℕ) → i < length s → drop i s ≡ get_or s i 0 ∷ drop (i + 1) s
left_some s i h = rw (add-one, drop-cons s i 0)

-- nothing at the end
pub left_none : (s : List ℕ) (i : ℕ) → length s ≤ i → drop i s ≡ []
left_none s i h = drop_of_length-le s h

-- the part from i on, as the code takes it
pub left_part : (s : List ℕ) (i : ℕ) → take (length s - i) (drop i s) ≡ drop i s
left_part s i = take_all (length s - i) (drop i s) (simp length-drop (omega arith))
