-- Document 01, "Lines and refusals": "One event a line, fields parted by tabs". A tab is 9. Assumes nothing.
use Rattle.std.specs.Prelude.{ℕ, ◌+◌, List, [], ◌∷◌, eqb, ltb, length, get_or, drop}
use Rattle.laws.specs.Pick.{pick}

-- the bytes before the first tab
unfoldable pub first_field : List ℕ → List ℕ
first_field [] = []
first_field (b ∷ s) = pick (eqb b 9) [] (b ∷ first_field s)

-- the fields behind the first tab
unfoldable pub other_fields : List ℕ → List (List ℕ)
other_fields [] = []
other_fields (b ∷ s) = pick (eqb b 9) (first_field s ∷ other_fields s) (other_fields s)

-- the fields of a line: one more than it has tabs, so an empty line has one, which is empty
unfoldable pub fields_of : List ℕ → List (List ℕ)
fields_of s = first_field s ∷ other_fields s

-- field k, counted from 0; empty where the line has fewer
unfoldable pub field_at : List ℕ → ℕ → List ℕ
field_at s k = get_or (fields_of s) k []

-- where the field behind the one at a place begins, or the line's end
unfoldable pub next_field : List ℕ → ℕ → ℕ
next_field s at =
    pick (ltb (at + length (first_field (drop at s))) (length s)) (at + length (first_field (drop at s)) + 1) (length s)
