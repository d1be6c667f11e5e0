-- A line's letter and its pair, as the code walks to them. Assumes nothing.
use Rattle.std.specs.Prelude.{◌≡◌, refl, Option, None, List, [], ◌∷◌, ℕ, ◌+◌, ◌-◌, ◌<◌, eqb, length, get_or, take}
use Rattle.std.proofs.Common.{arith}
use Rattle.std.proofs.Math.ListN.{drop}
use Rattle.laws.specs.Pick.{pick}
use Rattle.laws.specs.Left.{left_part}
use Rattle.text.specs.declared.Number.{Number}
use Rattle.text.specs.Fields.{first_field, fields_of, field_at}
use Rattle.text.specs.Number.{decimal_of}
use Rattle.text.specs.Walk.{first_within, fields_more, fields_one}
use Rattle.parse.specs.Parse.{letter_of, number_at, both_of, pair_of}
use Rattle.parse.specs.Tabbed.{tabbed_wrong}

-- the letter by a line's first two bytes
pub letter_walked : (s : List ℕ) → letter_of s ≡ pick (eqb (length s) 0) 0 (pick (eqb (get_or s 0 0) 9) 0 (pick (eqb (length s) 1) (get_or s 0 0) (pick (eqb (get_or s 1 0) 9) (get_or s 0 0) 0)))
unfolding letter_of field_at fields_of first_field
letter_walked [] = refl
letter_walked (b ∷ []) = grind arith
letter_walked (b ∷ c ∷ s) = grind arith

-- r is what stands behind the first tab of s
pub record Behind (s r : List ℕ) : Type 0 where
  pub more : length (first_field s) < length s
  pub rest : r ≡ drop (length (first_field s) + 1) s

-- as the code takes it: w is the width of the first field
pub behind : (s : List ℕ) (w : ℕ) → w ≡ length (first_field s) → w < length s → Behind s (take (length s - (w + 1)) (drop (w + 1) s))
behind s w e h = record { more = omega arith; rest = grind (arith, left_part) }

fields_behind : {s r : List ℕ} → Behind s r → fields_of s ≡ first_field s ∷ fields_of r
fields_behind {s = s} b = rw b.rest (fields_more s b.more)

-- no pair without a value
both_none : (i : Option Number) → both_of i None ≡ None
both_none i = grind arith

fields_some : (s : List ℕ) → 0 < length (fields_of s)
unfolding fields_of
fields_some s = omega arith

-- ---- a pair, by how many fields the walk finds

pub pair_one : (s : List ℕ) → length (first_field s) ≡ length s → pair_of s ≡ None
unfolding pair_of
pair_one s h = grind (arith, fields_one)

module _ {s r : List ℕ} (b : Behind s r) where
  pub pair_two : length (first_field r) ≡ length r → pair_of s ≡ None
  unfolding pair_of
  pair_two h = grind (arith, fields_behind b, fields_one)

  module _ {t : List ℕ} (d : Behind r t) where
    pair_three : length (first_field t) ≡ length t → pair_of s ≡ both_of (decimal_of (first_field r)) (decimal_of t)
    unfolding pair_of number_at field_at
    pair_three h = grind (arith, fields_behind b, fields_behind d, fields_one)

    pair_more : length (first_field t) < length t → pair_of s ≡ both_of (decimal_of (first_field r)) (decimal_of t)
    unfolding pair_of
    pair_more h = grind (arith, fields_behind b, fields_behind d, fields_more, tabbed_wrong, both_none, fields_some)

    -- two fields or more behind the letter: what stands behind the first of them is the second, or is spelled wrong
    pub pair_rest : pair_of s ≡ both_of (decimal_of (first_field r)) (decimal_of t)
    pair_rest = grind (arith, pair_more, pair_three, first_within)
