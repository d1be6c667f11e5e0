-- Document 01, "Lines and refusals": "decimals without leading zeros, "-" for missing or none". The meaning of a decimal is its exact value,
-- however long it is; what the code hands on is that value up to 65535, which is past every range. Bytes: 48 to 57 are the digits, 45 is the
-- minus sign. Assumes nothing.
use Rattle.std.specs.Prelude.{ℕ, ◌+◌, ◌-◌, ◌*◌, min, Bool, true, false, Option, None, Some, List, [], ◌∷◌, eqb, leb, ltb, length, get_or, drop}
use Rattle.laws.specs.Pick.{pick, both}
use Rattle.text.specs.declared.Number.{Number}
use Rattle.text.specs.declared.Number.TheVariants as number

unfoldable pub is_digit : ℕ → Bool
is_digit b = both (leb 48 b) (leb b 57)

unfoldable pub all_digits : List ℕ → Bool
all_digits [] = true
all_digits (b ∷ s) = both (is_digit b) (all_digits s)

-- the number that digits spell, behind digits that spell v
unfoldable pub value_of : ℕ → List ℕ → ℕ
value_of v [] = v
value_of v (b ∷ s) = value_of (v * 10 + (b - 48)) s

-- digits and their value, or something else
unfoldable pub run_of : List ℕ → Option ℕ
run_of s = pick (all_digits s) (Some (value_of 0 s)) None

abbrev pub as_plus : Option ℕ → Option Number
as_plus None = None
as_plus (Some v) = Some (number.Plus v)

abbrev pub as_minus : Option ℕ → Option Number
as_minus None = None
as_minus (Some v) = Some (number.Minus v)

-- digits, at least one, the first no 0 unless it stands alone
unfoldable pub plus_of : List ℕ → Option Number
plus_of s = pick (eqb (length s) 0) None (pick (both (ltb 1 (length s)) (eqb (get_or s 0 0) 48)) None (as_plus (run_of s)))

-- behind a minus sign: nothing, which is "-" alone; or digits of which the first is no 0, so "-0" is wrong spelling
unfoldable pub minus_of : List ℕ → Option Number
minus_of s = pick (eqb (length s) 0) (Some number.Dash) (pick (eqb (get_or s 0 0) 48) None (as_minus (run_of s)))

-- a decimal field, None where it is spelled wrong; an empty one is wrong spelling
unfoldable pub decimal_of : List ℕ → Option Number
decimal_of s = pick (eqb (length s) 0) None (pick (eqb (get_or s 0 0) 45) (minus_of (drop 1 s)) (plus_of s))

-- spelled right
unfoldable pub is_spelt : Option Number → Bool
is_spelt None = false
is_spelt (Some n) = true

-- ---- what the code hands on

abbrev pub top : ℕ
top = 65535

unfoldable pub saturated : Option Number → Option Number
saturated None = None
saturated (Some number.Dash) = Some number.Dash
saturated (Some (number.Plus v)) = Some (number.Plus (min v top))
saturated (Some (number.Minus v)) = Some (number.Minus (min v top))

unfoldable pub saturated_run : Option ℕ → Option ℕ
saturated_run None = None
saturated_run (Some v) = Some (min v top)

unfoldable pub one_more : ℕ → ℕ → ℕ
one_more v b = min (v * 10 + (b - 48)) top
