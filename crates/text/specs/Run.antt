-- A run of digits, read byte after byte, and its value up to 65535. Assumes nothing.
use Rattle.std.specs.Prelude.{◌≡◌, refl, true, false, Option, None, Some, List, [], ◌∷◌, ℕ, ◌+◌, ◌-◌, ◌*◌, ◌≤◌, ◌<◌, min, length, get_or, drop}
use Rattle.std.proofs.Math.Logic.{by_cases}
use Rattle.std.proofs.Math.Decide.{dec_le}
use Rattle.std.proofs.Common.{arith, le-leb}
use Rattle.std.proofs.lemmas.Bool.{lt-leb}
use Rattle.laws.specs.Left.{left_some, left_none}
use Rattle.text.specs.Number.{is_digit, all_digits, value_of, run_of, as_plus, as_minus, saturated, saturated_run, top}

-- ---- one byte

-- below 48 is no digit
pub digit_low : (b : ℕ) → b < 48 → is_digit b ≡ false
unfolding is_digit
digit_low b h = rw (lt-leb 48 b h)

-- above 57 is none
pub digit_high : (b : ℕ) → 57 < b → is_digit b ≡ false
unfolding is_digit
digit_high b h = rw (le-leb 48 b (omega arith), lt-leb b 57 h)

-- from 48 to 57 is one
pub digit_is : (b : ℕ) → 48 ≤ b → b ≤ 57 → is_digit b ≡ true
unfolding is_digit
digit_is b l m = rw (le-leb 48 b l, le-leb b 57 m)

-- ---- a loop over the bytes: what is left at i

module _ (s : List ℕ) (i : ℕ) (h : i < length s) where
  -- at a byte that is no digit, not all that is left are digits
  pub digits_left_other : is_digit (get_or s i 0) ≡ false → all_digits (drop i s) ≡ false
  unfolding all_digits
  digits_left_other e = rw (left_some s i h, e)

  -- at a digit all are, where all behind it are
  pub digits_left_digit : is_digit (get_or s i 0) ≡ true → all_digits (drop i s) ≡ all_digits (drop (i + 1) s)
  unfolding all_digits
  digits_left_digit e = rw (left_some s i h, e)

  -- and it stands behind the digits that spell v
  pub value_left_digit : (v : ℕ) → value_of v (drop i s) ≡ value_of (v * 10 + (get_or s i 0 - 48)) (drop (i + 1) s)
  unfolding value_of
  value_left_digit v = rw (left_some s i h)

module _ (s : List ℕ) (i : ℕ) (h : length s ≤ i) where
  -- at the end no byte is left that is no digit
  pub digits_left_none : all_digits (drop i s) ≡ true
  unfolding all_digits
  digits_left_none = rw (left_none s i h)

  -- and v is the value
  pub value_left_none : (v : ℕ) → value_of v (drop i s) ≡ v
  unfolding value_of
  value_left_none v = rw (left_none s i h)

-- ---- up to 65535

-- more digits make no number smaller
value_grows : (v : ℕ) (s : List ℕ) → v ≤ value_of v s
unfolding value_of
value_grows v [] = omega arith
value_grows v (b ∷ s) = omega (arith, value_grows (v * 10 + (b - 48)) s)

-- a number can be held to 65535 on the way
pub value_top : (v : ℕ) (s : List ℕ) → min (value_of (min v top) s) top ≡ min (value_of v s) top
value_top v s =
    by_cases (dec_le v top)
    (λ h. let e : min v top ≡ v = omega arith in rw e)
    (λ h. omega (arith, value_grows v s, value_grows (min v top) s))

-- ---- what the code hands on

-- digits are handed on as their value up to 65535
pub run_digits : (s : List ℕ) → all_digits s ≡ true → saturated_run (run_of s) ≡ Some (min (value_of 0 s) top)
unfolding run_of saturated_run
run_digits s e = rw e

-- anything else as None
pub run_other : (s : List ℕ) → all_digits s ≡ false → saturated_run (run_of s) ≡ None
unfolding run_of saturated_run
run_other s e = rw e

-- a run can be held to 65535 before or after it becomes a number
pub as_plus_lem : (r : Option ℕ) → as_plus (saturated_run r) ≡ saturated (as_plus r)
unfolding saturated saturated_run
as_plus_lem None = refl
as_plus_lem (Some v) = refl

-- and so behind a minus sign
pub as_minus_lem : (r : Option ℕ) → as_minus (saturated_run r) ≡ saturated (as_minus r)
unfolding saturated saturated_run
as_minus_lem None = refl
as_minus_lem (Some v) = refl
