-- The cases of a decimal field. Assumes nothing.
use Rattle.std.specs.Prelude.{◌≡◌, None, Some, List, ℕ, ◌<◌, ◌≤◌, length, get_or, drop}
use Rattle.std.proofs.Common.{arith}
use borrow.Author.Tests.{lt-ltb, le-ltb, eq-eqb, ne_eqb}
use Rattle.laws.specs.Both.{both_false}
use Rattle.text.specs.declared.Number.TheVariants.{Dash}
use Rattle.text.specs.Number.{run_of, as_plus, as_minus, plus_of, minus_of, decimal_of}

-- ---- without a sign

module _ (s : List ℕ) where
  -- nothing is wrong spelling
  pub plus_none : length s ≡ 0 → plus_of s ≡ None
  unfolding plus_of
  plus_none e = rw (eq-eqb (length s) 0 e)

  -- and so is a 0 that does not stand alone
  pub plus_zero : 1 < length s → get_or s 0 0 ≡ 48 → plus_of s ≡ None
  unfolding plus_of
  plus_zero h e = rw (ne_eqb (length s) 0 (omega arith), lt-ltb 1 (length s) h, eq-eqb (get_or s 0 0) 48 e)

  -- one byte is the number that the run is
  pub plus_one : (length s ≡ 0 → ⊥) → length s ≤ 1 → plus_of s ≡ as_plus (run_of s)
  unfolding plus_of
  plus_one n h = rw (ne_eqb (length s) 0 n, le-ltb 1 (length s) h)

  -- and so are more, where the first is no 0
  pub plus_more : (length s ≡ 0 → ⊥) → (get_or s 0 0 ≡ 48 → ⊥) → plus_of s ≡ as_plus (run_of s)
  unfolding plus_of
  plus_more n e = rw (ne_eqb (length s) 0 n, ne_eqb (get_or s 0 0) 48 e, both_false)

  -- ---- behind a minus sign

  -- nothing is "-"
  pub minus_none : length s ≡ 0 → minus_of s ≡ Some Dash
  unfolding minus_of
  minus_none e = rw (eq-eqb (length s) 0 e)

  -- a first byte 0 is wrong spelling, so "-0" is no number
  pub minus_zero : (length s ≡ 0 → ⊥) → get_or s 0 0 ≡ 48 → minus_of s ≡ None
  unfolding minus_of
  minus_zero n e = rw (ne_eqb (length s) 0 n, eq-eqb (get_or s 0 0) 48 e)

  -- any other is the number that the run is
  pub minus_more : (length s ≡ 0 → ⊥) → (get_or s 0 0 ≡ 48 → ⊥) → minus_of s ≡ as_minus (run_of s)
  unfolding minus_of
  minus_more n e = rw (ne_eqb (length s) 0 n, ne_eqb (get_or s 0 0) 48 e)

  -- ---- a decimal field

  -- an empty field is wrong spelling
  pub decimal_none : length s ≡ 0 → decimal_of s ≡ None
  unfolding decimal_of
  decimal_none e = rw (eq-eqb (length s) 0 e)

  -- a minus sign, and what stands behind it
  pub decimal_minus : (length s ≡ 0 → ⊥) → get_or s 0 0 ≡ 45 → decimal_of s ≡ minus_of (drop 1 s)
  unfolding decimal_of
  decimal_minus n e = rw (ne_eqb (length s) 0 n, eq-eqb (get_or s 0 0) 45 e)

  -- or a number without a sign
  pub decimal_plus : (length s ≡ 0 → ⊥) → (get_or s 0 0 ≡ 45 → ⊥) → decimal_of s ≡ plus_of s
  unfolding decimal_of
  decimal_plus n e = rw (ne_eqb (length s) 0 n, ne_eqb (get_or s 0 0) 45 e)
