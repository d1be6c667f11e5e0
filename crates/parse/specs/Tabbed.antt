-- A decimal with a tab in it is spelled wrong, so the last field need not be looked through for one. Assumes nothing.
use Rattle.std.specs.Prelude.{◌≡◌, false, None, List, [], ◌∷◌, ℕ, ◌<◌, length}
use Rattle.std.proofs.Common.{arith}
use Rattle.text.specs.Fields.{first_field}
use Rattle.text.specs.Number.{is_digit, all_digits, run_of, plus_of, minus_of, decimal_of}

-- a tab is no digit
no_digits : (s : List ℕ) → length (first_field s) < length s → all_digits s ≡ false
unfolding first_field all_digits is_digit
no_digits [] h = grind arith
no_digits (b ∷ s) h = grind (arith, no_digits s)

-- behind a minus sign
minus_wrong : (s : List ℕ) → length (first_field s) < length s → minus_of s ≡ None
unfolding minus_of run_of
minus_wrong s h = grind (arith, no_digits)

plus_wrong : (s : List ℕ) → length (first_field s) < length s → plus_of s ≡ None
unfolding plus_of run_of
plus_wrong s h = grind (arith, no_digits)

pub tabbed_wrong : (s : List ℕ) → length (first_field s) < length s → decimal_of s ≡ None
unfolding decimal_of first_field
tabbed_wrong s h = grind (arith, minus_wrong, plus_wrong)
