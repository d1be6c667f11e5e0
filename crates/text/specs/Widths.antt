-- How many bytes stand before the first that is a given one: a line feed ends a line, a tab a field. Assumes nothing.
use Rattle.std.specs.Prelude.{◌≡◌, refl, List, [], ◌∷◌, ℕ, ◌+◌, ◌≤◌, ◌<◌, eqb, length, get_or, drop}
use Rattle.std.proofs.Math.Logic.{by_cases}
use Rattle.std.proofs.Math.Decide.{ℕ_discrete}
use Rattle.std.proofs.Common.{arith}
use borrow.Author.Tests.{eq-eqb, ne_eqb}
use Rattle.laws.specs.Pick.{pick}
use Rattle.laws.specs.Left.{left_some, left_none}
use Rattle.text.specs.Fields.{first_field}

unfoldable pub width_before : ℕ → List ℕ → ℕ
width_before end [] = 0
width_before end (b ∷ s) = pick (eqb b end) 0 (1 + width_before end s)

-- ---- a loop over the bytes: what is left at i

module _ (end : ℕ) (s : List ℕ) (i : ℕ) where
  pub width_left_end : i < length s → get_or s i 0 ≡ end → width_before end (drop i s) ≡ 0
  unfolding width_before
  width_left_end h e = rw (left_some s i h, eq-eqb (get_or s i 0) end e)

  pub width_left_other : i < length s → (get_or s i 0 ≡ end → ⊥) → width_before end (drop i s) ≡ 1 + width_before end (drop (i + 1) s)
  unfolding width_before
  width_left_other h e = rw (left_some s i h, ne_eqb (get_or s i 0) end e)

  pub width_left_none : length s ≤ i → width_before end (drop i s) ≡ 0
  unfolding width_before
  width_left_none h = rw (left_none s i h)

-- ---- a field

-- the first field is what stands before the first tab
pub field_width : (s : List ℕ) → width_before 9 s ≡ length (first_field s)
unfolding width_before first_field
field_width [] = refl
field_width (b ∷ s) =
    by_cases (ℕ_discrete b 9) (λ e. rw (eq-eqb b 9 e)) (λ e. rw (ne_eqb b 9 e, field_width s) (omega arith))
