-- A test that each element of a list passes. Assumes nothing.
use Rattle.std.specs.Prelude.{◌≡◌, Bool, true, List, ℕ, ◌<◌, length, get_or}
use Rattle.std.proofs.Common.{ap, ◌∙◌, arith}
use Rattle.std.proofs.Math.Decide.{dec_lt}
use Rattle.std.proofs.Math.ListN.{get_or-eq_default}
use Rattle.laws.specs.Every.{every, every_at}

-- p holds of every element; d stands for a place past the end
unfoldable pub all_pass : {A : Type 0} → (A → Bool) → A → List A → Bool
all_pass p d xs = every (length xs) (λ k. p (get_or xs k d))

-- so p holds at every place, if it holds of d
pub pass_at : {A : Type 0} (p : A → Bool) (d : A) (xs : List A) → all_pass p d xs ≡ true → p d ≡ true → (k : ℕ) → p (get_or xs k d) ≡ true
unfolding all_pass
pass_at p d xs e h k = go (dec_lt k (length xs))
  where
    go : Dec (k < length xs) → p (get_or xs k d) ≡ true
    go (yes l) = every_at (λ j. p (get_or xs j d)) (length xs) k e l
    go (no n) = ap p (get_or-eq_default xs d (omega arith)) ∙ h
