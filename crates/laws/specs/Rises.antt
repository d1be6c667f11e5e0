-- Numbers that never fall, one after the other. Assumes nothing.
use Rattle.std.proofs.Common.{⊎_elim, subst, sym, eq-or-lt_of_le, le_of_suc-le-suc, arith}
use Rattle.std.specs.Prelude.{ℕ, zero, suc, ◌≤◌, ◌<◌}

-- f does not fall from one number to the next below n, so it does not from i to j
pub rises_far : (f : ℕ → ℕ) (n : ℕ) → ((k : ℕ) → k < n → f k ≤ f (suc k)) → (i j : ℕ) → i ≤ j → j ≤ n → f i ≤ f j
rises_far f n r zero zero p q = omega arith
rises_far f n r (suc i) zero p q = omega arith
rises_far f n r i (suc j) p q =
    ⊎_elim (λ e. subst (λ (k : ℕ). f k ≤ f (suc j)) (sym e) (omega arith))
    (λ l. omega (arith, rises_far f n r i j (le_of_suc-le-suc l) (omega arith), r j (omega arith)))
    (eq-or-lt_of_le p)
