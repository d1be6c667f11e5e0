-- Tables whose elements are the same are the same. Assumes nothing.
use Rattle.std.specs.Prelude.{◌≡◌, refl, List, ◌∷◌, ℕ, zero, suc, ◌<◌}
use Rattle.std.proofs.Common.{ap₂, arith}
use Rattle.laws.specs.Tab.{tab}

pub tab_same : {A : Type 0} (f g : ℕ → A) (n : ℕ) → ((k : ℕ) → k < n → f k ≡ g k) → tab f n ≡ tab g n
unfolding tab
tab_same f g zero h = refl
tab_same {A} f g (suc n) h =
    ap₂ (λ (a : A) (t : List A). a ∷ t) (h 0 (omega arith)) (tab_same (λ k. f (suc k)) (λ k. g (suc k)) n (λ k l. h (suc k) (omega arith)))
