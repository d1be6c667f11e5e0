-- A rule of a table, proved at all of its entries by one test that is computed over the table, entry after entry.
-- Assumes nothing.
use Rattle.std.proofs.Common.{◌∙◌, subst, sym, add-zero, zero-add, add-suc, suc-add, le_of_suc-le-suc, not-suc-le-zero}
use Rattle.std.specs.Prelude.{Bool, true, false, List, [], ◌∷◌, ℕ, zero, suc, ◌+◌, ◌<◌, T, length, get_or}
use Rattle.laws.specs.Pick.{both}

both_left : (a b : Bool) → T (both a b) → T a
both_left true b t = tt
both_left false b t = t

both_right : (a b : Bool) → T (both a b) → T b
both_right true b t = t
both_right false b t = absurd t

-- the test f passes at each entry of the list and its place, counted from i
abbrev pub passes : (ℕ → ℕ → Bool) → ℕ → List ℕ → Bool
passes f i [] = true
passes f i (x ∷ xs) = both (f i x) (passes f (suc i) xs)

from : (f : ℕ → ℕ → Bool) (xs : List ℕ) (i : ℕ) → T (passes f i xs) → (k : ℕ) → k < length xs → T (f (i + k) (get_or xs k 0))
from f [] i t k h = absurd (not-suc-le-zero h)
from f (x ∷ xs) i t zero h =
    subst (λ (m : ℕ). T (f m x)) (sym (add-zero i)) (both_left (f i x) (passes f (suc i) xs) t)
from f (x ∷ xs) i t (suc k) h =
    subst (λ (m : ℕ). T (f m (get_or xs k 0))) (suc-add i k ∙ sym (add-suc i k))
    (from f xs (suc i) (both_right (f i x) (passes f (suc i) xs) t) k (le_of_suc-le-suc h))

-- what the test computes over the whole table holds at each entry
pub entry : (f : ℕ → ℕ → Bool) (xs : List ℕ) → T (passes f 0 xs) → (k : ℕ) → k < length xs → T (f k (get_or xs k 0))
entry f xs t k h = subst (λ (m : ℕ). T (f m (get_or xs k 0))) (zero-add k) (from f xs 0 t k h)
