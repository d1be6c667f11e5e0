-- What stands in a list after a store. Assumes nothing.
use Rattle.std.specs.Prelude.{◌≡◌, refl, List, [], ◌∷◌, ℕ, zero, suc, length, get_or, set}
use Rattle.std.proofs.Common.{ap, arith}

-- what stood there, or, at the store's own place, what was stored
pub set_cases : {A : Type 0} (P : A → Type 0) (l : List A) (i j : ℕ) (a d : A) → P (get_or l j d) → (i ≡ j → P a) → P (get_or (set l i a) j d)
set_cases P [] i j a d old new = old
set_cases P (x ∷ l) zero zero a d old new = new refl
set_cases P (x ∷ l) zero (suc j) a d old new = old
set_cases P (x ∷ l) (suc i) zero a d old new = old
set_cases P (x ∷ l) (suc i) (suc j) a d old new = set_cases P l i j a d old (λ e. new (ap suc e))

-- of two lists as long, what is related at each place stays so when related values are stored at one place of both
pub set_related : {A : Type 0} (R : A → A → Type 0) (l m : List A) (i j : ℕ) (a b d : A) → length l ≡ length m → R (get_or l j d) (get_or m j d) → R a b → R (get_or (set l i a) j d) (get_or (set m i b) j d)
set_related R [] [] i j a b d e old new = old
set_related R [] (y ∷ m) i j a b d e old new = absurd (omega arith)
set_related R (x ∷ l) [] i j a b d e old new = absurd (omega arith)
set_related R (x ∷ l) (y ∷ m) zero zero a b d e old new = new
set_related R (x ∷ l) (y ∷ m) zero (suc j) a b d e old new = old
set_related R (x ∷ l) (y ∷ m) (suc i) zero a b d e old new = old
set_related R (x ∷ l) (y ∷ m) (suc i) (suc j) a b d e old new = set_related R l m i j a b d (omega arith) old new
