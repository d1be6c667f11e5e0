-- What holds of the parts holds of the whole: of a choice by a test, and of a list, element by element. Assumes nothing.
use Rattle.std.specs.Prelude.{◌≡◌, refl, Bool, true, false, List, [], ◌∷◌, ℕ, zero, suc, ◌≤◌, ◌<◌, T, get_or, replicate}
use Rattle.std.proofs.Common.{not-suc-le-zero, le_of_suc-le-suc, arith}
use Rattle.laws.specs.Pick.{pick}

-- the list f 0, f 1, .. of n values; with n a numeral it computes to the list written out
abbrev pub firsts : {A : Type 0} → (ℕ → A) → ℕ → List A
firsts f zero = []
firsts f (suc n) = f 0 ∷ firsts (λ k. f (suc k)) n

-- element k is f k
pub firsts_at : {A : Type 0} (f : ℕ → A) (n k : ℕ) (d : A) → k < n → get_or (firsts f n) k d ≡ f k
firsts_at f zero k d l = absurd (not-suc-le-zero l)
firsts_at f (suc n) zero d l = refl
firsts_at f (suc n) (suc k) d l = firsts_at (λ k. f (suc k)) n k d (le_of_suc-le-suc l)

-- a choice of the same either way
pub pick_same : {A : Type 0} (t : Bool) (a : A) → pick t a a ≡ a
pick_same true a = refl
pick_same false a = refl

-- ---- a relation

module _ {A : Type 0} (R : A → A → Type 0) where
  -- two choices by the same test are related where their arms are
  pub pick_related : (t : Bool) {a b x y : A} → R a x → R b y → R (pick t a b) (pick t x y)
  pick_related true p q = p
  pick_related false p q = q

  -- two lists are related at each place where their functions are, and past the end where the default is to itself
  pub firsts_related : (f g : ℕ → A) (n : ℕ) {d : A} → ((k : ℕ) → R (f k) (g k)) → R d d → (i : ℕ) → R (get_or (firsts f n) i d) (get_or (firsts g n) i d)
  firsts_related f g zero h z i = z
  firsts_related f g (suc n) h z zero = h 0
  firsts_related f g (suc n) h z (suc i) = firsts_related (λ k. f (suc k)) (λ k. g (suc k)) n (λ k. h (suc k)) z i

-- ---- a property

module _ {A : Type 0} (P : A → Type 0) where
  -- a choice has what both arms have
  pub pick_each : (t : Bool) {a b : A} → P a → P b → P (pick t a b)
  pick_each true p q = p
  pick_each false p q = q

  -- a list has at each place what its function and the default have
  pub firsts_each : (f : ℕ → A) (n : ℕ) {d : A} → ((k : ℕ) → P (f k)) → P d → (i : ℕ) → P (get_or (firsts f n) i d)
  firsts_each f = firsts_related (λ (x y : A). P x) f f

  -- a list of one value has at each place what the value and the default have
  pub replicate_each : (n : ℕ) (a : A) {d : A} → P a → P d → (i : ℕ) → P (get_or (replicate n a) i d)
  replicate_each zero a p z i = z
  replicate_each (suc n) a p z zero = p
  replicate_each (suc n) a p z (suc i) = replicate_each n a p z i

-- ---- the test

-- a test that implies another chooses no more, where the first arm is no less than the second
pub pick_rises : (v w : Bool) {low high : ℕ} → (T v → T w) → low ≤ high → pick v high low ≤ pick w high low
pick_rises true true f h = omega arith
pick_rises true false f h = absurd (f tt)
pick_rises false true f h = h
pick_rises false false f h = omega arith
