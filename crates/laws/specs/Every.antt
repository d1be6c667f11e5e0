-- A test that each of the numbers below n passes, and how a loop finds out. Assumes nothing.
use Rattle.std.specs.Prelude.{ℕ, zero, suc, ◌+◌, ◌<◌, ◌≡◌, refl, Bool, true, false}
use Rattle.std.proofs.Common.{ap, sym, ◌∙◌, add-one, arith}
use Rattle.std.proofs.Math.Decide.{dec_lt}
use Rattle.laws.specs.Pick.{both}
use Rattle.laws.specs.Both.{both_false, both_left, both_right}

-- p holds of 0 to n - 1
unfoldable pub every : ℕ → (ℕ → Bool) → Bool
every zero p = true
every (suc n) p = both (every n p) (p n)

-- ---- the loop: none tried; one more that passes; one that fails

pub every_none : (p : ℕ → Bool) → every 0 p ≡ true
unfolding every
every_none p = refl

pub every_more : (p : ℕ → Bool) (k : ℕ) → every k p ≡ true → p k ≡ true → every (k + 1) p ≡ true
unfolding every
every_more p k e h = rw (add-one, every, e, h)

pub every_stop : (p : ℕ → Bool) (k n : ℕ) → k < n → p k ≡ false → every n p ≡ false
unfolding every
every_stop p k zero l h = absurd (omega arith)
every_stop p k (suc n) l h = go (dec_lt k n) (λ m. every_stop p k n m h)
  where
    go : Dec (k < n) → (k < n → every n p ≡ false) → both (every n p) (p n) ≡ false
    go (yes m) ih = rw (ih m)
    go (no m) ih = let e : k ≡ n = omega arith in rw (ap p (sym e) ∙ h, both_false)

-- ---- what it says

pub every_at : (p : ℕ → Bool) (n k : ℕ) → every n p ≡ true → k < n → p k ≡ true
unfolding every
every_at p zero k e l = absurd (omega arith)
every_at p (suc n) k e l = go (dec_lt k n) (λ m. every_at p n k (both_left (every n p) (p n) e) m)
  where
    go : Dec (k < n) → (k < n → p k ≡ true) → p k ≡ true
    go (yes m) ih = ih m
    go (no m) ih = let q : k ≡ n = omega arith in ap p q ∙ both_right (every n p) (p n) e

-- tests that agree below n
pub every_same : (p q : ℕ → Bool) (n : ℕ) → ((k : ℕ) → k < n → p k ≡ q k) → every n p ≡ every n q
unfolding every
every_same p q zero f = refl
every_same p q (suc n) f = rw (every_same p q n (λ k l. f k (omega arith)), f n (omega arith))

-- a test that passes below n
pub every_of : (p : ℕ → Bool) (n : ℕ) → ((k : ℕ) → k < n → p k ≡ true) → every n p ≡ true
unfolding every
every_of p zero f = refl
every_of p (suc n) f = rw (every_of p n (λ k l. f k (omega arith)), f n (omega arith))
