-- A number by its binary digits, counted from 0 at the lowest. Assumes nothing.
use Rattle.std.specs.Prelude.{◌≡◌, refl, Bool, true, false, not, ℕ, zero, suc, ◌+◌, ◌-◌, ◌*◌, ◌/◌, ◌%◌, ◌^◌, ◌<◌, min, eqb}
use Rattle.std.proofs.Common.{sym, ap, ◌∙◌, pow-suc, arith, eq-eqb, ne_eqb, eqb-true, pow_pos}
use Rattle.std.proofs.lemmas.Bool.{eqb-false}
use Rattle.std.proofs.Math.Arith.{lt-one, mod-mul}
use Rattle.std.specs.Int.Bits.{bit_and, bit_or, and_step, or_step, or_zero_r}
use Rattle.std.proofs.lemmas.Nat.{and_mask}
use Rattle.std.specs.Int.Count.{ones, ones_step}
use Rattle.laws.specs.Pick.{both}
use Rattle.laws.specs.Count.{one_if, one_one, count_to, count_same, count_first}

-- digit k of x is 1
abbrev pub has_digit : ℕ → ℕ → Bool
has_digit x k = eqb (bit_and x (2 ^ k)) (2 ^ k)

-- the number whose first n digits are 1 where p holds, and whose others are 0
unfoldable pub digits_from : (ℕ → Bool) → ℕ → ℕ
digits_from p zero = 0
digits_from p (suc n) = one_if (p 0) + 2 * digits_from (λ k. p (suc k)) n

-- ---- one digit

-- the lowest
pub low_digit : (x : ℕ) → one_if (has_digit x 0) ≡ x % 2
low_digit x = go (eqb (bit_and x 1) 1) refl
  where
    same : bit_and x 1 ≡ x % 2
    same = and_mask x 1

    go : (t : Bool) → eqb (bit_and x 1) 1 ≡ t → one_if t ≡ x % 2
    go true e = omega (arith, same, eqb-true (bit_and x 1) 1 e)
    go false e = let n = eqb-false (bit_and x 1) 1 e in omega (arith, same)

-- the next ones are those of the half
pub next_digit : (x k : ℕ) → has_digit x (suc k) ≡ has_digit (x / 2) k
next_digit x k = go (eqb (bit_and (x / 2) (2 ^ k)) (2 ^ k)) refl
  where
    twice : bit_and x (2 ^ suc k) ≡ bit_and (x / 2) (2 ^ k) * 2
    twice =
        let half : 2 ^ suc k / 2 ≡ 2 ^ k = omega (arith, pow-suc 2 k) in
        let e : bit_and (x / 2) (2 ^ suc k / 2) ≡ bit_and (x / 2) (2 ^ k) = ap (bit_and (x / 2)) half in
        omega (arith, and_step x (2 ^ suc k), pow-suc 2 k)

    go : (t : Bool) → eqb (bit_and (x / 2) (2 ^ k)) (2 ^ k) ≡ t → eqb (bit_and x (2 ^ suc k)) (2 ^ suc k) ≡ t
    go true e = eq-eqb (bit_and x (2 ^ suc k)) (2 ^ suc k) (omega (arith, twice, pow-suc 2 k, eqb-true (bit_and (x / 2) (2 ^ k)) (2 ^ k) e))
    go false e = ne_eqb (bit_and x (2 ^ suc k)) (2 ^ suc k) (λ q. eqb-false (bit_and (x / 2) (2 ^ k)) (2 ^ k) e (omega (arith, twice, pow-suc 2 k)))

-- ---- all of them

one_digit : (t : Bool) → eqb (one_if t) 1 ≡ t
one_digit true = refl
one_digit false = refl

-- digit k of the number that is made of digits
pub digit_at : (p : ℕ → Bool) (n k : ℕ) → k < n → has_digit (digits_from p n) k ≡ p k
unfolding digits_from
digit_at p zero k l = absurd (omega arith)
digit_at p (suc n) zero l =
    let low : bit_and (one_if (p 0) + 2 * digits_from (λ k. p (suc k)) n) 1 ≡ one_if (p 0) = omega (arith, and_mask (one_if (p 0) + 2 * digits_from (λ k. p (suc k)) n) 1, one_one (p 0)) in
    rw low (one_digit (p 0))
digit_at p (suc n) (suc k) l =
    let half : (one_if (p 0) + 2 * digits_from (λ k. p (suc k)) n) / 2 ≡ digits_from (λ k. p (suc k)) n = omega (arith, one_one (p 0)) in
    next_digit (one_if (p 0) + 2 * digits_from (λ k. p (suc k)) n) k ∙ rw half (digit_at (λ k. p (suc k)) n k (omega arith))

-- of n digits
pub digits_lt : (p : ℕ → Bool) (n : ℕ) → digits_from p n < 2 ^ n
unfolding digits_from
digits_lt p zero = omega arith
digits_lt p (suc n) = omega (arith, one_one (p 0), digits_lt (λ k. p (suc k)) n, pow-suc 2 n)

-- digits that are the same make the same number
pub digits_same : (p q : ℕ → Bool) (n : ℕ) → ((k : ℕ) → k < n → p k ≡ q k) → digits_from p n ≡ digits_from q n
unfolding digits_from
digits_same p q zero f = refl
digits_same p q (suc n) f =
    rw (f 0 (omega arith), digits_same (λ k. p (suc k)) (λ k. q (suc k)) n (λ k l. f (suc k) (omega arith)))

-- a number's own digits make it
pub own_digits : (x n : ℕ) → digits_from (has_digit x) n ≡ x % 2 ^ n
unfolding digits_from
own_digits x zero = omega arith
own_digits x (suc n) =
    rw (low_digit x, digits_same (λ k. has_digit x (suc k)) (has_digit (x / 2)) n (λ k l. next_digit x k), own_digits (x / 2) n)
    (omega (arith, mod-mul x {m = 2 ^ n} {c = 2} (pow_pos n) (omega arith), ap (λ (m : ℕ). x % m) (pow-suc 2 n)))

-- the first n digits of x are those of its remainder by 2 ^ n
pub mod_digit : (x n k : ℕ) → k < n → has_digit (x % 2 ^ n) k ≡ has_digit x k
mod_digit x n k l = rw (← own_digits x n) (digit_at (has_digit x) n k l)

-- what is left of x without y's digits, of n digits: the lowest first
low_without : (a b c : ℕ) → a < 2 → b < 2 → c + b ≡ 1 → eqb (min a c) 1 ≡ both (eqb a 1) (not (eqb b 1))
low_without zero b c l m e = ne_eqb (min 0 c) 1 (omega arith)
low_without (suc zero) zero c l m e = eq-eqb (min 1 c) 1 (omega arith)
low_without (suc zero) (suc zero) c l m e = ne_eqb (min 1 c) 1 (omega arith)
low_without (suc zero) (suc (suc b)) c l m e = absurd (omega arith)
low_without (suc (suc a)) b c l m e = absurd (omega arith)

pub without_digit : (n x y k : ℕ) → y < 2 ^ n → k < n → has_digit (bit_and x (2 ^ n - 1 - y)) k ≡ both (has_digit x k) (not (has_digit y k))
without_digit zero x y k h l = absurd (omega arith)
without_digit (suc n) x y zero h l =
    let rest = 2 ^ suc n - 1 - y in
    let odd : rest % 2 + y % 2 ≡ 1 = omega (arith, pow-suc 2 n) in
    let low : bit_and x rest % 2 ≡ min (x % 2) (rest % 2) = omega (arith, and_step x rest) in
    rw (and_mask (bit_and x rest) 1, and_mask x 1, and_mask y 1, low) (low_without (x % 2) (y % 2) (rest % 2) (omega arith) (omega arith) odd)
without_digit (suc n) x y (suc k) h l =
    let rest = 2 ^ suc n - 1 - y in
    let half : rest / 2 ≡ 2 ^ n - 1 - y / 2 = omega (arith, pow-suc 2 n) in
    let upper : bit_and x rest / 2 ≡ bit_and (x / 2) (rest / 2) = omega (arith, and_step x rest) in
    rw (next_digit (bit_and x rest) k, next_digit x k, next_digit y k, upper, half) (without_digit n (x / 2) (y / 2) k (omega (arith, pow-suc 2 n)) (omega arith))

-- a part of a number has no digit that it has not
pub part_digit : (x y k : ℕ) → has_digit (bit_and x y) k ≡ true → has_digit x k ≡ true
part_digit x y zero e =
    eq-eqb (bit_and x 1) 1 (omega (arith, and_mask x 1, and_mask (bit_and x y) 1, and_step x y, eqb-true (bit_and (bit_and x y) 1) 1 e))
part_digit x y (suc k) e =
    let upper : bit_and x y / 2 ≡ bit_and (x / 2) (y / 2) = omega (arith, and_step x y) in
    next_digit x k ∙ part_digit (x / 2) (y / 2) k (rw (next_digit (bit_and x y) k, upper) at e)

-- a digit that is set is no other
pub or_other : (x j k : ℕ) → (j ≡ k → ⊥) → has_digit (bit_or x (2 ^ j)) k ≡ has_digit x k
or_other x zero zero n = absurd (n refl)
or_other x (suc j) zero n =
    let low : bit_or x (2 ^ suc j) % 2 ≡ x % 2 = omega (arith, or_step x (2 ^ suc j), pow-suc 2 j) in
    rw (and_mask (bit_or x (2 ^ suc j)) 1, and_mask x 1, low)
or_other x zero (suc k) n =
    let upper : bit_or x 1 / 2 ≡ x / 2 = omega (arith, or_step x 1, or_zero_r (x / 2)) in
    next_digit (bit_or x 1) k ∙ rw upper (sym (next_digit x k))
or_other x (suc j) (suc k) n =
    let half : 2 ^ suc j / 2 ≡ 2 ^ j = omega (arith, pow-suc 2 j) in
    let e : bit_or (x / 2) (2 ^ suc j / 2) ≡ bit_or (x / 2) (2 ^ j) = ap (bit_or (x / 2)) half in
    let upper : bit_or x (2 ^ suc j) / 2 ≡ bit_or (x / 2) (2 ^ j) = omega (arith, or_step x (2 ^ suc j)) in
    next_digit (bit_or x (2 ^ suc j)) k ∙ rw upper (or_other (x / 2) j k (λ q. n (ap suc q))) ∙ sym (next_digit x k)

-- ---- how many are 1

zero_ones : ones 0 ≡ 0
unfolding ones
zero_ones = refl

-- the machine's count of a number below 2 ^ n
pub ones_count : (n x : ℕ) → x < 2 ^ n → ones x ≡ count_to (has_digit x) n
unfolding count_to
ones_count zero x h = ap ones (lt-one h) ∙ zero_ones
ones_count (suc n) x h =
    let rest = count_same (has_digit (x / 2)) (λ k. has_digit x (suc k)) n (λ k l. sym (next_digit x k)) in
    omega (arith, ones_step x, low_digit x, ones_count n (x / 2) (omega (arith, pow-suc 2 n)), count_first (has_digit x) n, rest)
