-- What a mask shows of a number, and what stays of it under a complement. Assumes nothing.
use Rattle.std.specs.Prelude.{◌≡◌, refl, ℕ, zero, suc, ◌+◌, ◌-◌, ◌*◌, ◌/◌, ◌%◌, ◌^◌, ◌<◌, min}
use Rattle.std.proofs.Common.{sym, ap, ◌∙◌, pow-suc, div-add-mod', arith}
use Rattle.std.proofs.Math.Arith.{bin_ind}
use Rattle.std.specs.Int.Bits.{bit_and, and_step, and_zero_r}

-- the upper digits, the lowest, and both
and_half : (x y : ℕ) → bit_and x y / 2 ≡ bit_and (x / 2) (y / 2)
and_half x y = omega (arith, and_step x y)

and_low : (x y : ℕ) → bit_and x y % 2 ≡ min (x % 2) (y % 2)
and_low x y = omega (arith, and_step x y)

and_digits : (x y z : ℕ) → bit_and (x / 2) (y / 2) ≡ z / 2 → min (x % 2) (y % 2) ≡ z % 2 → bit_and x y ≡ z
and_digits x y z p q = and_step x y ∙ rw (p, q) (div-add-mod' z 2)

-- a mask of one bit shows it, or nothing
pub one_bit : (x k : ℕ) → (bit_and x (2 ^ k) ≡ 2 ^ k → ⊥) → bit_and x (2 ^ k) ≡ 0
one_bit x zero h = omega (arith, and_step x 1, and_zero_r (x / 2))
one_bit x (suc k) h =
    let half : 2 ^ suc k / 2 ≡ 2 ^ k = omega (arith, pow-suc 2 k) in
    let e : bit_and (x / 2) (2 ^ suc k / 2) ≡ bit_and (x / 2) (2 ^ k) = ap (bit_and (x / 2)) half in
    let rest : bit_and (x / 2) (2 ^ k) ≡ 0 = one_bit (x / 2) k (λ f. h (omega (arith, and_step x (2 ^ suc k), pow-suc 2 k))) in
    omega (arith, and_step x (2 ^ suc k), pow-suc 2 k)

-- a mask that shows nothing of a number shows nothing of a part of it
pub none_part : (x y mask : ℕ) → bit_and x mask ≡ 0 → bit_and (bit_and x y) mask ≡ 0
none_part =
    bin_ind (λ (x : ℕ). (y mask : ℕ) → bit_and x mask ≡ 0 → bit_and (bit_and x y) mask ≡ 0) (λ y mask h. refl) (λ x ih y mask h.
    let upper : bit_and (x / 2) (mask / 2) ≡ 0 = sym (and_half x mask) ∙ ap (λ (t : ℕ). t / 2) h in
    and_digits (bit_and x y) mask 0 (rw (and_half x y) (ih (y / 2) (mask / 2) upper)) (omega (arith, and_low x y, and_low x mask)))

-- the lowest digit of the next law: k is the complement of o
low_stands : (x k o m : ℕ) → m < 2 → k + o ≡ 1 → min x m ≡ m → min o m ≡ 0 → min (min x k) m ≡ m
low_stands x k o m l e h z = omega arith

-- what stands in a number stays where none of it is taken away, of n bits
pub stands_without : (n x mask off : ℕ) → mask < 2 ^ n → off < 2 ^ n → bit_and x mask ≡ mask → bit_and off mask ≡ 0 → bit_and (bit_and x (2 ^ n - 1 - off)) mask ≡ mask
stands_without zero x mask off m o h z =
    let none : mask ≡ 0 = omega arith in
    rw none (and_zero_r (bit_and x (1 - 1 - off)))
stands_without (suc n) x mask off m o h z =
    let p : 2 ^ suc n ≡ 2 ^ n * 2 = pow-suc 2 n in
    let keep = 2 ^ suc n - 1 - off in
    let half : keep / 2 ≡ 2 ^ n - 1 - off / 2 = omega arith in
    let stands : bit_and (x / 2) (mask / 2) ≡ mask / 2 = sym (and_half x mask) ∙ ap (λ (t : ℕ). t / 2) h in
    let none : bit_and (off / 2) (mask / 2) ≡ 0 = sym (and_half off mask) ∙ ap (λ (t : ℕ). t / 2) z in
    and_digits (bit_and x keep) mask mask
    (rw (and_half x keep, half) (stands_without n (x / 2) (mask / 2) (off / 2) (omega arith) (omega arith) stands none))
    (rw (and_low x keep)
    (low_stands (x % 2) (keep % 2) (off % 2) (mask % 2) (omega arith) (omega arith) (sym (and_low x mask) ∙ ap (λ (t : ℕ). t % 2) h) (sym (and_low off mask) ∙ ap (λ (t : ℕ). t % 2) z)))
