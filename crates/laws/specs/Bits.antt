-- A mask that stands in a number: `bit_and x mask ≡ mask`. Assumes nothing.
use Rattle.std.specs.Prelude.{◌≡◌, ℕ, ◌/◌}
use Rattle.std.proofs.Common.{sym, arith}
use Rattle.std.proofs.Math.Arith.{bin_ind}
use Rattle.std.specs.Int.Bits.{bit_and, bit_or, and_step, or_step, and_self, and_zero_r}

-- what stands in a number stands, digit for digit, in its half
pub stands_half : (x mask : ℕ) → bit_and x mask ≡ mask → bit_and (x / 2) (mask / 2) ≡ mask / 2
stands_half x mask h = omega (arith, and_step x mask)

-- a mask that is set stands
pub stands_new : (x mask : ℕ) → bit_and (bit_or x mask) mask ≡ mask
stands_new =
    bin_ind (λ (x : ℕ). (mask : ℕ) → bit_and (bit_or x mask) mask ≡ mask) and_self (λ x ih mask.
    let e : bit_or x mask / 2 ≡ bit_or (x / 2) (mask / 2) = omega (arith, or_step x mask) in
    omega (arith, and_step (bit_or x mask) mask, or_step x mask, rw (sym e) at (ih (mask / 2))))

-- a mask that stands stays when another is set
pub stands_stays : (x mask other : ℕ) → bit_and x mask ≡ mask → bit_and (bit_or x other) mask ≡ mask
stands_stays =
    bin_ind (λ (x : ℕ). (mask other : ℕ) → bit_and x mask ≡ mask → bit_and (bit_or x other) mask ≡ mask)
    (λ mask other h. rw (← h) (and_zero_r other)) (λ x ih mask other h.
    let e : bit_or x other / 2 ≡ bit_or (x / 2) (other / 2) = omega (arith, or_step x other) in
    omega (arith, and_step (bit_or x other) mask, and_step x mask, or_step x other, rw (sym e) at (ih (mask / 2) (other / 2) (stands_half x mask h))))
