-- Degrees in sixteenths, with half a degree more or not, and a count of sixteenths rounded down to degrees. Assumes nothing.
use Rattle.std.specs.Prelude.{◌≡◌, refl, Bool, true, false, ℕ, suc, ◌+◌, ◌-◌, ◌*◌, ◌/◌, ◌%◌, ◌≤◌, ◌<◌, T, ltb, ℤ, pos, negsuc, neg_ℤ, ◌+ℤ◌, ◌-ℤ◌, ◌*ℤ◌}
use Rattle.std.proofs.Common.{ap, arith, lt-ltb, eq-eqb, ne_eqb, leb→le, le→leb}
use Rattle.std.proofs.Math.IntN.{+ℤ_idr}
use Rattle.std.specs.Int.Signed.{mag, le_z, shr_z}
use Rattle.laws.specs.Magnitude.{mag_minus}
use Rattle.laws.specs.Pick.{pick}
use Rattle.temperature.specs.Temperature.{HALF, DEGREE, is_odd, degrees_of, sixteenths_of}

-- half a degree, or none
abbrev pub half_of : Bool → ℕ
half_of half = pick half HALF 0

-- degrees, and halves, below 0
degrees_neg : (n : ℕ) → negsuc n *ℤ pos DEGREE ≡ negsuc (n * DEGREE + (DEGREE - 1))
degrees_neg n = ap (λ (m : ℕ). neg_ℤ (pos m)) {x = suc n * DEGREE} {y = suc (n * DEGREE + (DEGREE - 1))} (omega arith)

pub halves_neg : (n : ℕ) → negsuc n *ℤ pos HALF ≡ negsuc (n * HALF + (HALF - 1))
halves_neg n = ap (λ (m : ℕ). neg_ℤ (pos m)) {x = suc n * HALF} {y = suc (n * HALF + (HALF - 1))} (omega arith)

-- degrees and half a degree, below 0
pub part_neg : (n : ℕ) (half : Bool) → negsuc n *ℤ pos DEGREE +ℤ pos (half_of half) ≡ negsuc (n * DEGREE + (DEGREE - 1) - half_of half)
part_neg n true = rw (degrees_neg, lt-ltb HALF (suc (n * DEGREE + (DEGREE - 1))) (omega arith)) (ap negsuc (omega arith))
part_neg n false = rw (degrees_neg, lt-ltb 0 (suc (n * DEGREE + (DEGREE - 1))) (omega arith)) (ap negsuc (omega arith))

-- ---- how large they are

pub part_mag : (z : ℤ) (half : Bool) → mag (z *ℤ pos DEGREE +ℤ pos (half_of half)) ≤ mag z * DEGREE + (DEGREE - 1)
part_mag (pos n) true = omega arith
part_mag (pos n) false = omega arith
part_mag (negsuc n) half = rw part_neg (omega arith)

pub degrees_mag : (z : ℤ) → mag (z *ℤ pos DEGREE) ≤ mag z * DEGREE + (DEGREE - 1)
degrees_mag z = rw (+ℤ_idr (z *ℤ pos DEGREE)) at (part_mag z false)

-- a byte's degrees
pub byte_mag : (byte : ℕ) → byte < 256 → mag (sixteenths_of byte) < 16384
unfolding degrees_of
byte_mag byte b = go (ltb byte 0x80)
  where
    go : (t : Bool) → mag (pick t (pos byte) (pos byte -ℤ pos 256) *ℤ pos DEGREE) < 16384
    go true = omega (arith, degrees_mag (pos byte))
    go false = omega (arith, mag_minus (pos byte) 256, degrees_mag (pos byte -ℤ pos 256))

-- rounded down, to degrees or to halves
pub down_mag : (z : ℤ) (d : ℕ) → mag (shr_z z d) ≡ mag z / d
down_mag (pos n) d = refl
down_mag (negsuc n) d = refl

-- ---- degrees, and degrees and a half, rounded down are the degrees, and an odd number of halves or not

pub down_part : (z : ℤ) (half : Bool) → shr_z (z *ℤ pos DEGREE +ℤ pos (half_of half)) DEGREE ≡ z
down_part (pos n) true = ap pos (omega arith)
down_part (pos n) false = ap pos (omega arith)
down_part (negsuc n) true = rw (part_neg n true) (ap negsuc (omega arith))
down_part (negsuc n) false = rw (part_neg n false) (ap negsuc (omega arith))

pub down_degrees : (z : ℤ) → shr_z (z *ℤ pos DEGREE) DEGREE ≡ z
down_degrees z = rw (+ℤ_idr (z *ℤ pos DEGREE)) at (down_part z false)

pub odd_part : (z : ℤ) (half : Bool) → is_odd (shr_z (z *ℤ pos DEGREE +ℤ pos (half_of half)) HALF) ≡ half
unfolding is_odd
odd_part (pos n) true = eq-eqb ((n * DEGREE + HALF) / HALF % 2) 1 (omega arith)
odd_part (pos n) false = ne_eqb ((n * DEGREE + 0) / HALF % 2) 1 (omega arith)
odd_part (negsuc n) true = rw (part_neg n true) (eq-eqb ((n * DEGREE + (DEGREE - 1) - HALF) / HALF % 2) 0 (omega arith))
odd_part (negsuc n) false = rw (part_neg n false) (ne_eqb ((n * DEGREE + (DEGREE - 1) - 0) / HALF % 2) 0 (omega arith))

pub odd_degrees : (z : ℤ) → is_odd (shr_z (z *ℤ pos DEGREE) HALF) ≡ false
odd_degrees z = rw (+ℤ_idr (z *ℤ pos DEGREE)) at (odd_part z false)

-- ---- the order is kept

pub le_z_down : (x y : ℤ) → T (le_z x y) → T (le_z (shr_z x DEGREE) (shr_z y DEGREE))
le_z_down (pos x) (pos y) p = le→leb (x / DEGREE) (y / DEGREE) (omega (arith, leb→le x y p))
le_z_down (pos x) (negsuc y) p = absurd p
le_z_down (negsuc x) (pos y) p = tt
le_z_down (negsuc x) (negsuc y) p = le→leb (y / DEGREE) (x / DEGREE) (omega (arith, leb→le y x p))

pub le_z_degrees : (x y : ℤ) → T (le_z x y) → T (le_z (x *ℤ pos DEGREE) (y *ℤ pos DEGREE))
le_z_degrees (pos x) (pos y) p = le→leb (x * DEGREE) (y * DEGREE) (omega (arith, leb→le x y p))
le_z_degrees (pos x) (negsuc y) p = absurd p
le_z_degrees (negsuc x) (pos y) p = rw degrees_neg tt
le_z_degrees (negsuc x) (negsuc y) p = rw (degrees_neg x, degrees_neg y) (le→leb (y * DEGREE + (DEGREE - 1)) (x * DEGREE + (DEGREE - 1)) (omega (arith, leb→le y x p)))

-- ---- half degrees

-- rounded down to degrees as half degrees are, and to half degrees as themselves
pub down_halves : (h : ℤ) → shr_z (h *ℤ pos HALF) DEGREE ≡ shr_z h 2
down_halves (pos n) = ap pos (omega arith)
down_halves (negsuc n) = rw (halves_neg n) (ap negsuc (omega arith))

pub same_halves : (h : ℤ) → shr_z (h *ℤ pos HALF) HALF ≡ h
same_halves (pos n) = ap pos (omega arith)
same_halves (negsuc n) = rw (halves_neg n) (ap negsuc (omega arith))

-- rounded down to halves, then to degrees
pub down_twice : (n : ℤ) → shr_z (shr_z n HALF) 2 ≡ shr_z n DEGREE
down_twice (pos n) = ap pos (omega arith)
down_twice (negsuc n) = ap negsuc (omega arith)
