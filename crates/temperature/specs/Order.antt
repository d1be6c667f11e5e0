-- The order "no hotter than": missing is hottest. The laws by which demand 3 goes through the readings. Assumes nothing.
use Rattle.std.specs.Prelude.{Bool, T, ℤ, pos, ◌*ℤ◌}
use Rattle.std.specs.Int.Signed.{le_z, shr_z}
use Rattle.laws.specs.Order.{le_z_refl, le_z_trans, larger, left_le, right_le, larger_le, le_z_plus}
use Rattle.temperature.specs.declared.Reading.{Reading}
use Rattle.temperature.specs.declared.Reading.TheVariants.{Taken, Missing}
use Rattle.temperature.specs.Temperature.{DEGREE, with_half, hotter_of}
use Rattle.temperature.specs.Sixteenths.{half_of, le_z_down, le_z_degrees}

pub data NoHotter : Reading → Reading → Type 0 where
  missing : {x : Reading} → NoHotter x Missing
  taken : {x y : ℤ} → T (le_z x y) → NoHotter (Taken x) (Taken y)

pub no_hotter_refl : (r : Reading) → NoHotter r r
no_hotter_refl Missing = missing
no_hotter_refl (Taken n) = taken (le_z_refl n)

pub no_hotter_trans : {a b c : Reading} → NoHotter a b → NoHotter b c → NoHotter a c
no_hotter_trans p missing = missing
no_hotter_trans (taken {x} {y} p) (taken {y = z} q) = taken (le_z_trans x y z p q)

-- hotter readings have a hotter one no cooler
pub hotter_mono : {a b x y : Reading} → NoHotter a x → NoHotter b y → NoHotter (hotter_of a b) (hotter_of x y)
unfolding hotter_of
hotter_mono missing q = missing
hotter_mono (taken p) missing = missing
hotter_mono (taken {x = a} {y = x} p) (taken {x = b} {y = y} q) =
    taken
    (larger_le a b (larger x y) (le_z_trans a x (larger x y) p (left_le x y)) (le_z_trans b y (larger x y) q (right_le x y)))

-- the half bit written to both keeps the order
pub half_mono : (half : Bool) {x y : Reading} → NoHotter x y → NoHotter (with_half x half) (with_half y half)
unfolding with_half
half_mono half missing = missing
half_mono half (taken {x} {y} p) =
    taken
    (le_z_plus (shr_z x DEGREE *ℤ pos DEGREE) (shr_z y DEGREE *ℤ pos DEGREE) (half_of half) (le_z_degrees (shr_z x DEGREE) (shr_z y DEGREE) (le_z_down x y p)))
