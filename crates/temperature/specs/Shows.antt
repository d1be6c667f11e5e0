-- What two registers show: of a whole byte and a half bit that were written, those; of half degrees, what document 01 says; of sixteenths,
-- what shows of them rounded down to a half. Assumes nothing.
use Rattle.std.specs.Prelude.{◌≡◌, refl, Bool, true, false, ℕ, ◌<◌, eqb, ltb, ℤ, pos, ◌-ℤ◌, ◌*ℤ◌}
use Rattle.std.proofs.Common.{sym, arith, lt-ltb, ne_eqb, ltb-true, ltb-false, eqb-true}
use Rattle.std.specs.Int.Signed.{shr_z}
use Rattle.laws.specs.Pick.{pick}
use Rattle.temperature.specs.declared.Reading.TheVariants.{Taken, Missing}
use Rattle.temperature.specs.declared.Stated.TheVariants.{Halves}
use Rattle.temperature.specs.Temperature.{HALF, DEGREE, stated_reading, byte_of, whole_of, is_odd, whole_byte, half_set, degrees_of, reading_of, with_half}
use Rattle.temperature.specs.Sixteenths.{down_part, down_degrees, odd_part, odd_degrees, down_halves, same_halves, down_twice}

-- the byte of a byte's degrees is the byte
byte_degrees : (byte : ℕ) → byte < 256 → byte_of (degrees_of byte) ≡ byte
unfolding byte_of degrees_of
byte_degrees byte b = go (ltb byte 0x80) refl
  where
    go : (t : Bool) → ltb byte 0x80 ≡ t → byte_of (pick t (pos byte) (pos byte -ℤ pos 256)) ≡ byte
    go true e = omega (arith, ltb-true)
    go false e = rw (lt-ltb byte 256 b) (omega (arith, ltb-false))

-- write the whole byte, then the half bit: the reading is what the two show
pub shows : (byte : ℕ) (half : Bool) → byte < 256 → (byte ≡ 0x80 → ⊥) → (whole_byte (with_half (reading_of byte) half) ≡ byte) × (half_set (with_half (reading_of byte) half) ≡ half)
unfolding whole_byte half_set reading_of with_half whole_of
shows byte half b n =
    rw (ne_eqb byte 0x80 n, down_degrees (degrees_of byte)) (rw down_part (byte_degrees byte b), odd_part (degrees_of byte) half)

-- the whole byte alone, 80h too, shows as itself with half bit 0
pub shows_whole : (byte : ℕ) → byte < 256 → (whole_byte (reading_of byte) ≡ byte) × (half_set (reading_of byte) ≡ false)
unfolding whole_byte half_set reading_of whole_of
shows_whole byte b = go (eqb byte 0x80) refl
  where
    go : (t : Bool) → eqb byte 0x80 ≡ t → (whole_byte (pick t Missing (Taken (degrees_of byte *ℤ pos DEGREE))) ≡ byte) × (half_set (pick t Missing (Taken (degrees_of byte *ℤ pos DEGREE))) ≡ false)
    go true e = (sym (eqb-true byte 0x80 e), refl)
    go false e = (rw down_degrees (byte_degrees byte b), odd_degrees (degrees_of byte))

-- the half bit alone, of any reading: the whole byte shows as before, and the half bit as it was written
pub shows_half : (n : ℤ) (half : Bool) → (whole_byte (with_half (Taken n) half) ≡ whole_byte (Taken n)) × (half_set (with_half (Taken n) half) ≡ half)
unfolding whole_byte half_set with_half whole_of
shows_half n half = (rw down_part, odd_part (shr_z n DEGREE) half)

-- 80h is missing whatever half bit is written behind it, and shows as 80h with half bit 0
pub shows_missing : (half : Bool) → (with_half (reading_of 0x80) half ≡ Missing) × (whole_byte Missing ≡ 0x80) × (half_set Missing ≡ false)
unfolding whole_byte half_set reading_of with_half
shows_missing half = (refl, refl, refl)

-- "Temperature h: whole byte is h / 2 rounded down, as two's complement; the half bit is set if h is odd.": T's temperatures show as before
pub shows_halves : (h : ℤ) → (whole_byte (stated_reading (Halves h)) ≡ byte_of (shr_z h 2)) × (half_set (stated_reading (Halves h)) ≡ is_odd h)
unfolding stated_reading whole_byte half_set whole_of
shows_halves h = (rw (down_halves h), rw (same_halves h))

-- "The half bit shows the reading rounded down to a half.", and so does the whole byte
pub shows_down : (n : ℤ) → (whole_byte (Taken n) ≡ whole_byte (Taken (shr_z n HALF *ℤ pos HALF))) × (half_set (Taken n) ≡ half_set (Taken (shr_z n HALF *ℤ pos HALF)))
unfolding whole_byte half_set whole_of
shows_down n = (rw (down_halves (shr_z n HALF), down_twice n), rw (same_halves (shr_z n HALF)))
