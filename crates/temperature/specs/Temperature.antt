-- Temperatures, as document 01 has them under "Events" and "Bus answers" and document 02, Q-7, amends them: "Zone readings are held in
-- sixteenths". n is a signed count of sixteenths of a degree, h of half degrees. Assumes nothing.
use Rattle.std.specs.Prelude.{Bool, false, ℕ, ◌-◌, ◌%◌, eqb, ltb, ℤ, pos, negsuc, ◌+ℤ◌, ◌-ℤ◌, ◌*ℤ◌}
use Rattle.std.specs.Int.Signed.{shr_z, lt_z}
use Rattle.laws.specs.Pick.{pick}
use Rattle.temperature.specs.declared.Reading.{Reading}
use Rattle.temperature.specs.declared.Reading.TheVariants.{Taken, Missing}
use Rattle.temperature.specs.declared.Stated.{Stated}
use Rattle.temperature.specs.declared.Stated.TheVariants.{Halves, Sixteenths, Missing as NoneStated}

-- ---- the unit

-- how many sixteenths half a degree is
abbrev pub HALF : ℕ
HALF = 8

-- how many a degree is
abbrev pub DEGREE : ℕ
DEGREE = 16

-- "A new letter U carries sixteenths"; "T keeps half degrees": the reading that an event states
unfoldable pub stated_reading : Stated → Reading
stated_reading NoneStated = Missing
stated_reading (Halves h) = Taken (h *ℤ pos HALF)
stated_reading (Sixteenths n) = Taken n

-- ---- what shows

-- a number as a byte in two's complement; negsuc n is -(n + 1)
unfoldable pub byte_of : ℤ → ℕ
byte_of (pos n) = n % 256
byte_of (negsuc n) = 255 - n % 256

-- "whole byte is h / 2 rounded down, as two's complement": the reading rounded down to a degree
unfoldable pub whole_of : ℤ → ℕ
whole_of n = byte_of (shr_z n DEGREE)

unfoldable pub is_odd : ℤ → Bool
is_odd (pos n) = eqb (n % 2) 1
is_odd (negsuc n) = eqb (n % 2) 0

-- "Missing shows 80h with half bit 0"
unfoldable pub whole_byte : Reading → ℕ
whole_byte Missing = 0x80
whole_byte (Taken n) = whole_of n

-- "the half bit is set if h is odd"; 02: "The half bit shows the reading rounded down to a half."
unfoldable pub half_set : Reading → Bool
half_set Missing = false
half_set (Taken n) = is_odd (shr_z n HALF)

-- ---- what is written, and what voltages give

-- a byte as a signed number of degrees
unfoldable pub degrees_of : ℕ → ℤ
degrees_of byte = pick (ltb byte 0x80) (pos byte) (pos byte -ℤ pos 256)

-- in sixteenths
abbrev pub sixteenths_of : ℕ → ℤ
sixteenths_of byte = degrees_of byte *ℤ pos DEGREE

-- "a bus write of 80h makes the zone missing"; 02: "A bus write of the whole byte sets the fraction to 0"
unfoldable pub reading_of : ℕ → Reading
reading_of byte = pick (eqb byte 0x80) Missing (Taken (sixteenths_of byte))

-- "sets zone 3 to the count minus 128 degrees"; "A count of 0 makes that zone missing"
unfoldable pub count_reading : ℕ → Reading
count_reading count = pick (eqb count 0) Missing (Taken ((pos count -ℤ pos 128) *ℤ pos DEGREE))

-- "changes only the half bit, and not even that while the zone is missing"; 02: "A bus write .. of the half bit [sets] the rest to 0"
unfoldable pub with_half : Reading → Bool → Reading
with_half Missing half = Missing
with_half (Taken n) half = Taken (shr_z n DEGREE *ℤ pos DEGREE +ℤ pos (pick half HALF 0))

-- "the hotter of 1a and 1b, a missing one being the hotter"
unfoldable pub hotter_of : Reading → Reading → Reading
hotter_of Missing b = Missing
hotter_of (Taken x) Missing = Missing
hotter_of (Taken x) (Taken y) = Taken (pick (lt_z x y) y x)
