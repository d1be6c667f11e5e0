-- Document 01's proved cases of temperatures, through T, and those of document 02, Q-7. negsuc n is -(n + 1). Assumes nothing.
use Rattle.std.specs.Prelude.{◌≡◌, refl, Bool, true, false, ℕ, ℤ, pos, negsuc}
use Rattle.temperature.specs.declared.Reading.{Reading}
use Rattle.temperature.specs.declared.Reading.TheVariants.{Missing}
use Rattle.temperature.specs.declared.Stated.TheVariants.{Halves, Sixteenths}
use Rattle.temperature.specs.Temperature.{stated_reading, byte_of, whole_of, is_odd, whole_byte, half_set, reading_of, degrees_of, count_reading, with_half, hotter_of}

-- a reading shows this whole byte and this half bit
abbrev pub Shows : Reading → ℕ → Bool → Type 0
Shows r byte half = (whole_byte r ≡ byte) × (half_set r ≡ half)

-- h half degrees, of a T event
abbrev pub T : ℤ → Reading
T h = stated_reading (Halves h)

-- n sixteenths, of a U event
abbrev pub U : ℤ → Reading
U n = stated_reading (Sixteenths n)

-- h = -1 gives FFh, half set; -254 gives 81h; 255 gives 7Fh, half set
pub cases : Shows (T (negsuc 0)) 0xFF true × Shows (T (negsuc 253)) 0x81 false × Shows (T (pos 255)) 0x7F true
unfolding stated_reading byte_of whole_of is_odd whole_byte half_set
cases = ((refl, refl), (refl, refl), (refl, refl))

-- AD_IN11 of 0 missing, 1 gives 81h, all in whole degrees; a written 80h is missing, and no -128
pub byte_cases : (count_reading 0 ≡ Missing) × (count_reading 1 ≡ U (negsuc 2031)) × (whole_byte (count_reading 1) ≡ 0x81) × (count_reading 255 ≡ U (pos 2032)) × (whole_byte (count_reading 255) ≡ 0x7F) × (reading_of 0x80 ≡ Missing) × (reading_of 0x81 ≡ U (negsuc 2031)) × (reading_of 0xFF ≡ U (negsuc 15)) × (reading_of 0x7F ≡ U (pos 2032))
unfolding stated_reading byte_of whole_of whole_byte reading_of degrees_of count_reading
byte_cases = (refl, refl, refl, refl, refl, refl, refl, refl, refl)

-- rounded down to a degree and to a half, below 0 too: -17, -16, -9, -8, -1, 7, 8, 15 and 16 sixteenths; the ends are -2032 and 2040
pub fine_cases : Shows (U (negsuc 16)) 0xFE true × Shows (U (negsuc 15)) 0xFF false × Shows (U (negsuc 8)) 0xFF false × Shows (U (negsuc 7)) 0xFF true × Shows (U (negsuc 0)) 0xFF true × Shows (U (pos 7)) 0x00 false × Shows (U (pos 8)) 0x00 true × Shows (U (pos 15)) 0x00 true × Shows (U (pos 16)) 0x01 false × Shows (U (negsuc 2031)) 0x81 false × Shows (U (pos 2039)) 0x7F false × Shows (U (pos 2040)) 0x7F true
unfolding stated_reading byte_of whole_of is_odd whole_byte half_set
fine_cases =
    ((refl, refl), (refl, refl), (refl, refl), (refl, refl), (refl, refl), (refl, refl), (refl, refl), (refl, refl), (refl, refl), (refl, refl), (refl, refl), (refl, refl))

-- the half bit written: the rest goes to 0, where the bit is another and where it is the same; -1 is half set, 25 too, and 23 is not
pub half_cases : (with_half (U (negsuc 0)) false ≡ U (negsuc 15)) × (with_half (U (negsuc 0)) true ≡ U (negsuc 7)) × (with_half (U (pos 25)) true ≡ U (pos 24)) × (with_half (U (pos 25)) false ≡ U (pos 16)) × (with_half (U (pos 23)) false ≡ U (pos 16)) × (with_half (U (pos 23)) true ≡ U (pos 24))
unfolding stated_reading with_half
half_cases = (refl, refl, refl, refl, refl, refl)

-- T of 70 is U of 560, and a sixteenth more is hotter; -1 is below 0, and missing is hottest
pub order_cases : (T (pos 70) ≡ U (pos 560)) × (hotter_of (U (pos 561)) (T (pos 70)) ≡ U (pos 561)) × (hotter_of (T (negsuc 0)) (U (negsuc 6)) ≡ U (negsuc 6)) × (hotter_of (T (pos 255)) Missing ≡ Missing) × (hotter_of (T (negsuc 0)) (T (pos 0)) ≡ T (pos 0))
unfolding stated_reading hotter_of
order_cases = (refl, refl, refl, refl, refl)
