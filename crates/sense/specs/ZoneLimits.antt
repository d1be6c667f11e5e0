-- Document 02, Q-12: "temperature limit errors for all zones", over the register file. Zones count from 0 in the order 1a, 1b, 2a, 2b, 3, 4.
-- Assumes nothing.
use Rattle.std.specs.Prelude.{◌≡◌, refl, Bool, true, false, not, List, ℕ, ◌+◌, ◌-◌, ◌*◌, ◌/◌, ◌^◌, ◌<◌, eqb, ltb, ℤ, get_or}
use Rattle.std.proofs.Common.{arith, ltb-true, ltb-false}
use Rattle.std.specs.Int.Signed.{lt_z}
use Rattle.laws.specs.Pick.{pick, both, either}
use Rattle.map.specs.Names.{TEMPERATURE_SOURCE_SELECT, B_ERROR_STATUS_1, H_ERROR_STATUS_1, ZONE_1_LOW_TEMP}
use Rattle.masks.specs.Masks.{zone_masked}
use Rattle.temperature.specs.declared.Reading.{Reading}
use Rattle.temperature.specs.declared.Reading.TheVariants.{Taken, Missing}
use Rattle.temperature.specs.Temperature.{sixteenths_of}
use Rattle.state.specs.Parts.{zone_enabled}
use Rattle.sense.specs.Errors.{marked}

-- 000's zones 1 to 4, counted from 0: 1a and 1b are zone 1, 2a and 2b zone 2
unfoldable pub zone_number : ℕ → ℕ
zone_number zone = pick (ltb zone 4) (zone / 2) (zone - 2)

-- there are four
pub number_lt : (zone : ℕ) → zone < 6 → zone_number zone < 4
unfolding zone_number
number_lt zone l = go (ltb zone 4) refl
  where
    go : (t : Bool) → ltb zone 4 ≡ t → pick t (zone / 2) (zone - 2) < 4
    go true e = omega (arith, ltb-true zone 4 e)
    go false e = omega (arith, ltb-false zone 4 e)

-- the limits of a zone: 78h and 79h of zone 1, and so on to 7Eh and 7Fh
unfoldable pub low_temp : List ℕ → ℕ → ℕ
low_temp file zone = get_or file (ZONE_1_LOW_TEMP + 2 * zone_number zone) 0

unfoldable pub high_temp : List ℕ → ℕ → ℕ
high_temp file zone = get_or file (ZONE_1_LOW_TEMP + 2 * zone_number zone + 1) 0

-- "80h low and 7Fh high; a zone with both is not watched and never errs"
unfoldable pub temps_watched : ℕ → ℕ → Bool
temps_watched low high = not (both (eqb low 0x80) (eqb high 0x7F))

-- "nor does 1b or 2b while not enabled"
unfoldable pub zone_watched : List ℕ → ℕ → Bool
zone_watched file zone =
    both (temps_watched (low_temp file zone) (high_temp file zone)) (zone_enabled (get_or file TEMPERATURE_SOURCE_SELECT 0) zone)

-- "below its low or above its high limit, in signed whole degrees compared with the full reading"; n counts sixteenths
unfoldable pub is_beyond : ℕ → ℕ → ℤ → Bool
is_beyond low high n = either (lt_z n (sixteenths_of low)) (lt_z (sixteenths_of high) n)

-- "sets its bit in both groups": zone 1 at bit 0 of 40h and of 48h
unfoldable pub marked_zone : List ℕ → ℕ → List ℕ
marked_zone file zone =
    marked (zone_masked file (zone_number zone)) file B_ERROR_STATUS_1 H_ERROR_STATUS_1 (2 ^ zone_number zone)

-- "Any other zone below its low or above its high limit .. sets its bit in both groups at the event that sets the reading"
unfoldable pub compared_zone : List ℕ → ℕ → Reading → List ℕ
compared_zone file zone Missing = file
compared_zone file zone (Taken n) =
    pick (both (zone_watched file zone) (is_beyond (low_temp file zone) (high_temp file zone) n)) (marked_zone file zone) file

-- the register file after a zone gets a reading; one that is not there changes nothing
unfoldable pub zone_file : List ℕ → ℕ → Reading → List ℕ
zone_file file zone r = pick (ltb zone 6) (compared_zone file zone r) file
