-- Document 01, "Fan duties", 1: tables. Tables and zones count from 0, zones in the order 1a, 1b, 2a, 2b, 3, 4. Temperatures are signed
-- counts of sixteenths of a degree; document 02, Q-7: "the tables and boosts compare them so". Assumes nothing.
use Rattle.std.specs.Prelude.{Bool, List, ℕ, zero, suc, ◌+◌, ◌*◌, min, eqb, ltb, ℤ, pos, ◌+ℤ◌, ◌*ℤ◌, get_or}
use Rattle.std.specs.Int.Signed.{le_z}
use Rattle.laws.specs.Pick.{pick}
use Rattle.laws.specs.Count.{count_to}
use Rattle.map.specs.Bits.{is_set}
use Rattle.map.specs.Names.{Z1BE, Z2BE, LUT1_Z1, LUT2_Z2, LUT3_Z1, LUT4_Z2, LT12_RS, LT34_RS}
use Rattle.temperature.specs.declared.Reading.{Reading}
use Rattle.temperature.specs.declared.Reading.TheVariants.{Taken, Missing}
use Rattle.temperature.specs.Temperature.{HALF, DEGREE, hotter_of}
use Rattle.state.specs.declared.Setup.{Setup}
use Rattle.state.specs.Parts.{no_zone}
use Rattle.drive.specs.declared.Table.{Table as LentTable}

-- ---- the zone that a table follows

abbrev pub zone_in : List Reading → ℕ → Reading
zone_in zones i = get_or zones i no_zone

-- "Zone 1 is 1a, or the hotter of 1a and 1b while Z1bE is set, a missing one being the hotter; zone 2 likewise."
unfoldable pub joined_zone : Bool → Reading → Reading → Reading
joined_zone enabled a b = pick enabled (hotter_of a b) a

-- source is 31h
unfoldable pub zone_one : List Reading → ℕ → Reading
zone_one zones source = joined_zone (is_set source Z1BE) (zone_in zones 0) (zone_in zones 1)

unfoldable pub zone_two : List Reading → ℕ → Reading
zone_two zones source = joined_zone (is_set source Z2BE) (zone_in zones 2) (zone_in zones 3)

-- "Table 1 and 3 follow zone 1 if their 35h bit (4, 6) is set, else zone 3; table 2 and 4 follow zone 2 (bits 5, 7), else zone 4."
unfoldable pub followed_zone : List Reading → ℕ → ℕ → ℕ → Reading
followed_zone zones source bindings table =
    pick (eqb table 0) (pick (is_set bindings LUT1_Z1) (zone_one zones source) (zone_in zones 4))
    (pick (eqb table 1) (pick (is_set bindings LUT2_Z2) (zone_two zones source) (zone_in zones 5))
    (pick (eqb table 2) (pick (is_set bindings LUT3_Z1) (zone_one zones source) (zone_in zones 4))
    (pick (is_set bindings LUT4_Z2) (zone_two zones source) (zone_in zones 5))))

-- ---- a table's setup

-- base in degrees, how many sixteenths a count of its offsets and hysteresis is, and those counts
pub record Table : Type 0 where
  pub base : ℤ
  pub unit : ℕ
  pub offsets : List ℕ
  pub hysteresis : ℕ

-- the table that a function is given by its parts
abbrev pub table_from : ℤ → ℕ → List ℕ → ℕ → Table
table_from base unit offsets hysteresis = record { base = base; unit = unit; offsets = offsets; hysteresis = hysteresis }

-- the table that a function is lent
abbrev pub lent : LentTable → Table
lent t = table_from t.base t.unit t.offsets.now t.hysteresis

-- "both count in degrees, or half degrees if LT12_RS or LT34_RS is set": how many sixteenths a count is
unfoldable pub unit_of : Bool → ℕ
unit_of halves = pick halves HALF DEGREE

-- "Tables 1 and 2 share offsets and hysteresis, 3 and 4 share theirs"; control is BDh
unfoldable pub table_of : Setup → ℕ → ℕ → Table
table_of s control table =
    pick (ltb table 2)
    (record { base = get_or s.bases table (pos 0); unit = unit_of (is_set control LT12_RS); offsets = s.offsets12; hysteresis = get_or s.hystereses 0 0 })
    (record { base = get_or s.bases table (pos 0); unit = unit_of (is_set control LT34_RS); offsets = s.offsets34; hysteresis = get_or s.hystereses 1 0 })

-- ---- the step

-- the first k offsets added
unfoldable pub sum_to : List ℕ → ℕ → ℕ
sum_to offsets zero = 0
sum_to offsets (suc k) = sum_to offsets k + get_or offsets k 0

-- a threshold, that many counts above the base, is not above the reading
unfoldable pub is_reached : ℤ → ℕ → ℕ → ℤ → Bool
is_reached base unit counts n = le_z (base *ℤ pos DEGREE +ℤ pos (unit * counts)) n

-- "Threshold k (1 to 12) is base plus the first k offsets." Threshold k + 1 is not above the reading
unfoldable pub threshold_reached : Table → ℤ → ℕ → Bool
threshold_reached t n k = is_reached t.base t.unit (sum_to t.offsets (suc k)) n

-- "the number of thresholds not above the reading"
unfoldable pub not_above : Table → ℤ → ℕ
not_above t n = count_to (threshold_reached t n) 12

-- "but if the old step is higher, it is the lower of the old step and" later
unfoldable pub settled : ℕ → ℕ → ℕ → ℕ
settled old now later = pick (ltb now old) (min old later) now

-- "The new step is the number of thresholds not above the reading; but if the old step is higher, it is the lower of the old step and the
-- number of thresholds not above reading plus hysteresis." "Missing: step 12"
unfoldable pub new_step : Table → ℕ → Reading → ℕ
new_step t old Missing = 12
new_step t old (Taken n) = settled old (not_above t n) (not_above t (n +ℤ pos (t.unit * t.hysteresis)))

-- "The table asks for the duty of its step. Missing: step 12 and 256."
unfoldable pub asked_duty : List ℕ → ℕ → Reading → ℕ
asked_duty duties step Missing = 256
asked_duty duties step (Taken n) = get_or duties step 0
