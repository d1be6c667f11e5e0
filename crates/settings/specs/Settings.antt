-- Document 01, "Setup", as document 02, Q-6, amends it: the 59 numbers of an S line. Numbers are exact here, however long they are. Assumes
-- nothing.
use Rattle.std.specs.Prelude.{ℕ, suc, ◌+◌, Bool, true, false, List, Option, None, Some, Result, Ok, Err, eqb, leb, ltb, ℤ, pos, neg_ℤ, length, get_or}
use Rattle.laws.specs.Pick.{pick, both}
use Rattle.laws.specs.Every.{every}
use Rattle.laws.specs.Tab.{tab}
use Rattle.text.specs.declared.Number.{Number}
use Rattle.text.specs.declared.Number.TheVariants.{Dash, Plus, Minus}
use Rattle.text.specs.Fields.{first_field, fields_of, field_at}
use Rattle.text.specs.Number.{is_spelt, decimal_of}
use Rattle.state.specs.declared.Setup.{Setup}
use Rattle.state.specs.declared.Refusal.{Refusal}
use Rattle.state.specs.declared.Refusal.TheVariants as refusal
use Rattle.state.specs.Most.{LEVEL_MOST, DEGREES_MOST, OFFSET_MOST, HYSTERESIS_MOST, DUTY_MOST, BYTE_MOST}
use Rattle.state.specs.PowerOn.{default_setup}
use Rattle.settings.specs.declared.Range.{Range}
use Rattle.settings.specs.Places.{LEVEL, BASES, OFFSETS12, OFFSETS34, HYSTERESES, DUTIES, BOOSTS, BOOST_HYSTERESIS, BINDINGS, OVERRIDES, START_DUTIES, START_COUNTS, NUMBERS}

-- number k of an S line, counted from 0: the field behind the letter and k others
unfoldable pub setting_at : List ℕ → ℕ → Option Number
setting_at s k = decimal_of (field_at s (suc k))

-- ---- ranges

-- "0 to" the largest
abbrev pub up_to : ℕ → Range
up_to most = record { most = most; below = 0; none = false }

-- "-127 to 127"
abbrev pub degrees : Range
degrees = record { most = DEGREES_MOST; below = DEGREES_MOST; none = false }

-- "or none"
abbrev pub or_none : Range → Range
or_none r = record { most = r.most; below = r.below; none = true }

-- "pin level; 4 bases, -127 to 127 degrees; 12 offsets for tables 1 and 2, then 12 for 3 and 4; 2 hystereses, 0 to 15; 13 duties, 0 to 256; 6
-- boosts, -127 to 127 or none; boost hysteresis 0 to 15 degrees; 2 bindings, 0 to 255; 2 overrides, 0 to 256 or none; 2 start duties, 0 to
-- 256; 2 start counts, 0 to 255"; 02: "Offsets now run from 0 to 63 in both tables." What number k may be
unfoldable pub range_of : ℕ → Range
range_of k =
    pick (ltb k BASES) (up_to LEVEL_MOST)
    (pick (ltb k OFFSETS12) degrees
    (pick (ltb k HYSTERESES) (up_to OFFSET_MOST)
    (pick (ltb k DUTIES) (up_to HYSTERESIS_MOST)
    (pick (ltb k BOOSTS) (up_to DUTY_MOST)
    (pick (ltb k BOOST_HYSTERESIS) (or_none degrees)
    (pick (ltb k BINDINGS) (up_to HYSTERESIS_MOST)
    (pick (ltb k OVERRIDES) (up_to BYTE_MOST)
    (pick (ltb k START_DUTIES) (or_none (up_to DUTY_MOST))
    (pick (ltb k START_COUNTS) (up_to DUTY_MOST)
    (up_to BYTE_MOST))))))))))

-- a number below 0 is held to its range without its sign
unfoldable pub is_within : Range → Option Number → Bool
is_within r None = false
is_within r (Some Dash) = r.none
is_within r (Some (Plus v)) = leb v r.most
is_within r (Some (Minus v)) = leb v r.below

-- ---- the setup that the numbers make

-- a number that is not below 0; 0 where it is none
unfoldable pub plain_of : Option Number → ℕ
plain_of None = 0
plain_of (Some Dash) = 0
plain_of (Some (Plus v)) = v
plain_of (Some (Minus v)) = 0

-- a number with its sign; 0 where it is none
unfoldable pub signed_of : Option Number → ℤ
signed_of None = pos 0
signed_of (Some Dash) = pos 0
signed_of (Some (Plus v)) = pos v
signed_of (Some (Minus v)) = neg_ℤ (pos v)

-- "-" for none
unfoldable pub none_or : {A : Type 0} → A → A → Option Number → A
none_or none some None = some
none_or none some (Some Dash) = none
none_or none some (Some (Plus v)) = some
none_or none some (Some (Minus v)) = some

-- "6 boosts, -127 to 127 or none"; what a number is as degrees is left open
abbrev pub boost_of : (Option Number → ℤ) → Option Number → Option ℤ
boost_of signed n = none_or None (Some (signed n)) n

-- "2 overrides, 0 to 256 or none"
abbrev pub override_of : Option Number → Option ℕ
override_of n = none_or None (Some (plain_of n)) n

-- by the numbers n, each in its place; what a number is as a byte and as degrees is left open
unfoldable pub setup_by : (Option Number → ℕ) → (Option Number → ℤ) → (ℕ → Option Number) → Setup
setup_by byte signed n = record {
  level = byte (n LEVEL);
  bases = tab (λ i. signed (n (BASES + i))) 4;
  offsets12 = tab (λ k. byte (n (OFFSETS12 + k))) 12;
  offsets34 = tab (λ k. byte (n (OFFSETS34 + k))) 12;
  hystereses = tab (λ i. byte (n (HYSTERESES + i))) 2;
  duties = tab (λ k. plain_of (n (DUTIES + k))) 13;
  boosts = tab (λ i. boost_of signed (n (BOOSTS + i))) 6;
  boost_hysteresis = byte (n BOOST_HYSTERESIS);
  bindings = tab (λ f. byte (n (BINDINGS + f))) 2;
  overrides = tab (λ f. override_of (n (OVERRIDES + f))) 2;
  start_duties = tab (λ f. plain_of (n (START_DUTIES + f))) 2;
  start_counts = tab (λ f. byte (n (START_COUNTS + f))) 2;
}

-- "duties, that never fall": duty k + 1 is not below duty k
unfoldable pub rises_by : (ℕ → Option Number) → ℕ → Bool
rises_by n k = leb (plain_of (n (DUTIES + k))) (plain_of (n (DUTIES + k + 1)))

-- ---- an S line by itself

-- a refused line has no setup of its own
abbrev pub refused_settings : Refusal → Result Setup Refusal
refused_settings r = Err r

-- the setup that numbers make, if they are spelled right, in range, and with duties that never fall. Refusal 4: "spelling wrong"; refusal 1:
-- "a setup number out of range, or duties that fall"
abbrev pub settings_as : Bool → Bool → Bool → Setup → Result Setup Refusal
settings_as spelt within up x =
    pick spelt (pick (both within up) (Ok x) (refused_settings refusal.Setup)) (refused_settings refusal.Spelling)

-- refusal 4: "unknown letter, field count .. wrong"
abbrev pub answered : Bool → Bool → Bool → Bool → Setup → Result Setup Refusal
answered fits spelt within up x = pick fits (settings_as spelt within up x) (refused_settings refusal.Spelling)

-- "Letter first", which is S, 83, and "59 numbers"
unfoldable pub is_setup : List ℕ → Bool
is_setup s =
    both (eqb (length (first_field s)) 1) (both (eqb (get_or s 0 0) 83) (eqb (length (fields_of s)) (suc NUMBERS)))

-- what number k may be is left open
abbrev pub settings_by : (ℕ → Range) → List ℕ → Result Setup Refusal
settings_by range s =
    answered (is_setup s) (every NUMBERS (λ k. is_spelt (setting_at s k))) (every NUMBERS (λ k. is_within (range k) (setting_at s k)))
    (every 12 (rises_by (setting_at s))) (setup_by plain_of signed_of (setting_at s))

unfoldable pub settings_of : List ℕ → Result Setup Refusal
settings_of s = settings_by range_of s

-- ---- what it comes to

-- the setup of a taken line; of a refused one that without a setup
abbrev pub setup_or_default : Result Setup Refusal → Setup
setup_or_default (Ok x) = x
setup_or_default (Err r) = default_setup
