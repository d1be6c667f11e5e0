-- The reading that a table follows is missing exactly if its zone is. Assumes nothing.
use Rattle.std.specs.Prelude.{◌≡◌, refl, Bool, true, false, ℕ, T, eqb}
use Rattle.laws.specs.Pick.{pick}
use Rattle.map.specs.Bits.{is_set}
use Rattle.map.specs.Names.{LUT1_Z1, LUT2_Z2, LUT3_Z1, LUT4_Z2}
use Rattle.temperature.specs.declared.Reading.{Reading}
use Rattle.temperature.specs.declared.Reading.TheVariants.{Taken, Missing}
use Rattle.temperature.specs.Temperature.{hotter_of}
use Rattle.state.specs.declared.Chip.{Chip}
use Rattle.state.specs.Parts.{zone_at}
use Rattle.laws.specs.Never.{never}
use Rattle.drive.specs.Tables.{joined_zone, zone_one, zone_two, followed_zone}
use Rattle.drive.specs.Tick.{followed}
use Rattle.theorems.specs.Zones.{source_of, bindings_of, zone_of, ZoneMissing, in_1a, in_1b, in_2a, in_2b, in_3, in_4}

-- ---- a zone of two readings

-- where it is missing its first reading is, or its second, enabled
joined_cases : {Z : Type 0} (enabled : Bool) (a b : Reading) → (a ≡ Missing → Z) → (T enabled → b ≡ Missing → Z) → joined_zone enabled a b ≡ Missing → Z
unfolding joined_zone hotter_of
joined_cases false a b f g e = f e
joined_cases true Missing b f g e = f refl
joined_cases true (Taken x) Missing f g e = g tt refl
joined_cases true (Taken x) (Taken y) f g e = absurd (never (cc))

-- where its first reading is missing it is
first_missing : (enabled : Bool) {a : Reading} (b : Reading) → a ≡ Missing → joined_zone enabled a b ≡ Missing
unfolding joined_zone hotter_of
first_missing false b e = e
first_missing true b e = rw e

-- where its second is missing, and enabled, it is
second_missing : (enabled : Bool) (a : Reading) {b : Reading} → T enabled → b ≡ Missing → joined_zone enabled a b ≡ Missing
unfolding joined_zone hotter_of
second_missing false a t e = absurd t
second_missing true Missing t e = refl
second_missing true (Taken x) t e = rw e

-- ---- what a table follows

-- a reading is missing where a zone is, and only there
pub record Tells (c : Chip) (r : Reading) (zone : ℕ) : Type 0 where
  pub there : ZoneMissing c zone → r ≡ Missing
  pub only : r ≡ Missing → ZoneMissing c zone

module _ (c : Chip) where
  tells_if : (t : Bool) {r s : Reading} {x y : ℕ} → Tells c r x → Tells c s y → Tells c (pick t r s) (pick t x y)
  tells_if true p q = p
  tells_if false p q = q

  tells_one : Tells c (zone_one c.zones (source_of c)) 1
  unfolding zone_one zone_at
  tells_one = record { there = there; only = joined_cases _ _ _ in_1a in_1b }
    where
      there : ZoneMissing c 1 → zone_one c.zones (source_of c) ≡ Missing
      there (in_1a m) = first_missing _ _ m
      there (in_1b t m) = second_missing _ _ t m

  tells_two : Tells c (zone_two c.zones (source_of c)) 2
  unfolding zone_two zone_at
  tells_two = record { there = there; only = joined_cases _ _ _ in_2a in_2b }
    where
      there : ZoneMissing c 2 → zone_two c.zones (source_of c) ≡ Missing
      there (in_2a m) = first_missing _ _ m
      there (in_2b t m) = second_missing _ _ t m

  tells_three : Tells c (zone_at c 4) 3
  tells_three = record { there = there; only = in_3 }
    where
      there : ZoneMissing c 3 → zone_at c 4 ≡ Missing
      there (in_3 m) = m

  tells_four : Tells c (zone_at c 5) 4
  tells_four = record { there = there; only = in_4 }
    where
      there : ZoneMissing c 4 → zone_at c 5 ≡ Missing
      there (in_4 m) = m

  pub followed_tells : (table : ℕ) → Tells c (followed c table) (zone_of c table)
  unfolding followed followed_zone zone_of zone_at
  followed_tells table =
      tells_if (eqb table 0) (tells_if (is_set (bindings_of c) LUT1_Z1) tells_one tells_three)
      (tells_if (eqb table 1) (tells_if (is_set (bindings_of c) LUT2_Z2) tells_two tells_four)
      (tells_if (eqb table 2) (tells_if (is_set (bindings_of c) LUT3_Z1) tells_one tells_three)
      (tells_if (is_set (bindings_of c) LUT4_Z2) tells_two tells_four)))
