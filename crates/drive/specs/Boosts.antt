-- Document 01, "Fan duties", 2: boost; document 02, Q-7: "the tables and boosts compare" sixteenths. Assumes nothing.
use Rattle.std.specs.Prelude.{Bool, true, false, ℕ, ◌*◌, ℤ, pos, ◌-ℤ◌, ◌*ℤ◌, Option, Some, None}
use Rattle.std.specs.Int.Signed.{le_z, lt_z}
use Rattle.laws.specs.Pick.{pick}
use Rattle.temperature.specs.declared.Reading.{Reading}
use Rattle.temperature.specs.declared.Reading.TheVariants.{Taken, Missing}
use Rattle.temperature.specs.Temperature.{DEGREE}

-- "on if the reading is at least the zone's boost, off once below boost minus boost hysteresis, else as before"; boost and hysteresis are
-- in degrees, the reading in sixteenths
unfoldable pub is_latched : ℤ → ℕ → ℤ → Bool → Bool
is_latched boost hysteresis n was =
    pick (le_z (boost *ℤ pos DEGREE) n) true (pick (lt_z n (boost *ℤ pos DEGREE -ℤ pos (hysteresis * DEGREE))) false was)

-- "on if the reading is missing"; "Zones without a boost, or not enabled, are off, missing or not."
unfoldable pub is_boosted : Bool → Option ℤ → ℕ → Reading → Bool → Bool
is_boosted false boost hysteresis reading was = false
is_boosted true None hysteresis reading was = false
is_boosted true (Some b) hysteresis Missing was = true
is_boosted true (Some b) hysteresis (Taken n) was = is_latched b hysteresis n was
