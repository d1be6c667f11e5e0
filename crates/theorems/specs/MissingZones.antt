-- A zone that is missing: what it shows, what it asks of the fans, and until when it is missing. Zones count from 0 in the order 1a, 1b, 2a,
-- 2b, 3, 4, tables and fans from 0. Assumes nothing.
use Rattle.std.specs.Prelude.{◌≡◌, refl, List, [], ℕ, zero, suc, ◌^◌, ◌<◌, T, get_or, None}
use Rattle.std.proofs.Common.{arith}
use Rattle.map.specs.Tables.{homes}
use Rattle.map.specs.Map.{home_of}
use Rattle.map.specs.Bits.{is_set}
use Rattle.map.specs.Kind.{kind_of}
use Rattle.map.specs.FanBytes.{byte_of_kind, fan_byte_at}
use Rattle.temperature.specs.declared.Reading.TheVariants.{Missing}
use Rattle.temperature.specs.Temperature.{whole_byte, half_set}
use Rattle.state.specs.declared.Chip.{Chip}
use Rattle.state.specs.declared.Setup.{Setup}
use Rattle.state.specs.Parts.{no_override, zone_at}
use Rattle.state.specs.PowerOn.{power_on}
use Rattle.state.specs.Powered.{powered_on, powered_valid}
use Rattle.sense.specs.Missing.{missed}
use Rattle.bus.specs.Read.{half_byte, shown_kind, shown_home, shown_register, given_at, given_register}
use Rattle.drive.specs.Tick.{followed, duty_of}
use Rattle.event.specs.declared.Event.TheVariants.{Tick}
use Rattle.event.specs.declared.Answer.TheVariants.{Ticked}
use Rattle.event.specs.declared.Tick.{Tick as Shown}
use Rattle.event.specs.Event.{stepped_chip}
use Rattle.event.specs.Run.{Given, chip_after}
use Rattle.event.specs.Ticking.{tick_shown, tick_answers}
use Rattle.theorems.specs.ShownBytes.{Shows}
use Rattle.theorems.specs.Zones.{zone_of, ZoneMissing}
use Rattle.theorems.specs.FollowedZones.{followed_tells}
use Rattle.theorems.specs.BoundTables.{missing_duty}

-- ---- what it shows

-- a zone, the two addresses of its whole byte, and that of its half bit, as 000 has them
pub data ShowsAt : ℕ → ℕ → ℕ → ℕ → Type 0 where
  zone_1a : ShowsAt 0 0x50 0x11 0x10
  zone_1b : ShowsAt 1 0x06 0x13 0x12
  zone_2a : ShowsAt 2 0x51 0x15 0x14
  zone_2b : ShowsAt 3 0x07 0x17 0x16
  zone_3 : ShowsAt 4 0x52 0x21 0x20
  zone_4 : ShowsAt 5 0x53 0x23 0x22

-- "Missing shows 80h with half bit 0", at every address of each zone
pub missing_shows : {z whole mirror half : ℕ} → ShowsAt z whole mirror half → (c : Chip) → zone_at c z ≡ Missing
    → Shows c whole 0x80 × Shows c mirror 0x80 × Shows c half 0x00
unfolding given_register given_at fan_byte_at byte_of_kind shown_register shown_home shown_kind half_byte whole_byte half_set kind_of home_of homes
missing_shows zone_1a c m = rw m ((refl, refl), (refl, refl), (refl, refl))
missing_shows zone_1b c m = rw m ((refl, refl), (refl, refl), (refl, refl))
missing_shows zone_2a c m = rw m ((refl, refl), (refl, refl), (refl, refl))
missing_shows zone_2b c m = rw m ((refl, refl), (refl, refl), (refl, refl))
missing_shows zone_3 c m = rw m ((refl, refl), (refl, refl), (refl, refl))
missing_shows zone_4 c m = rw m ((refl, refl), (refl, refl), (refl, refl))

-- ---- what it asks of the fans

-- the reading that a table follows is missing where the zone is, and only there
pub missing_followed : (c : Chip) (table : ℕ) → ZoneMissing c (zone_of c table) → followed c table ≡ Missing
missing_followed c table = (followed_tells c table).there

pub followed_missing : (c : Chip) (table : ℕ) → followed c table ≡ Missing → ZoneMissing c (zone_of c table)
followed_missing c table = (followed_tells c table).only

-- a K given to the chip answers a duty of 256 for the first fan, or for the second
pub data FullDuty (c : Chip) : ℕ → Type 0 where
  first : {t : Shown} → (stepped_chip c Tick []).answer ≡ Ticked t → t.duty1 ≡ 256 → FullDuty c 0
  second : {t : Shown} → (stepped_chip c Tick []).answer ≡ Ticked t → t.duty2 ≡ 256 → FullDuty c 1

-- K answers the two fans' duties
full_duty : (c : Chip) (fan : ℕ) → fan < 2 → duty_of (missed c) fan ≡ 256 → FullDuty c fan
unfolding tick_shown
full_duty c zero l e = first (tick_answers c) e
full_duty c (suc zero) l e = second (tick_answers c) e
full_duty c (suc (suc fan)) l e = absurd (omega arith)

-- At each tick at which the reading that a bound table follows is missing, the fan's duty is 256, unless an override stands. The events are
-- any that can come before a tick, and the setup is any that is taken.
pub missing_full : (s : Setup) → (powered_on s).refusal ≡ None → (gs : List Given) (fan table : ℕ) → fan < 2 → table < 4
    → T (is_set (get_or s.bindings fan 0) (2 ^ table))
    → get_or s.overrides fan no_override ≡ None
    → followed (chip_after (power_on s) gs) table ≡ Missing
    → FullDuty (chip_after (power_on s) gs) fan
missing_full s v gs fan table f t bound off m =
    full_duty (chip_after (power_on s) gs) fan f (missing_duty s (powered_valid s v) gs fan table t bound off m)
