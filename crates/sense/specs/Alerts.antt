-- The count of errors and ALERT, and what a tick marks: a watched reading that is still missing, and not masked, cannot look healthy.
-- Assumes nothing.
use Rattle.std.specs.Prelude.{◌≡◌, true, false, not, List, ℕ, ◌+◌, ◌*◌, ◌/◌, ◌%◌, ◌^◌, ◌≤◌, ◌<◌, T, ltb, get_or}
use Rattle.std.proofs.Common.{ap, arith, lt-ltb}
use Rattle.std.proofs.Math.Path.{ap₂}
use Rattle.std.specs.Float.Ieee.Bits.{is_true}
use Rattle.laws.specs.Both.{both_with_true, both_true}
use Rattle.laws.specs.Count.{count_le, count_some}
use Rattle.map.specs.Bits.{is_set}
use Rattle.map.specs.Names.{TEMPERATURE_SOURCE_SELECT, B_ERROR_STATUS_1, B_ERROR_STATUS_2, B_FAN_ERROR_STATUS, ZONE_1_LOW_TEMP, AD_IN1_LOW_LIMIT, FAN_TACH_1_LIMIT_LSB, CONFIGURATION, GMSK}
use Rattle.masks.specs.Masks.{zone_masked, volt_masked, fan_masked}
use Rattle.masks.specs.Table.{SameMasks}
use Rattle.sense.specs.Errors.{low_limit, high_limit, fan_limit, fan_limit_at}
use Rattle.sense.specs.ZoneLimits.{zone_number, low_temp, high_temp, zone_watched}
use Rattle.sense.specs.Standing.{zone_counts, volt_counts, fan_counts, errors_standing, alert_active}
use Rattle.sense.specs.Marks.{Marks}

-- 02, Q-12: "The error count takes in the zone bits": 0 to 24
pub errors_le : (file : List ℕ) → errors_standing file ≤ 24
unfolding errors_standing
errors_le file =
    omega (arith, count_le (zone_counts file) 4, count_le (volt_counts file) 16, count_le (fan_counts file) 4)

-- ---- an error that stands, and is not masked, is counted, and is an ALERT but while GMSK is set

-- an error stands, so ALERT is what GMSK leaves of it
pub record Alerts (file : List ℕ) : Type 0 where
  pub counted : ltb 0 (errors_standing file) ≡ true
  pub alert : alert_active file ≡ not (is_set (get_or file CONFIGURATION 0) GMSK)

alerts : (file : List ℕ) → 0 < errors_standing file → Alerts file
unfolding alert_active
alerts file l = let e = lt-ltb 0 (errors_standing file) l in
    record { counted = e; alert = rw e (both_with_true (not (is_set (get_or file CONFIGURATION 0) GMSK))) }

-- the bit of voltage i
pub volt_alerts : (file : List ℕ) (i : ℕ) → i < 16 → volt_masked file i ≡ false → T (is_set (get_or file (B_ERROR_STATUS_2 + i / 8) 0) (2 ^ (i % 8))) → Alerts file
unfolding errors_standing volt_counts
volt_alerts file i l m t = alerts file (omega (arith, count_some (volt_counts file) 16 i l (both_true (is_true (is_set (get_or file (B_ERROR_STATUS_2 + i / 8) 0) (2 ^ (i % 8))) t) (ap not m))))

-- the bit of fan i
pub fan_alerts : (file : List ℕ) (i : ℕ) → i < 4 → fan_masked file i ≡ false → T (is_set (get_or file B_FAN_ERROR_STATUS 0) (2 ^ i)) → Alerts file
unfolding errors_standing fan_counts
fan_alerts file i l m t = alerts file (omega (arith, count_some (fan_counts file) 4 i l (both_true (is_true (is_set (get_or file B_FAN_ERROR_STATUS 0) (2 ^ i)) t) (ap not m))))

-- the bit of zone 1 to 4, counted from 0
pub zone_alerts : (file : List ℕ) (i : ℕ) → i < 4 → zone_masked file i ≡ false → T (is_set (get_or file B_ERROR_STATUS_1 0) (2 ^ i)) → Alerts file
unfolding errors_standing zone_counts
zone_alerts file i l m t = alerts file (omega (arith, count_some (zone_counts file) 4 i l (both_true (is_true (is_set (get_or file B_ERROR_STATUS_1 0) (2 ^ i)) t) (ap not m))))

-- ---- a tick

-- marks leave the limits, the masks and 31h as they are
pub marks_masks : {file next : List ℕ} → Marks file next → SameMasks next file
marks_masks m = record { each = λ a l h. m.other a (λ s. omega arith) }

module _ {file next : List ℕ} (m : Marks file next) (i : ℕ) where
  pub low_same : low_limit next i ≡ low_limit file i
  unfolding low_limit
  low_same = m.other (AD_IN1_LOW_LIMIT + 2 * i) (λ s. omega arith)

  pub high_same : high_limit next i ≡ high_limit file i
  unfolding high_limit
  high_same = m.other (AD_IN1_LOW_LIMIT + 2 * i + 1) (λ s. omega arith)

  pub fan_limit_same : fan_limit_at next i ≡ fan_limit_at file i
  unfolding fan_limit_at
  fan_limit_same = ap₂ fan_limit (m.other (FAN_TACH_1_LIMIT_LSB + 2 * i) (λ s. omega arith)) (m.other (FAN_TACH_1_LIMIT_LSB + 2 * i + 1) (λ s. omega arith))

  pub watched_same : zone_watched next i ≡ zone_watched file i
  unfolding zone_watched low_temp high_temp
  watched_same =
      rw (m.other (ZONE_1_LOW_TEMP + 2 * zone_number i) (λ s. omega arith), m.other (ZONE_1_LOW_TEMP + 2 * zone_number i + 1) (λ s. omega arith), m.other TEMPERATURE_SOURCE_SELECT (λ s. omega arith))
