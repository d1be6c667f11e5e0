-- What setting error bits does to the register file: bits that stand stay, and no register but an error status register changes.
-- Assumes nothing.
use Rattle.std.specs.Prelude.{◌≡◌, refl, Bool, List, ℕ, suc, ◌+◌, ◌/◌, ◌%◌, ◌^◌, ◌≤◌, ◌<◌, ltb, length, get_or, Option, Some, None}
use Rattle.std.proofs.Common.{arith}
use Rattle.std.proofs.Math.Bool.{true, false}
use Rattle.std.proofs.Math.Decide.{le_ind}
use Rattle.laws.specs.Pick.{both}
use Rattle.map.specs.Names.{B_ERROR_STATUS_1, B_ERROR_STATUS_2, B_FAN_ERROR_STATUS, H_ERROR_STATUS_1, H_ERROR_STATUS_2, H_FAN_ERROR_STATUS}
use Rattle.masks.specs.Masks.{volt_masked, fan_masked, zone_masked}
use Rattle.temperature.specs.declared.Reading.{Reading}
use Rattle.temperature.specs.declared.Reading.TheVariants as reading
use Rattle.state.specs.Parts.{no_zone, no_gauge}
use Rattle.sense.specs.Errors.{with_bit, marked, marked_volt, marked_fan, low_limit, high_limit, fan_limit_at, compared_fan}
use Rattle.sense.specs.Hysteresis.{erring_after, erred_volt}
use Rattle.sense.specs.ZoneLimits.{zone_number, low_temp, high_temp, zone_watched, is_beyond, marked_zone, compared_zone, zone_file}
use Rattle.sense.specs.Missing.{volt_watched, fan_watched, missed_volt, missed_fan, missed_zone, missed_volts, missed_fans, missed_zones}
use Rattle.sense.specs.Marks.{Status, Marks, marks_none, marks_then, marks_if, bit_stays, bit_marks, bit_stands, Stands, VoltStands, FanStands, ZoneStands}

-- the bit is set in both registers, unless it is masked
module _ (file : List ℕ) (b h bit : ℕ) (p : Status b) (q : Status h) where
  abbrev first : List ℕ
  first = with_bit file b bit

  first_marks : Marks file first
  first_marks = bit_marks file b bit p

  marked_marks : (masked : Bool) → Marks file (marked masked file b h bit)
  unfolding marked
  marked_marks true = marks_none file
  marked_marks false = marks_then first_marks (bit_marks first h bit q)

  marked_stands : (masked : Bool) → masked ≡ false → length file ≡ 256 → Stands (marked masked file b h bit) b h bit
  unfolding marked
  marked_stands masked e n = rw e (record {
    bmc = bit_stays first h bit b bit (bit_stands file b bit (omega arith));
    host = bit_stands first h bit (omega (arith, first_marks.long));
  })

module _ (file : List ℕ) (i : ℕ) (l : i < 16) where
  -- the error bit of a voltage marks
  pub volt_marks : Marks file (marked_volt file i)
  unfolding marked_volt
  volt_marks = marked_marks file (B_ERROR_STATUS_2 + i / 8) (H_ERROR_STATUS_2 + i / 8) (2 ^ (i % 8)) (omega arith) (omega arith) (volt_masked file i)

  -- a mark sets the voltage's bit in both groups
  pub volt_stands : volt_masked file i ≡ false → length file ≡ 256 → VoltStands (marked_volt file i) i
  unfolding marked_volt
  volt_stands = marked_stands file (B_ERROR_STATUS_2 + i / 8) (H_ERROR_STATUS_2 + i / 8) (2 ^ (i % 8)) (omega arith) (omega arith) (volt_masked file i)

  -- so does a reading that is compared, and one that a tick finds missing
  pub erred_volt_marks : (before : Bool) (n : Option ℕ) → Marks file (erred_volt file i before n)
  unfolding erred_volt
  erred_volt_marks before None = marks_none file
  erred_volt_marks before (Some n) = marks_if (erring_after file i before (Some n)) volt_marks

  pub missed_volt_marks : (n : Option ℕ) → Marks file (missed_volt file i n)
  unfolding missed_volt
  missed_volt_marks None = marks_if (volt_watched (low_limit file i) (high_limit file i)) volt_marks
  missed_volt_marks (Some n) = marks_none file

module _ (file : List ℕ) (i : ℕ) where
  -- the error bit of a fan marks
  pub fan_marks : Marks file (marked_fan file i)
  unfolding marked_fan
  fan_marks = marked_marks file B_FAN_ERROR_STATUS H_FAN_ERROR_STATUS (2 ^ i) (omega arith) (omega arith) (fan_masked file i)

  -- a mark sets the fan's bit in both groups
  pub fan_stands : fan_masked file i ≡ false → length file ≡ 256 → FanStands (marked_fan file i) i
  unfolding marked_fan
  fan_stands = marked_stands file B_FAN_ERROR_STATUS H_FAN_ERROR_STATUS (2 ^ i) (omega arith) (omega arith) (fan_masked file i)

  -- so does a count that is compared, and one that a tick finds missing
  pub compared_fan_marks : (n : Option ℕ) → Marks file (compared_fan file i n)
  unfolding compared_fan
  compared_fan_marks None = marks_none file
  compared_fan_marks (Some n) = marks_if (ltb (fan_limit_at file i) n) fan_marks

  pub missed_fan_marks : (n : Option ℕ) → Marks file (missed_fan file i n)
  unfolding missed_fan
  missed_fan_marks None = marks_if (fan_watched (fan_limit_at file i)) fan_marks
  missed_fan_marks (Some n) = marks_none file

module _ (file : List ℕ) (i : ℕ) where
  -- the error bit of a zone marks
  zone_marks : Marks file (marked_zone file i)
  unfolding marked_zone
  zone_marks = marked_marks file B_ERROR_STATUS_1 H_ERROR_STATUS_1 (2 ^ zone_number i) (omega arith) (omega arith) (zone_masked file (zone_number i))

  -- a mark sets the zone's bit in both groups
  pub zone_stands : zone_masked file (zone_number i) ≡ false → length file ≡ 256 → ZoneStands (marked_zone file i) i
  unfolding marked_zone
  zone_stands = marked_stands file B_ERROR_STATUS_1 H_ERROR_STATUS_1 (2 ^ zone_number i) (omega arith) (omega arith) (zone_masked file (zone_number i))

  -- so does a reading that is compared, and one that a tick finds missing
  compared_zone_marks : (r : Reading) → Marks file (compared_zone file i r)
  unfolding compared_zone
  compared_zone_marks reading.Missing = marks_none file
  compared_zone_marks (reading.Taken n) = marks_if (both (zone_watched file i) (is_beyond (low_temp file i) (high_temp file i) n)) zone_marks

  pub zone_file_marks : (r : Reading) → Marks file (zone_file file i r)
  unfolding zone_file
  zone_file_marks r = marks_if (ltb i 6) (compared_zone_marks r)

  pub missed_zone_marks : (r : Reading) → Marks file (missed_zone file i r)
  unfolding missed_zone
  missed_zone_marks reading.Missing = marks_if (zone_watched file i) zone_marks
  missed_zone_marks (reading.Taken n) = marks_none file

-- ---- one after another

-- `all n` is the file after n steps, each of which marks
module _ (step : List ℕ → ℕ → List ℕ) (top : ℕ) (marks : (file : List ℕ) (n : ℕ) → n < top → Marks file (step file n)) (all : ℕ → List ℕ) (more : (n : ℕ) → all (suc n) ≡ step (all n) n) where
  run_marks : (n m : ℕ) → n ≤ m → m ≤ top → Marks (all n) (all m)
  run_marks n m l = le_ind (λ (k : ℕ). k ≤ top → Marks (all n) (all k)) (λ q. marks_none (all n)) (λ k p ih q. rw (more k) (marks_then (ih (omega arith)) (marks (all k) k (omega arith)))) m l

-- the marks of a tick, from the first n channels, fans or zones to the first m
module _ (file : List ℕ) (gauges : List (Option ℕ)) where
  pub missed_volts_marks : (n m : ℕ) → n ≤ m → m ≤ 16 → Marks (missed_volts file gauges n) (missed_volts file gauges m)
  unfolding missed_volts
  missed_volts_marks = run_marks (λ f i. missed_volt f i (get_or gauges i no_gauge)) 16 (λ f i l. missed_volt_marks f i l (get_or gauges i no_gauge)) (missed_volts file gauges) (λ i. refl)

  pub missed_fans_marks : (n m : ℕ) → n ≤ m → m ≤ 4 → Marks (missed_fans file gauges n) (missed_fans file gauges m)
  unfolding missed_fans
  missed_fans_marks = run_marks (λ f i. missed_fan f i (get_or gauges i no_gauge)) 4 (λ f i l. missed_fan_marks f i (get_or gauges i no_gauge)) (missed_fans file gauges) (λ i. refl)

pub missed_zones_marks : (file : List ℕ) (zones : List Reading) (n m : ℕ) → n ≤ m → m ≤ 6 → Marks (missed_zones file zones n) (missed_zones file zones m)
unfolding missed_zones
missed_zones_marks file zones = run_marks (λ f i. missed_zone f i (get_or zones i no_zone)) 6 (λ f i l. missed_zone_marks f i (get_or zones i no_zone)) (missed_zones file zones) (λ i. refl)
