-- Register files that are alike but for 40h and 48h, which have the zones' error bits: what sets a zone's bit changes nothing else, and what
-- sets a voltage's or a fan's goes the same way in both. Assumes nothing.
use Rattle.std.specs.Prelude.{◌≡◌, ◌≢◌, Bool, List, ltb, get_or, set, Option, Some, None}
use Rattle.std.proofs.Math.Path.{refl, ap₂}
use Rattle.std.proofs.Common.{sym, arith, length-set, get_or-set_other}
use Prim.Native.Nat.{ℕ, zero, suc, ◌+◌, ◌*◌}
use Rattle.laws.specs.Pick.{both}
use Rattle.laws.specs.Pointwise.{pick_each, pick_related}
use Rattle.map.specs.Names.{B_ERROR_STATUS_1, H_ERROR_STATUS_1, AD_IN1_LOW_LIMIT, FAN_TACH_1_LIMIT_LSB, SPECIAL_FUNCTION_CONTROL_1}
use Rattle.masks.specs.Masks.{zone_masked, volt_masked, fan_masked}
use Rattle.masks.specs.Table.{volt_same, fan_same}
use Rattle.temperature.specs.declared.Reading.{Reading}
use Rattle.temperature.specs.declared.Reading.TheVariants as reading
use Rattle.state.specs.Parts.{no_zone}
use Rattle.state.specs.Order.{SameButZones}
use Rattle.sense.specs.Errors.{with_bit, marked, marked_volt, marked_fan, low_limit, high_limit, fan_limit, fan_limit_at, compared_fan}
use Rattle.sense.specs.Hysteresis.{hysteresis_of, erring_after, erred_volt}
use Rattle.sense.specs.ZoneLimits.{zone_number, low_temp, high_temp, zone_watched, is_beyond, marked_zone, compared_zone, zone_file}
use Rattle.sense.specs.Missing.{volt_watched, fan_watched, missed_volt, missed_fan, missed_zone, missed_volts, missed_fans, missed_zones, missed_file}
use Rattle.sense.specs.ButZones.{but_self, but_back, but_then, but_set, but_masks}

-- ---- a zone's bit changes nothing else

-- a byte is stored at 40h or 48h
zone_store : (f : List ℕ) (a x : ℕ) → ((k : ℕ) → k ≢ B_ERROR_STATUS_1 → k ≢ H_ERROR_STATUS_1 → k ≢ a) → SameButZones f (set f a x)
zone_store f a x h = record { long = sym (length-set f a x); each = λ k n m. sym (get_or-set_other f a k x 0 (h k n m)) }

module _ (f : List ℕ) (zone : ℕ) where
  zone_marked : SameButZones f (marked_zone f zone)
  unfolding marked_zone marked with_bit
  zone_marked =
      pick_each (SameButZones f) (zone_masked f (zone_number zone)) (but_self f)
      (but_then (zone_store f B_ERROR_STATUS_1 _ (λ k n m. n)) (zone_store _ H_ERROR_STATUS_1 _ (λ k n m. m)))

  zone_compared : (r : Reading) → SameButZones f (compared_zone f zone r)
  unfolding compared_zone
  zone_compared reading.Missing = but_self f
  zone_compared (reading.Taken n) =
      pick_each (SameButZones f) (both (zone_watched f zone) (is_beyond (low_temp f zone) (high_temp f zone) n)) zone_marked (but_self f)

  pub zone_file_lem : (r : Reading) → SameButZones f (zone_file f zone r)
  unfolding zone_file
  zone_file_lem r = pick_each (SameButZones f) (ltb zone 6) (zone_compared r) (but_self f)

  zone_missed : (r : Reading) → SameButZones f (missed_zone f zone r)
  unfolding missed_zone
  zone_missed reading.Missing = pick_each (SameButZones f) (zone_watched f zone) zone_marked (but_self f)
  zone_missed (reading.Taken n) = but_self f

zones_missed : (f : List ℕ) (zones : List Reading) (n : ℕ) → SameButZones f (missed_zones f zones n)
unfolding missed_zones
zones_missed f zones zero = but_self f
zones_missed f zones (suc n) = but_then (zones_missed f zones n) (zone_missed (missed_zones f zones n) n (get_or zones n no_zone))

module _ {f g : List ℕ} (s : SameButZones f g) where
  -- a bit is set
  but_bit : (a bit : ℕ) → SameButZones (with_bit f a bit) (with_bit g a bit)
  unfolding with_bit
  but_bit a bit = but_set s a _ _ (λ n m. rw (s.each a n m))

module _ {f g : List ℕ} (s : SameButZones f g) where
  -- an error bit
  but_marked : (masked : Bool) (b h bit : ℕ) → SameButZones (marked masked f b h bit) (marked masked g b h bit)
  unfolding marked
  but_marked masked b h bit = pick_related SameButZones masked s (but_bit (but_bit s b bit) h bit)

  but_volt : (i : ℕ) → SameButZones (marked_volt f i) (marked_volt g i)
  unfolding marked_volt
  but_volt i = rw (volt_same (but_masks s) i) (but_marked (volt_masked g i) _ _ _)

  but_fan : (i : ℕ) → SameButZones (marked_fan f i) (marked_fan g i)
  unfolding marked_fan
  but_fan i = rw (fan_same (but_masks s) i) (but_marked (fan_masked g i) _ _ _)

  -- the limits of a voltage and of a fan, and VH
  but_low : (i : ℕ) → low_limit f i ≡ low_limit g i
  unfolding low_limit
  but_low i = s.each (AD_IN1_LOW_LIMIT + 2 * i) (λ e. omega arith) (λ e. omega arith)

  but_high : (i : ℕ) → high_limit f i ≡ high_limit g i
  unfolding high_limit
  but_high i = s.each (AD_IN1_LOW_LIMIT + 2 * i + 1) (λ e. omega arith) (λ e. omega arith)

  but_limit : (i : ℕ) → fan_limit_at f i ≡ fan_limit_at g i
  unfolding fan_limit_at
  but_limit i = ap₂ fan_limit (s.each (FAN_TACH_1_LIMIT_LSB + 2 * i) (λ e. omega arith) (λ e. omega arith)) (s.each (FAN_TACH_1_LIMIT_LSB + 2 * i + 1) (λ e. omega arith) (λ e. omega arith))

  but_hysteresis : hysteresis_of f ≡ hysteresis_of g
  unfolding hysteresis_of
  but_hysteresis = rw (s.each SPECIAL_FUNCTION_CONTROL_1 (λ e. omega arith) (λ e. omega arith))

  -- V and F: the channel is in error in both or in neither, and the bits are set in both or in neither
  pub but_erring : (i : ℕ) (before : Bool) (n : Option ℕ) → erring_after f i before n ≡ erring_after g i before n
  unfolding erring_after
  but_erring i before None = refl
  but_erring i before (Some n) = rw (but_low i, but_high i, but_hysteresis)

  pub but_erred : (i : ℕ) (before : Bool) (n : Option ℕ) → SameButZones (erred_volt f i before n) (erred_volt g i before n)
  unfolding erred_volt
  but_erred i before None = s
  but_erred i before (Some n) = rw (but_erring i before (Some n)) (pick_related SameButZones (erring_after g i before (Some n)) (but_volt i) s)

  pub but_compared : (i : ℕ) (n : Option ℕ) → SameButZones (compared_fan f i n) (compared_fan g i n)
  unfolding compared_fan
  but_compared i None = s
  but_compared i (Some n) = rw (but_limit i) (pick_related SameButZones (ltb (fan_limit_at g i) n) (but_fan i) s)

  -- K
  but_missed_volt : (i : ℕ) (n : Option ℕ) → SameButZones (missed_volt f i n) (missed_volt g i n)
  unfolding missed_volt
  but_missed_volt i None = rw (but_low i, but_high i) (pick_related SameButZones (volt_watched (low_limit g i) (high_limit g i)) (but_volt i) s)
  but_missed_volt i (Some n) = s

  but_missed_fan : (i : ℕ) (n : Option ℕ) → SameButZones (missed_fan f i n) (missed_fan g i n)
  unfolding missed_fan
  but_missed_fan i None = rw (but_limit i) (pick_related SameButZones (fan_watched (fan_limit_at g i)) (but_fan i) s)
  but_missed_fan i (Some n) = s

module _ {f g : List ℕ} (s : SameButZones f g) (gauges : List (Option ℕ)) where
  but_missed_volts : (n : ℕ) → SameButZones (missed_volts f gauges n) (missed_volts g gauges n)
  unfolding missed_volts
  but_missed_volts zero = s
  but_missed_volts (suc n) = but_missed_volt (but_missed_volts n) n _

  but_missed_fans : (n : ℕ) → SameButZones (missed_fans f gauges n) (missed_fans g gauges n)
  unfolding missed_fans
  but_missed_fans zero = s
  but_missed_fans (suc n) = but_missed_fan (but_missed_fans n) n _

-- whatever the zones are: their bits alone follow from them
pub but_zone_file : {f g : List ℕ} → SameButZones f g → (zone : ℕ) (q r : Reading) → SameButZones (zone_file f zone q) (zone_file g zone r)
but_zone_file {f} {g} s zone q r = but_then (but_back (zone_file_lem f zone q)) (but_then s (zone_file_lem g zone r))

pub but_missed_file : {f g : List ℕ} → SameButZones f g → (zs ws : List Reading) (volts fans : List (Option ℕ)) → SameButZones (missed_file f zs volts fans) (missed_file g ws volts fans)
unfolding missed_file
but_missed_file s zs ws volts fans =
    but_then (but_back (zones_missed _ zs 6)) (but_then (but_missed_fans (but_missed_volts s volts 16) fans 4) (zones_missed _ ws 6))
