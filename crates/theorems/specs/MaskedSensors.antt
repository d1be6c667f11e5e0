-- What marks do to the error bits of a sensor that is masked: nothing. Assumes nothing.
use Rattle.std.specs.Prelude.{◌≡◌, Bool, true, List, ltb, Option, Some, None}
use Rattle.std.proofs.Math.Path.{refl}
use Rattle.std.proofs.Common.{◌∙◌}
use Prim.Native.Nat.{ℕ, zero, suc, ◌≤◌, ◌<◌}
use native.Mathlib.Omega.{arith}
use Rattle.laws.specs.Pick.{both}
use Rattle.laws.specs.Pointwise.{pick_each}
use Rattle.masks.specs.Table.{SameMasks, volt_same, fan_same, zone_same}
use Rattle.temperature.specs.declared.Reading.{Reading}
use Rattle.temperature.specs.declared.Reading.TheVariants as reading
use Rattle.state.specs.declared.Chip.{Chip}
use Rattle.sense.specs.Errors.{marked_volt, marked_fan, low_limit, high_limit, fan_limit_at, compared_fan}
use Rattle.sense.specs.Hysteresis.{erring_after, erred_volt}
use Rattle.sense.specs.ZoneLimits.{zone_number, low_temp, high_temp, zone_watched, is_beyond, marked_zone, compared_zone, zone_file}
use Rattle.sense.specs.Missing.{volt_watched, fan_watched, missed_volt, missed_fan, missed_zone, missed_volts, missed_fans, missed_zones, missed_file, missed}
use Rattle.sense.specs.Marks.{Marks, Status}
use Rattle.sense.proofs.Marks.{missed_volts_marks, missed_fans_marks, missed_zones_marks}
use Rattle.sense.specs.Alerts.{marks_masks}
use Rattle.sense.specs.MaskedBits.{NoNew, none_same, none_then, marked_none}
use Rattle.theorems.specs.Sensors.{Sensor, volt, fan, zone, is_masked, bmc_register, host_register, error_place}

-- the register of a sensor's bit in the BMC group, and in the Host group
pub data HasBit (x : Sensor) : ℕ → Type 0 where
  bmc : HasBit x (bmc_register x)
  host : HasBit x (host_register x)

-- it is an error status register
pub bit_status : (x : Sensor) {a : ℕ} → HasBit x a → Status a
unfolding bmc_register host_register
bit_status (volt i l) bmc = record { low = omega arith; high = omega arith }
bit_status (volt i l) host = record { low = omega arith; high = omega arith }
bit_status (fan i l) bmc = record { low = omega arith; high = omega arith }
bit_status (fan i l) host = record { low = omega arith; high = omega arith }
bit_status (zone i l) bmc = record { low = omega arith; high = omega arith }
bit_status (zone i l) host = record { low = omega arith; high = omega arith }

-- what is masked stays so under the same masks
pub masked_same : (x : Sensor) {f g : List ℕ} → SameMasks g f → is_masked x f ≡ true → is_masked x g ≡ true
unfolding is_masked
masked_same (volt i l) s m = volt_same s i ∙ m
masked_same (fan i l) s m = fan_same s i ∙ m
masked_same (zone i l) s m = zone_same s (zone_number i) ∙ m

pub masked_marks : (x : Sensor) {f g : List ℕ} → Marks f g → is_masked x f ≡ true → is_masked x g ≡ true
masked_marks x k = masked_same x (marks_masks k)

-- ---- one mark: of x itself, or of another register or bit

module _ (file : List ℕ) where
  volt_none : (x : Sensor) {a : ℕ} → HasBit x a → is_masked x file ≡ true → (j : ℕ) → j < 16 → NoNew a (error_place x) file (marked_volt file j)
  unfolding is_masked bmc_register host_register error_place marked_volt
  volt_none (volt i l) bmc m j h = marked_none _ file _ _ _ (λ e f. let own : j ≡ i = omega arith in rw own m) (λ e f. absurd (omega arith))
  volt_none (volt i l) host m j h = marked_none _ file _ _ _ (λ e f. absurd (omega arith)) (λ e f. let own : j ≡ i = omega arith in rw own m)
  volt_none (fan i l) bmc m j h = marked_none _ file _ _ _ (λ e f. absurd (omega arith)) (λ e f. absurd (omega arith))
  volt_none (fan i l) host m j h = marked_none _ file _ _ _ (λ e f. absurd (omega arith)) (λ e f. absurd (omega arith))
  volt_none (zone i l) bmc m j h = marked_none _ file _ _ _ (λ e f. absurd (omega arith)) (λ e f. absurd (omega arith))
  volt_none (zone i l) host m j h = marked_none _ file _ _ _ (λ e f. absurd (omega arith)) (λ e f. absurd (omega arith))

  fan_none : (x : Sensor) {a : ℕ} → HasBit x a → is_masked x file ≡ true → (j : ℕ) → NoNew a (error_place x) file (marked_fan file j)
  unfolding is_masked bmc_register host_register error_place marked_fan
  fan_none (volt i l) bmc m j = marked_none _ file _ _ _ (λ e f. absurd (omega arith)) (λ e f. absurd (omega arith))
  fan_none (volt i l) host m j = marked_none _ file _ _ _ (λ e f. absurd (omega arith)) (λ e f. absurd (omega arith))
  fan_none (fan i l) bmc m j = marked_none _ file _ _ _ (λ e f. rw f m) (λ e f. absurd (omega arith))
  fan_none (fan i l) host m j = marked_none _ file _ _ _ (λ e f. absurd (omega arith)) (λ e f. rw f m)
  fan_none (zone i l) bmc m j = marked_none _ file _ _ _ (λ e f. absurd (omega arith)) (λ e f. absurd (omega arith))
  fan_none (zone i l) host m j = marked_none _ file _ _ _ (λ e f. absurd (omega arith)) (λ e f. absurd (omega arith))

  zone_none : (x : Sensor) {a : ℕ} → HasBit x a → is_masked x file ≡ true → (j : ℕ) → NoNew a (error_place x) file (marked_zone file j)
  unfolding is_masked bmc_register host_register error_place marked_zone
  zone_none (volt i l) bmc m j = marked_none _ file _ _ _ (λ e f. absurd (omega arith)) (λ e f. absurd (omega arith))
  zone_none (volt i l) host m j = marked_none _ file _ _ _ (λ e f. absurd (omega arith)) (λ e f. absurd (omega arith))
  zone_none (fan i l) bmc m j = marked_none _ file _ _ _ (λ e f. absurd (omega arith)) (λ e f. absurd (omega arith))
  zone_none (fan i l) host m j = marked_none _ file _ _ _ (λ e f. absurd (omega arith)) (λ e f. absurd (omega arith))
  zone_none (zone i l) bmc m j = marked_none _ file _ _ _ (λ e f. rw f m) (λ e f. absurd (omega arith))
  zone_none (zone i l) host m j = marked_none _ file _ _ _ (λ e f. absurd (omega arith)) (λ e f. rw f m)

-- ---- readings, and the missing marks of a tick

module _ (x : Sensor) {a : ℕ} (b : HasBit x a) (file : List ℕ) (m : is_masked x file ≡ true) where
  -- none of x's bits is new
  abbrev NoneAdded : List ℕ → Type 0
  NoneAdded next = NoNew a (error_place x) file next

  unmarked : NoneAdded file
  unmarked = none_same refl

  pub erred_none : (i : ℕ) → i < 16 → (before : Bool) (n : Option ℕ) → NoneAdded (erred_volt file i before n)
  unfolding erred_volt
  erred_none i l before None = unmarked
  erred_none i l before (Some n) = pick_each NoneAdded (erring_after file i before (Some n)) (volt_none file x b m i l) unmarked

  pub compared_none : (i : ℕ) (n : Option ℕ) → NoneAdded (compared_fan file i n)
  unfolding compared_fan
  compared_none i None = unmarked
  compared_none i (Some n) = pick_each NoneAdded (ltb (fan_limit_at file i) n) (fan_none file x b m i) unmarked

  compared_zone_none : (i : ℕ) (r : Reading) → NoneAdded (compared_zone file i r)
  unfolding compared_zone
  compared_zone_none i reading.Missing = unmarked
  compared_zone_none i (reading.Taken n) =
      pick_each NoneAdded (both (zone_watched file i) (is_beyond (low_temp file i) (high_temp file i) n)) (zone_none file x b m i) unmarked

  pub zone_file_none : (i : ℕ) (r : Reading) → NoneAdded (zone_file file i r)
  unfolding zone_file
  zone_file_none i r = pick_each NoneAdded (ltb i 6) (compared_zone_none i r) unmarked

  missed_volt_none : (i : ℕ) → i < 16 → (n : Option ℕ) → NoneAdded (missed_volt file i n)
  unfolding missed_volt
  missed_volt_none i l None = pick_each NoneAdded (volt_watched (low_limit file i) (high_limit file i)) (volt_none file x b m i l) unmarked
  missed_volt_none i l (Some n) = unmarked

  missed_fan_none : (i : ℕ) (n : Option ℕ) → NoneAdded (missed_fan file i n)
  unfolding missed_fan
  missed_fan_none i None = pick_each NoneAdded (fan_watched (fan_limit_at file i)) (fan_none file x b m i) unmarked
  missed_fan_none i (Some n) = unmarked

  missed_zone_none : (i : ℕ) (r : Reading) → NoneAdded (missed_zone file i r)
  unfolding missed_zone
  missed_zone_none i reading.Missing = pick_each NoneAdded (zone_watched file i) (zone_none file x b m i) unmarked
  missed_zone_none i (reading.Taken n) = unmarked

module _ (x : Sensor) {a : ℕ} (b : HasBit x a) (file : List ℕ) (m : is_masked x file ≡ true) where
  missed_volts_none : (gauges : List (Option ℕ)) (n : ℕ) → n ≤ 16 → NoNew a (error_place x) file (missed_volts file gauges n)
  unfolding missed_volts
  missed_volts_none gauges zero h = none_same refl
  missed_volts_none gauges (suc n) h =
      let k = missed_volts_marks file gauges 0 n (omega arith) (omega arith) in
      none_then (missed_volts_none gauges n (omega arith)) (missed_volt_none x b _ (masked_marks x k m) n (omega arith) _)

  missed_fans_none : (gauges : List (Option ℕ)) (n : ℕ) → n ≤ 4 → NoNew a (error_place x) file (missed_fans file gauges n)
  unfolding missed_fans
  missed_fans_none gauges zero h = none_same refl
  missed_fans_none gauges (suc n) h =
      let k = missed_fans_marks file gauges 0 n (omega arith) (omega arith) in
      none_then (missed_fans_none gauges n (omega arith)) (missed_fan_none x b _ (masked_marks x k m) n _)

  missed_zones_none : (zones : List Reading) (n : ℕ) → n ≤ 6 → NoNew a (error_place x) file (missed_zones file zones n)
  unfolding missed_zones
  missed_zones_none zones zero h = none_same refl
  missed_zones_none zones (suc n) h =
      let k = missed_zones_marks file zones 0 n (omega arith) (omega arith) in
      none_then (missed_zones_none zones n (omega arith)) (missed_zone_none x b _ (masked_marks x k m) n _)

-- all marks of a tick
pub missed_none : (x : Sensor) {a : ℕ} → HasBit x a → (c : Chip) → is_masked x c.registers ≡ true → NoNew a (error_place x) c.registers (missed c).registers
unfolding missed missed_file missed_volts missed_fans
missed_none x b c m =
    let volts = missed_volts_marks c.registers c.volts 0 16 (omega arith) (omega arith) in
    let after-volts = masked_marks x volts m in
    let fans = missed_fans_marks (missed_volts c.registers c.volts 16) c.fans 0 4 (omega arith) (omega arith) in
    none_then (missed_volts_none x b c.registers m c.volts 16 (omega arith))
    (none_then (missed_fans_none x b _ after-volts c.fans 4 (omega arith)) (missed_zones_none x b _ (masked_marks x fans after-volts) c.zones 6 (omega arith)))
