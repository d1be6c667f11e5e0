-- What is masked in each sleep state, as a table; and what the masked bits of an error status register are. Assumes nothing.
use Rattle.std.specs.Prelude.{◌≡◌, true, false, List, ℕ, ◌+◌, ◌-◌, ◌*◌, ◌/◌, ◌%◌, ◌^◌, ◌≤◌, ◌<◌, eqb, ltb, get_or}
use Rattle.std.proofs.Math.Path.{refl, ap}
use Rattle.std.proofs.Common.{◌∙◌, arith, lt-ltb, le-ltb}
use Rattle.laws.specs.Binary.{digit_at}
use Rattle.laws.specs.Pointwise.{pick_each}
use Rattle.map.specs.Bits.{is_set}
use Rattle.map.specs.Names.{SLEEP_STATE_CONTROL, S1_FAN_MASK, S3_FAN_MASK, S3_TEMPERATURE_VOLTAGE_MASK, S4_5_TEMPERATURE_VOLTAGE_MASK, TEMP_MSK}
use Rattle.masks.specs.declared.SleepState.{SleepState}
use Rattle.masks.specs.declared.SleepState.TheVariants.{S0, S1, S3, S4S5}
use Rattle.masks.specs.Masks.{state_by, sleep_state, Masking, if_set, is_masked, asleep_volt, volt_masking, volt_masked, fan_masking, fan_masked, asleep_zone, zone_masking, zone_masked, zone_masks, volt_masks, fan_masks}

-- ---- S0: nothing

-- nothing is masked
pub record NoneMasked (file : List ℕ) : Type 0 where
  pub volts : (i : ℕ) → volt_masked file i ≡ false
  pub fans : (i : ℕ) → fan_masked file i ≡ false
  pub zones : (i : ℕ) → zone_masked file i ≡ false

pub in_S0 : (file : List ℕ) → sleep_state file ≡ S0 → NoneMasked file
unfolding volt_masked volt_masking fan_masked fan_masking zone_masked zone_masking is_masked
in_S0 file e = record { volts = λ i. rw e; fans = λ i. rw e; zones = λ i. rw e }

-- ---- S1: fans by E6h

pub record FansAlone (file : List ℕ) : Type 0 where
  pub volts : (i : ℕ) → volt_masked file i ≡ false
  pub fans : (i : ℕ) → fan_masked file i ≡ is_set (get_or file S1_FAN_MASK 0) (2 ^ i)
  pub zones : (i : ℕ) → zone_masked file i ≡ false

pub in_S1 : (file : List ℕ) → sleep_state file ≡ S1 → FansAlone file
unfolding volt_masked volt_masking fan_masked fan_masking zone_masked zone_masking is_masked
in_S1 file e = record { volts = λ i. rw e; fans = λ i. rw e; zones = λ i. rw e }

-- ---- S3 and S4/5

-- channels 1 to 11 and 15 always, 12, 13 and 14 by bits 0 to 2 of a mask register, 16 never; zones 1 and 2 by its bit 3, 3 and 4 never
pub record Asleep (file : List ℕ) (register : ℕ) : Type 0 where
  pub first : (i : ℕ) → i < 11 → volt_masked file i ≡ true
  pub by_bit : (i : ℕ) → 11 ≤ i → i < 14 → volt_masked file i ≡ is_set (get_or file register 0) (2 ^ (i - 11))
  pub fifteen : volt_masked file 14 ≡ true
  pub sixteen : volt_masked file 15 ≡ false
  pub one_two : (i : ℕ) → i < 2 → zone_masked file i ≡ is_set (get_or file register 0) TEMP_MSK
  pub three_four : (i : ℕ) → 2 ≤ i → zone_masked file i ≡ false

-- where voltages and zones go by a mask register so
asleep : {file : List ℕ} {register : ℕ} → ((i : ℕ) → volt_masked file i ≡ is_masked file (asleep_volt register i)) → ((i : ℕ) → zone_masked file i ≡ is_masked file (asleep_zone register i)) → Asleep file register
unfolding is_masked asleep_volt asleep_zone
asleep v z = record {
  first = λ i l. rw (v i, lt-ltb i 11 l);
  by_bit = λ i l h. rw (v i, le-ltb i 11 l, lt-ltb i 14 h);
  fifteen = v 14;
  sixteen = v 15;
  one_two = λ i l. rw (z i, lt-ltb i 2 l);
  three_four = λ i l. rw (z i, le-ltb i 2 l);
}

pub in_S3 : (file : List ℕ) → sleep_state file ≡ S3 → Asleep file S3_TEMPERATURE_VOLTAGE_MASK × ((i : ℕ) → fan_masked file i ≡ is_set (get_or file S3_FAN_MASK 0) (2 ^ i))
unfolding volt_masked volt_masking fan_masked fan_masking zone_masked zone_masking is_masked
in_S3 file e = (asleep (λ i. rw e) (λ i. rw e), λ i. rw e)

pub in_S4_s5 : (file : List ℕ) → sleep_state file ≡ S4S5 → Asleep file S4_5_TEMPERATURE_VOLTAGE_MASK × ((i : ℕ) → fan_masked file i ≡ true)
unfolding volt_masked volt_masking fan_masked fan_masking zone_masked zone_masking is_masked
in_S4_s5 file e = (asleep (λ i. rw e) (λ i. rw e), λ i. rw e)

-- ---- as bits

module _ (file : List ℕ) where
  -- bit k of a group, and the bit of channel i in its group
  pub group_bit : (group k : ℕ) → k < 8 → is_set (volt_masks file group) (2 ^ k) ≡ volt_masked file (group * 8 + k)
  unfolding volt_masks is_set
  group_bit group k l = digit_at (λ k. volt_masked file (group * 8 + k)) 8 k l

  pub volt_bit : (i : ℕ) → is_set (volt_masks file (i / 8)) (2 ^ (i % 8)) ≡ volt_masked file i
  volt_bit i = group_bit (i / 8) (i % 8) (omega arith) ∙ ap (volt_masked file) {x = i / 8 * 8 + i % 8} {y = i} (omega arith)

  pub fan_bit : (i : ℕ) → i < 4 → is_set (fan_masks file) (2 ^ i) ≡ fan_masked file i
  unfolding fan_masks is_set
  fan_bit i l = digit_at (λ k. fan_masked file k) 4 i l

  pub zone_bit : (i : ℕ) → i < 4 → is_set (zone_masks file) (2 ^ i) ≡ zone_masked file i
  unfolding zone_masks is_set
  zone_bit i l = digit_at (λ k. zone_masked file k) 4 i l

-- ---- two register files with the same E4h to EBh mask the same

pub record SameMasks (f g : List ℕ) : Type 0 where
  pub each : (a : ℕ) → SLEEP_STATE_CONTROL ≤ a → a ≤ S4_5_TEMPERATURE_VOLTAGE_MASK → get_or f a 0 ≡ get_or g a 0

module _ (f g : List ℕ) where
  abbrev SameMasked : Masking → Type 0
  SameMasked m = is_masked f m ≡ is_masked g m

  -- by the same mask register
  if_same : (register bit : ℕ) → get_or f register 0 ≡ get_or g register 0 → SameMasked (if_set register bit)
  unfolding is_masked
  if_same register bit e = rw e

  volt_asleep_same : (register i : ℕ) → get_or f register 0 ≡ get_or g register 0 → SameMasked (asleep_volt register i)
  unfolding is_masked asleep_volt
  volt_asleep_same register i e =
      pick_each SameMasked (ltb i 11) refl (pick_each SameMasked (ltb i 14) (if_same register (2 ^ (i - 11)) e) (pick_each SameMasked (eqb i 14) refl refl))

  zone_asleep_same : (register i : ℕ) → get_or f register 0 ≡ get_or g register 0 → SameMasked (asleep_zone register i)
  unfolding is_masked asleep_zone
  zone_asleep_same register i e = pick_each SameMasked (ltb i 2) (if_same register TEMP_MSK e) refl

module _ {f g : List ℕ} (same : SameMasks f g) where
  state_same : sleep_state f ≡ sleep_state g
  unfolding sleep_state
  state_same = ap state_by (same.each SLEEP_STATE_CONTROL (omega arith) (omega arith))

  pub volt_same : (i : ℕ) → volt_masked f i ≡ volt_masked g i
  unfolding volt_masked volt_masking is_masked
  volt_same i = rw state_same (go (sleep_state g))
    where
      go : (s : SleepState) → SameMasked f g (volt_masking s i)
      go S0 = refl
      go S1 = refl
      go S3 = volt_asleep_same f g S3_TEMPERATURE_VOLTAGE_MASK i (same.each S3_TEMPERATURE_VOLTAGE_MASK (omega arith) (omega arith))
      go S4S5 = volt_asleep_same f g S4_5_TEMPERATURE_VOLTAGE_MASK i (same.each S4_5_TEMPERATURE_VOLTAGE_MASK (omega arith) (omega arith))

  pub fan_same : (i : ℕ) → fan_masked f i ≡ fan_masked g i
  unfolding fan_masked fan_masking is_masked
  fan_same i = rw state_same (go (sleep_state g))
    where
      go : (s : SleepState) → SameMasked f g (fan_masking s i)
      go S0 = refl
      go S1 = if_same f g S1_FAN_MASK (2 ^ i) (same.each S1_FAN_MASK (omega arith) (omega arith))
      go S3 = if_same f g S3_FAN_MASK (2 ^ i) (same.each S3_FAN_MASK (omega arith) (omega arith))
      go S4S5 = refl

  pub zone_same : (i : ℕ) → zone_masked f i ≡ zone_masked g i
  unfolding zone_masked zone_masking is_masked
  zone_same i = rw state_same (go (sleep_state g))
    where
      go : (s : SleepState) → SameMasked f g (zone_masking s i)
      go S0 = refl
      go S1 = refl
      go S3 = zone_asleep_same f g S3_TEMPERATURE_VOLTAGE_MASK i (same.each S3_TEMPERATURE_VOLTAGE_MASK (omega arith) (omega arith))
      go S4S5 = zone_asleep_same f g S4_5_TEMPERATURE_VOLTAGE_MASK i (same.each S4_5_TEMPERATURE_VOLTAGE_MASK (omega arith) (omega arith))
