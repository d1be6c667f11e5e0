-- The masked bits of the error status registers as the code puts them together, by the sleep state and its mask registers, and that they are
-- those of the definitions. Assumes nothing.
use Rattle.std.specs.Prelude.{◌≡◌, Option, Some, None, Bool, true, false, List, eqb, get_or}
use Rattle.std.specs.Option.{option_map_or}
use Rattle.std.proofs.Math.Path.{refl}
use Rattle.std.proofs.Common.{◌∙◌, arith}
use Prim.Native.Nat.{ℕ, zero, suc, ◌+◌, ◌*◌, ◌%◌, ◌^◌, ◌≤◌}
use borrow.Author.Tests.{le-ltb, ne_eqb}
use Rattle.laws.specs.Binary.{digits_from, digits_same, own_digits}
use Rattle.laws.specs.Count.{one_if}
use Rattle.laws.specs.Pick.{pick}
use Rattle.map.specs.Bits.{is_set}
use Rattle.map.specs.Names.{S1_FAN_MASK, S3_FAN_MASK, S3_TEMPERATURE_VOLTAGE_MASK, S4_5_TEMPERATURE_VOLTAGE_MASK, TEMP_MSK}
use Rattle.masks.specs.declared.SleepState.{SleepState}
use Rattle.masks.specs.declared.SleepState.TheVariants.{S0, S1, S3, S4S5}
use Rattle.masks.specs.Masks.{sleep_state, is_masked, asleep_volt, volt_masking, volt_masked, fan_masking, fan_masked, asleep_zone, zone_masking, zone_masked, zone_masks, volt_masks, fan_masks}

-- no bit
none_masked : (n : ℕ) → digits_from (λ k. false) n ≡ 0
unfolding digits_from
none_masked zero = refl
none_masked (suc n) = rw (none_masked n)

-- the mask register of voltages and temperatures, in S3 and in S4/5
unfoldable pub mask_in : List ℕ → SleepState → Option ℕ
mask_in file S0 = None
mask_in file S1 = None
mask_in file S3 = Some (get_or file S3_TEMPERATURE_VOLTAGE_MASK 0)
mask_in file S4S5 = Some (get_or file S4_5_TEMPERATURE_VOLTAGE_MASK 0)

unfoldable pub asleep_mask : List ℕ → Option ℕ
asleep_mask file = mask_in file (sleep_state file)

-- ---- voltages

-- of a group of eight channels in S3 and S4/5; bits 0 to 2 of the mask register are bits 3 to 5 of 42h
unfoldable pub asleep_volts : ℕ → ℕ → ℕ
asleep_volts mask group = pick (eqb group 0) 0xFF (pick (eqb group 1) (0x47 + mask % 8 * 8) 0x00)

-- the three lowest digits of a number make its remainder by 8
three_digits : (m : ℕ) → one_if (is_set m 1) + 2 * (one_if (is_set m 2) + 2 * (one_if (is_set m 4) + 2 * 0)) ≡ m % 8
unfolding digits_from is_set
three_digits m = own_digits m 3

module _ (file : List ℕ) (register : ℕ) where
  -- there are no channels past the second group
  past : (group k : ℕ) → 2 ≤ group → is_masked file (asleep_volt register (group * 8 + k)) ≡ false
  unfolding is_masked asleep_volt
  past group k h =
      rw (le-ltb (group * 8 + k) 11 (omega arith), le-ltb (group * 8 + k) 14 (omega arith), ne_eqb (group * 8 + k) 14 (λ e. omega arith))

  volts_asleep : (group : ℕ) → digits_from (λ k. is_masked file (asleep_volt register (group * 8 + k))) 8 ≡ asleep_volts (get_or file register 0) group
  unfolding digits_from is_masked asleep_volt asleep_volts
  volts_asleep zero = refl
  volts_asleep (suc zero) = omega (arith, three_digits (get_or file register 0))
  volts_asleep (suc (suc g)) =
      rw (ne_eqb (suc (suc g)) 0 (λ e. omega arith), ne_eqb (suc (suc g)) 1 (λ e. omega arith))
      (digits_same (λ k. is_masked file (asleep_volt register (suc (suc g) * 8 + k))) (λ k. false) 8 (λ k l. past (suc (suc g)) k (omega arith)) ∙ none_masked 8)

module _ (file : List ℕ) (group : ℕ) where
  pub volts_S0 : sleep_state file ≡ S0 → volt_masks file group ≡ 0x00
  unfolding volt_masks volt_masked volt_masking is_masked
  volts_S0 e = rw e (none_masked 8)

  pub volts_S1 : sleep_state file ≡ S1 → volt_masks file group ≡ 0x00
  unfolding volt_masks volt_masked volt_masking is_masked
  volts_S1 e = rw e (none_masked 8)

  pub volts_S3 : sleep_state file ≡ S3 → volt_masks file group ≡ asleep_volts (get_or file S3_TEMPERATURE_VOLTAGE_MASK 0) group
  unfolding volt_masks volt_masked volt_masking
  volts_S3 e = rw e (volts_asleep file S3_TEMPERATURE_VOLTAGE_MASK group)

  pub volts_S4_s5 : sleep_state file ≡ S4S5 → volt_masks file group ≡ asleep_volts (get_or file S4_5_TEMPERATURE_VOLTAGE_MASK 0) group
  unfolding volt_masks volt_masked volt_masking
  volts_S4_s5 e = rw e (volts_asleep file S4_5_TEMPERATURE_VOLTAGE_MASK group)

  -- by the mask register, if the state has one
  pub volts_by_mask : volt_masks file group ≡ option_map_or (λ mask. asleep_volts mask group) (asleep_mask file) 0x00
  unfolding asleep_mask mask_in
  volts_by_mask = go (sleep_state file) refl
    where
      go : (s : SleepState) → sleep_state file ≡ s → volt_masks file group ≡ option_map_or (λ mask. asleep_volts mask group) (mask_in file s) 0x00
      go S0 e = volts_S0 e
      go S1 e = volts_S1 e
      go S3 e = volts_S3 e
      go S4S5 e = volts_S4_s5 e

-- ---- fans

-- the four lowest digits of a number make its remainder by 16
four_digits : (mask : ℕ) → digits_from (λ k. is_set mask (2 ^ k)) 4 ≡ mask % 16
unfolding is_set
four_digits mask = own_digits mask 4

module _ (file : List ℕ) where
  pub fans_S0 : sleep_state file ≡ S0 → fan_masks file ≡ 0x00
  unfolding fan_masks fan_masked fan_masking is_masked
  fans_S0 e = rw e (none_masked 4)

  pub fans_S1 : sleep_state file ≡ S1 → fan_masks file ≡ get_or file S1_FAN_MASK 0 % 16
  unfolding fan_masks fan_masked fan_masking is_masked
  fans_S1 e = rw e (four_digits (get_or file S1_FAN_MASK 0))

  pub fans_S3 : sleep_state file ≡ S3 → fan_masks file ≡ get_or file S3_FAN_MASK 0 % 16
  unfolding fan_masks fan_masked fan_masking is_masked
  fans_S3 e = rw e (four_digits (get_or file S3_FAN_MASK 0))

  pub fans_S4_s5 : sleep_state file ≡ S4S5 → fan_masks file ≡ 0x0F
  unfolding fan_masks fan_masked fan_masking is_masked digits_from
  fans_S4_s5 e = rw e

pub ruleset fans_by_state = (fans_S0, fans_S1, fans_S3, fans_S4_s5)

-- ---- zones

-- zones 1 and 2 in S3 and S4/5
unfoldable pub asleep_zones : ℕ → ℕ
asleep_zones mask = pick (is_set mask TEMP_MSK) 0x03 0x00

zones_asleep : (file : List ℕ) (register : ℕ) → digits_from (λ k. is_masked file (asleep_zone register k)) 4 ≡ asleep_zones (get_or file register 0)
unfolding digits_from is_masked asleep_zone asleep_zones
zones_asleep file register = go (is_set (get_or file register 0) TEMP_MSK)
  where
    go : (t : Bool) → one_if t + 2 * (one_if t + 2 * 0) ≡ pick t 0x03 0x00
    go true = refl
    go false = refl

module _ (file : List ℕ) where
  pub zones_S0 : sleep_state file ≡ S0 → zone_masks file ≡ 0x00
  unfolding zone_masks zone_masked zone_masking is_masked
  zones_S0 e = rw e (none_masked 4)

  pub zones_S1 : sleep_state file ≡ S1 → zone_masks file ≡ 0x00
  unfolding zone_masks zone_masked zone_masking is_masked
  zones_S1 e = rw e (none_masked 4)

  pub zones_S3 : sleep_state file ≡ S3 → zone_masks file ≡ asleep_zones (get_or file S3_TEMPERATURE_VOLTAGE_MASK 0)
  unfolding zone_masks zone_masked zone_masking
  zones_S3 e = rw e (zones_asleep file S3_TEMPERATURE_VOLTAGE_MASK)

  pub zones_S4_s5 : sleep_state file ≡ S4S5 → zone_masks file ≡ asleep_zones (get_or file S4_5_TEMPERATURE_VOLTAGE_MASK 0)
  unfolding zone_masks zone_masked zone_masking
  zones_S4_s5 e = rw e (zones_asleep file S4_5_TEMPERATURE_VOLTAGE_MASK)

  -- by the mask register, if the state has one
  pub zones_by_mask : zone_masks file ≡ option_map_or asleep_zones (asleep_mask file) 0x00
  unfolding asleep_mask mask_in
  zones_by_mask = go (sleep_state file) refl
    where
      go : (s : SleepState) → sleep_state file ≡ s → zone_masks file ≡ option_map_or asleep_zones (mask_in file s) 0x00
      go S0 e = zones_S0 e
      go S1 e = zones_S1 e
      go S3 e = zones_S3 e
      go S4S5 e = zones_S4_s5 e
