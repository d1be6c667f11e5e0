-- Document 02, Q-12: "Add .. the sleep state masks .. that source document 000 lists": when an error bit is masked, by the column 'Sleep
-- Masking' of 000's error status registers (6.4.9, 6.4.10) and its sleep state and mask registers (6.4.14), over the register file. Zones 1
-- to 4, channels and fans count from 0. Assumes nothing.
use Rattle.std.specs.Prelude.{Bool, true, false, List, ℕ, ◌+◌, ◌-◌, ◌*◌, ◌^◌, eqb, ltb, get_or}
use Rattle.std.specs.Int.Bits.{bit_and}
use Rattle.laws.specs.Binary.{digits_from}
use Rattle.laws.specs.Pick.{pick}
use Rattle.map.specs.Bits.{is_set}
use Rattle.map.specs.Names.{SLEEP_STATE_CONTROL, S1_FAN_MASK, S3_FAN_MASK, S3_TEMPERATURE_VOLTAGE_MASK, S4_5_TEMPERATURE_VOLTAGE_MASK, SB, TEMP_MSK}
use Rattle.masks.specs.declared.SleepState.{SleepState}
use Rattle.masks.specs.declared.SleepState.TheVariants.{S0, S1, S3, S4S5}

-- E4h, field SB: 00 is S0, 01 S1, 10 S3, 11 S4/5
unfoldable pub state_by : ℕ → SleepState
state_by control =
    pick (eqb (bit_and control SB) 0) S0
    (pick (eqb (bit_and control SB) 1) S1
    (pick (eqb (bit_and control SB) 2) S3 S4S5))

unfoldable pub sleep_state : List ℕ → SleepState
sleep_state file = state_by (get_or file SLEEP_STATE_CONTROL 0)

-- what the column says of an error in a sleep state: nothing; that it is masked; or, with a '*', that "the error event is optionally masked
-- in that sleep mode", by a bit of a mask register: "If set, .. errors are masked"
pub data Masking : Type 0 where
  never : Masking
  always : Masking
  if_set : (register bit : ℕ) → Masking

unfoldable pub is_masked : List ℕ → Masking → Bool
is_masked file never = false
is_masked file always = true
is_masked file (if_set register bit) = is_set (get_or file register 0) bit

-- ---- voltages

-- in S3 and S4/5: channels 1 to 11 and 15 always; 12, 13 and 14 by bits 0 to 2 of the mask register; 16 never
unfoldable pub asleep_volt : ℕ → ℕ → Masking
asleep_volt register i =
    pick (ltb i 11) always (pick (ltb i 14) (if_set register (2 ^ (i - 11))) (pick (eqb i 14) always never))

unfoldable pub volt_masking : SleepState → ℕ → Masking
volt_masking S0 i = never
volt_masking S1 i = never
volt_masking S3 i = asleep_volt S3_TEMPERATURE_VOLTAGE_MASK i
volt_masking S4S5 i = asleep_volt S4_5_TEMPERATURE_VOLTAGE_MASK i

unfoldable pub volt_masked : List ℕ → ℕ → Bool
volt_masked file i = is_masked file (volt_masking (sleep_state file) i)

-- ---- fans

-- by their bits of E6h in S1 and of E8h in S3, always in S4/5
unfoldable pub fan_masking : SleepState → ℕ → Masking
fan_masking S0 i = never
fan_masking S1 i = if_set S1_FAN_MASK (2 ^ i)
fan_masking S3 i = if_set S3_FAN_MASK (2 ^ i)
fan_masking S4S5 i = always

unfoldable pub fan_masked : List ℕ → ℕ → Bool
fan_masked file i = is_masked file (fan_masking (sleep_state file) i)

-- ---- zones

-- in S3 and S4/5: zones 1 and 2 by bit 3 of the mask register; 3 and 4 never
unfoldable pub asleep_zone : ℕ → ℕ → Masking
asleep_zone register i = pick (ltb i 2) (if_set register TEMP_MSK) never

unfoldable pub zone_masking : SleepState → ℕ → Masking
zone_masking S0 i = never
zone_masking S1 i = never
zone_masking S3 i = asleep_zone S3_TEMPERATURE_VOLTAGE_MASK i
zone_masking S4S5 i = asleep_zone S4_5_TEMPERATURE_VOLTAGE_MASK i

unfoldable pub zone_masked : List ℕ → ℕ → Bool
zone_masked file i = is_masked file (zone_masking (sleep_state file) i)

-- ---- as bits of the error status registers

-- 40h and 48h: zones 1 to 4
unfoldable pub zone_masks : List ℕ → ℕ
zone_masks file = digits_from (λ k. zone_masked file k) 4

-- 41h and 49h, group 0, and 42h and 4Ah, group 1: eight channels each
unfoldable pub volt_masks : List ℕ → ℕ → ℕ
volt_masks file group = digits_from (λ k. volt_masked file (group * 8 + k)) 8

-- 47h and 4Fh: fans 1 to 4
unfoldable pub fan_masks : List ℕ → ℕ
fan_masks file = digits_from (λ k. fan_masked file k) 4
