-- The sensors that have limits, voltages, fans and zones: when one is missing, watched or masked, what gives it a reading, and how a broken
-- one looks at a tick. Assumes nothing.
use Rattle.std.specs.Prelude.{◌≡◌, Bool, true, List, [], ℕ, suc, ◌+◌, ◌-◌, ◌/◌, ◌%◌, ◌^◌, ◌≤◌, ◌<◌, T, get_or, Some, None}
use Rattle.map.specs.Blocks.{fixed}
use Rattle.map.specs.Bits.{is_set}
use Rattle.map.specs.Names.{B_ERROR_STATUS_1, B_ERROR_STATUS_2, B_FAN_ERROR_STATUS, H_ERROR_STATUS_1, H_ERROR_STATUS_2, H_FAN_ERROR_STATUS, CONFIGURATION, GMSK, FIXED_BLOCK_0, FIXED_BLOCK_1}
use Rattle.masks.specs.Masks.{volt_masked, fan_masked, zone_masked}
use Rattle.temperature.specs.declared.Reading.TheVariants as reading
use Rattle.state.specs.declared.Chip.{Chip}
use Rattle.state.specs.Parts.{register_at, zone_at, volt_at, fan_at}
use Rattle.sense.specs.Errors.{low_limit, high_limit, fan_limit_at}
use Rattle.sense.specs.ZoneLimits.{zone_number, zone_watched}
use Rattle.sense.specs.Missing.{volt_watched, fan_watched}
use Rattle.bus.specs.Block.{block_bytes}
use Rattle.event.specs.declared.Event.TheVariants.{Voltage, Fan, Tick, ReadBlock}
use Rattle.event.specs.declared.Answer.TheVariants.{Ticked, Block}
use Rattle.event.specs.declared.Tick.{Tick as Shown}
use Rattle.event.specs.Event.{stepped_chip}
use Rattle.event.specs.Run.{Given}
use Rattle.theorems.specs.ShownBytes.{ShowsBit}
use Rattle.theorems.specs.Zones.{GivesZone}

-- a voltage channel, a fan or a zone, each counted from 0, zones in the order 1a, 1b, 2a, 2b, 3, 4
pub data Sensor : Type 0 where
  volt : (i : ℕ) → i < 16 → Sensor
  fan : (i : ℕ) → i < 4 → Sensor
  zone : (i : ℕ) → i < 6 → Sensor

-- it has no taken reading
unfoldable pub IsMissing : Sensor → Chip → Type 0
IsMissing (volt i l) c = volt_at c i ≡ None
IsMissing (fan i l) c = fan_at c i ≡ None
IsMissing (zone i l) c = zone_at c i ≡ reading.Missing

-- "Not watched: a voltage with limits 00h and FFh, a fan with limit 3FFFh"; 02, Q-12: a zone with limits 80h and 7Fh, "nor .. 1b or 2b while not
-- enabled"
unfoldable pub is_watched : Sensor → Chip → Bool
is_watched (volt i l) c = volt_watched (low_limit c.registers i) (high_limit c.registers i)
is_watched (fan i l) c = fan_watched (fan_limit_at c.registers i)
is_watched (zone i l) c = zone_watched c.registers i

-- 02, Q-12: its bit is masked, by the register file
unfoldable pub is_masked : Sensor → List ℕ → Bool
is_masked (volt i l) file = volt_masked file i
is_masked (fan i l) file = fan_masked file i
is_masked (zone i l) file = zone_masked file (zone_number i)

-- an event gives it a taken reading: "V, channel 1 to 16", "F, fan 1 to 4"; a zone a T or U that is heard, a V that feeds it, or a whole byte
-- that is written, by itself or in a block
pub data GivesTaken (c : Chip) (g : Given) : Sensor → Type 0 where
  count : {i : ℕ} {l : i < 16} (n : ℕ) → g.event ≡ Voltage (suc i) (Some n) → GivesTaken c g (volt i l)
  speed : {i : ℕ} {l : i < 4} (n : ℕ) → g.event ≡ Fan (suc i) (Some n) → GivesTaken c g (fan i l)
  temperature : {i : ℕ} {l : i < 6} → GivesZone c i g.event g.bytes → GivesTaken c g (zone i l)

-- where its error bit stands in the BMC group: "41h and 42h, channel 1 at bit 0 of 41h"; the fans' register is 47h, the zones' 40h
unfoldable pub bmc_register : Sensor → ℕ
bmc_register (volt i l) = B_ERROR_STATUS_2 + i / 8
bmc_register (fan i l) = B_FAN_ERROR_STATUS
bmc_register (zone i l) = B_ERROR_STATUS_1

-- in the Host group: 49h and 4Ah, 4Fh, and 48h
unfoldable pub host_register : Sensor → ℕ
host_register (volt i l) = H_ERROR_STATUS_2 + i / 8
host_register (fan i l) = H_FAN_ERROR_STATUS
host_register (zone i l) = H_ERROR_STATUS_1

-- which bit, in both
unfoldable pub error_place : Sensor → ℕ
error_place (volt i l) = i % 8
error_place (fan i l) = i
error_place (zone i l) = zone_number i

abbrev pub error_bit : Sensor → ℕ
error_bit x = 2 ^ error_place x

-- register a is one of the block, and its byte of the block, byte a - first, has the bit
pub record InBlock (c : Chip) (first count a bit : ℕ) : Type 0 where
  pub from : first ≤ a
  pub below : a < first + count
  pub shows : T (is_set (get_or (block_bytes c first count) (a - first) 0) bit)

-- each G of the command that is given to the chip and acknowledged shows the bit of register a
abbrev pub BlocksShow : Chip → ℕ → ℕ → ℕ → Type 0
BlocksShow c command a bit =
    (address first count : ℕ) → (stepped_chip c (ReadBlock address command) []).answer ≡ Block (fixed first count) → InBlock (stepped_chip c (ReadBlock address command) []).chip first count a bit

-- a K given to the chip: what it answers tells of an error, with ALERT unless GMSK is set, and after it both groups show the sensor's bit, to
-- byte reads as in the dump, and so do block reads of F2h, the BMC group, and of F3h, the Host group. All of them have no bytes beside them;
-- up to 32 would make no difference (`step-alone`)
pub record LooksBroken (x : Sensor) (c : Chip) : Type 0 where
  pub tick : Shown
  pub answers : (stepped_chip c Tick []).answer ≡ Ticked tick
  pub in_bmc : ShowsBit (stepped_chip c Tick []).chip (bmc_register x) (error_bit x)
  pub in_host : ShowsBit (stepped_chip c Tick []).chip (host_register x) (error_bit x)
  pub block_bmc : BlocksShow (stepped_chip c Tick []).chip FIXED_BLOCK_0 (bmc_register x) (error_bit x)
  pub block_host : BlocksShow (stepped_chip c Tick []).chip FIXED_BLOCK_1 (host_register x) (error_bit x)
  pub alert : (T (is_set (register_at (stepped_chip c Tick []).chip CONFIGURATION) GMSK) → ⊥) → tick.alert ≡ true
  pub errors : 1 ≤ tick.errors
