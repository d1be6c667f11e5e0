-- Document 02, Q-12: what is masked gets no bit from any event, and neither ALERT nor the count depends on its bits. In S0 nothing is masked;
-- in S3 the channels 1 to 11 and 15 are, and those of 12 to 14 whose bit of E9h is set. Channels count from 0 here. Assumes nothing.
use Rattle.std.specs.Prelude.{◌≡◌, refl, ◌≢◌, true, false, List, ℕ, ◌+◌, ◌-◌, ◌/◌, ◌%◌, ◌^◌, ◌≤◌, ◌<◌, T, get_or}
use Rattle.map.specs.Bits.{is_set}
use Rattle.map.specs.Tables.{defaults}
use Rattle.map.specs.Names.{B_ERROR_STATUS_2, B_ERROR_STATUS_3, S3_TEMPERATURE_VOLTAGE_MASK}
use Rattle.masks.specs.declared.SleepState.TheVariants.{S0, S3}
use Rattle.masks.specs.Table.{in_S0}
use Rattle.masks.specs.Masks.{state_by, sleep_state}
use Rattle.state.specs.declared.Chip.{Chip}
use Rattle.state.specs.declared.Setup.{Setup}
use Rattle.state.specs.PowerOn.{power_on}
use Rattle.sense.specs.Missing.{missed}
use Rattle.sense.specs.Keeps.{hot_keeps, pin_keeps}
use Rattle.sense.specs.MaskedBits.{NoNew, none_same}
use Rattle.sense.specs.ZoneLimits.{zone_number}
use Rattle.bus.specs.Transactions.{read_keeps, read_block_keeps}
use Rattle.drive.specs.TickOrder.{tick_keeps}
use Rattle.event.specs.declared.Event.{Event}
use Rattle.event.specs.declared.Event.TheVariants.{Temperature, Voltage, Fan, Hot, Pin, Tick, Reset, Write, Read, ReadBlock, WriteBlock}
use Rattle.event.specs.Event.{quiet_step, tick_answer, written_answer, read_answer, seen_block_answer, written_block_answer, taken_step}
use Rattle.event.specs.Run.{Given, given_step}
use Rattle.event.specs.Refusal.{step_cases}
use Rattle.theorems.specs.Sensors.{Sensor, volt, fan, zone, is_masked, bmc_register, host_register, error_place}
use Rattle.theorems.specs.MaskedSensors.{HasBit, bmc, host, missed_none}
use Rattle.theorems.specs.MaskedEvents.{NoneAdded, temperature_none, voltage_none, fan_none, reset_none, write_none, block_none}

-- ---- no bit from any event

-- neither bit of x is new in d: each stands in d only if it stood in c
pub record GetsNone (x : Sensor) (c d : Chip) : Type 0 where
  pub in_bmc : NoNew (bmc_register x) (error_place x) c.registers d.registers
  pub in_host : NoNew (host_register x) (error_place x) c.registers d.registers

module _ (x : Sensor) {a : ℕ} (b : HasBit x a) (c : Chip) (m : is_masked x c.registers ≡ true) where
  taken_none : (e : Event) (bytes : List ℕ) → NoneAdded x b c m (taken_step c e bytes).chip
  unfolding taken_step quiet_step tick_answer written_answer read_answer seen_block_answer written_block_answer
  taken_none (Temperature i s) bytes = temperature_none x b c m (i - 1) _
  taken_none (Voltage channel n) bytes = voltage_none x b c m (channel - 1) n
  taken_none (Fan i n) bytes = fan_none x b c m (i - 1) n
  taken_none (Hot input level) bytes = none_same (rw (hot_keeps c (input - 1) _).registers)
  taken_none (Pin level) bytes = none_same (rw (pin_keeps c _).registers)
  taken_none Tick bytes = rw (tick_keeps (missed c)).registers (missed_none x b c m)
  taken_none Reset bytes = reset_none x b c m
  taken_none (Write address r byte) bytes = write_none x b c m address r byte
  taken_none (Read address r) bytes = none_same (rw (read_keeps c address r).registers)
  taken_none (ReadBlock address command) bytes = none_same (rw (read_block_keeps c address command).rest.registers)
  taken_none (WriteBlock address command) bytes = block_none x b c m address command bytes

  step_none : (g : Given) → NoneAdded x b c m (given_step c g).chip
  step_none g = step_cases c g.event g.bytes (NoneAdded x b c m) (none_same refl) (λ t. taken_none g.event g.bytes)

-- "A masked bit is neither set ..": a voltage, a fan or a zone that is masked gets no bit from any event, taken or refused, in neither group
pub masked_gets_none : (x : Sensor) (c : Chip) → is_masked x c.registers ≡ true → (g : Given) → GetsNone x c (given_step c g).chip
masked_gets_none x c m g = record { in_bmc = step_none x bmc c m g; in_host = step_none x host c m g }

-- ---- S0

-- in S0 nothing is masked
pub none_in_S0 : (file : List ℕ) → sleep_state file ≡ S0 → (x : Sensor) → is_masked x file ≡ false
unfolding is_masked
none_in_S0 file e (volt i l) = (in_S0 file e).volts i
none_in_S0 file e (fan i l) = (in_S0 file e).fans i
none_in_S0 file e (zone i l) = (in_S0 file e).zones (zone_number i)

-- and at power-on it is S0: "on the bench the sleep state starts at S0 and no voltage or fan bit masked"
pub power_S0 : (s : Setup) → sleep_state (power_on s).registers ≡ S0
unfolding power_on defaults sleep_state state_by
power_S0 s = refl

-- ---- S3

-- a channel that is off in S3: 1 to 11, 15, and of 12 to 14 one whose bit of E9h is set
pub data Off (file : List ℕ) : ℕ → Type 0 where
  first : {i : ℕ} → i < 11 → Off file i
  by_bit : {i : ℕ} → 11 ≤ i → i < 14 → T (is_set (get_or file S3_TEMPERATURE_VOLTAGE_MASK 0) (2 ^ (i - 11))) → Off file i
  fifteen : Off file 14

-- and neither ALERT nor the count depends on their bits: two register files that are alike but for those, in S3
pub record AlikeButOff (f g : List ℕ) : Type 0 where
  pub asleep : sleep_state f ≡ S3
  pub others : (a : ℕ) → a ≢ B_ERROR_STATUS_2 → a ≢ B_ERROR_STATUS_3 → get_or f a 0 ≡ get_or g a 0
  pub bits : (i : ℕ) → i < 16 → (Off f i → ⊥) → is_set (get_or f (B_ERROR_STATUS_2 + i / 8) 0) (2 ^ (i % 8)) ≡ is_set (get_or g (B_ERROR_STATUS_2 + i / 8) 0) (2 ^ (i % 8))
