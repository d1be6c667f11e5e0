-- Document 01, "Events", and 02, Q-2, Q-7 and Q-12: T and U, V, F, H, A and X on the chip. Zones, channels, fans and inputs count from 0;
-- one that is not there changes nothing. Assumes nothing.
use Rattle.std.specs.Prelude.{◌≡◌, Bool, not, List, ℕ, ◌-◌, ◌%◌, ◌<◌, eqb, ltb, get_or, set, Option, Some, None}
use Rattle.std.proofs.Common.{lt-ltb}
use Rattle.std.specs.Int.Bits.{bit_and, bit_or}
use Rattle.laws.specs.Pick.{pick, both, either}
use Rattle.laws.specs.Pointwise.{pick_each}
use Rattle.map.specs.Bits.{is_set}
use Rattle.map.specs.Names.{TEMPERATURE_SOURCE_SELECT, CONFIGURATION, SLEEP_STATE_CONTROL, INT_AD11, EXT_AD15, INT_WR_E, LOCK, GMSK, S4_5}
use Rattle.temperature.specs.declared.Reading.{Reading}
use Rattle.temperature.specs.declared.Reading.TheVariants as reading
use Rattle.temperature.specs.Temperature.{count_reading}
use Rattle.state.specs.declared.Chip.{Chip}
use Rattle.state.specs.Parts.{register_at, in_error}
use Rattle.state.specs.With.{with_registers, with_pin, with_zone, with_volt, with_in_error, with_fan, with_hot_input}
use Rattle.sense.specs.Errors.{compared_fan, fan_file}
use Rattle.sense.specs.Hysteresis.{erring_after, erred_volt, voltage_file, voltage_erring}
use Rattle.sense.specs.ZoneLimits.{zone_file}

-- ---- a zone's reading

-- the zone has it, and it is compared: 02, Q-12, "at the event that sets the reading"
unfoldable pub read_zone : Chip → ℕ → Reading → Chip
read_zone c zone r = with_registers (with_zone c zone r) (zone_file c.registers zone r)

-- ---- T and U

-- "T for zone 3 changes nothing while INT_AD11 or INT_WR_E is set."; 02: "A new letter U .., under T's conditions"
unfoldable pub zone_three_fed : ℕ → Bool
zone_three_fed source = either (is_set source INT_AD11) (is_set source INT_WR_E)

-- "Zone 4 has no T event.": whether T or U sets a zone
unfoldable pub zone_heard : ℕ → ℕ → Bool
zone_heard source zone = either (ltb zone 4) (both (eqb zone 4) (not (zone_three_fed source)))

-- "T, zone 1 to 5 (1a, 1b, 2a, 2b, zone 3)"; 02: "U carries sixteenths for zones 1 to 5"
unfoldable pub took_temperature : Chip → ℕ → Reading → Chip
took_temperature c zone r = pick (zone_heard (register_at c TEMPERATURE_SOURCE_SELECT) zone) (read_zone c zone r) c

-- ---- V

-- "A count of 0, or a missing one, makes that zone missing."
unfoldable pub volt_reading : Option ℕ → Reading
volt_reading None = reading.Missing
volt_reading (Some n) = count_reading (n % 256)

-- "A V event for channel 11 with INT_AD11 set and INT_WR_E clear also sets zone 3"
unfoldable pub feeds_three : ℕ → ℕ → Bool
feeds_three source channel = both (eqb channel 10) (both (not (is_set source INT_WR_E)) (is_set source INT_AD11))

-- "channel 15 does so for zone 4 if EXT_AD15 is set"
unfoldable pub feeds_four : ℕ → ℕ → Bool
feeds_four source channel = both (eqb channel 14) (is_set source EXT_AD15)

unfoldable pub fed_zone : Chip → ℕ → Option ℕ → Chip
fed_zone c channel n =
    pick (feeds_three (register_at c TEMPERATURE_SOURCE_SELECT) channel) (read_zone c 4 (volt_reading n))
    (pick (feeds_four (register_at c TEMPERATURE_SOURCE_SELECT) channel) (read_zone c 5 (volt_reading n)) c)

-- what holds whichever zone is fed, or none
pub fed_each : (P : Chip → Type 0) (c : Chip) (channel : ℕ) (n : Option ℕ) → P (read_zone c 4 (volt_reading n)) → P (read_zone c 5 (volt_reading n)) → P c → P (fed_zone c channel n)
unfolding fed_zone
fed_each P c channel n three four none =
    pick_each P (feeds_three (register_at c TEMPERATURE_SOURCE_SELECT) channel) three
    (pick_each P (feeds_four (register_at c TEMPERATURE_SOURCE_SELECT) channel) four none)

-- the reading, and what follows from it for the channel's error
unfoldable pub read_volt : Chip → ℕ → Option ℕ → Chip
read_volt c channel n =
    with_in_error (with_registers (with_volt c channel n) (erred_volt c.registers channel (in_error c channel) n)) channel (erring_after c.registers channel (in_error c channel) n)

unfoldable pub took_voltage : Chip → ℕ → Option ℕ → Chip
took_voltage c channel n = pick (ltb channel 16) (fed_zone (read_volt c channel n) channel n) c

-- V on the parts: a channel that is there sets its reading, whether it is in error and its error bits, and can feed a zone
pub voltage_by_parts : (c : Chip) (channel : ℕ) (n : Option ℕ) → channel < 16 → took_voltage c channel n ≡ fed_zone (with_in_error (with_registers (with_volt c channel n) (voltage_file c.registers channel (in_error c channel) n)) channel (voltage_erring c.registers channel (in_error c channel) n)) channel n
unfolding took_voltage read_volt voltage_file voltage_erring
voltage_by_parts c channel n h = rw (lt-ltb channel 16 h)

-- ---- F, H, A, X

unfoldable pub took_fan : Chip → ℕ → Option ℕ → Chip
took_fan c fan n = pick (ltb fan 4) (with_registers (with_fan c fan n) (compared_fan c.registers fan n)) c

-- F on the parts
pub fan_by_parts : (c : Chip) (fan : ℕ) (n : Option ℕ) → fan < 4 → took_fan c fan n ≡ with_registers (with_fan c fan n) (fan_file c.registers fan n)
unfolding took_fan fan_file
fan_by_parts c fan n h = rw (lt-ltb fan 4 h)

unfoldable pub took_hot : Chip → ℕ → Bool → Chip
took_hot c input hot = with_hot_input c input hot

-- "the address pin's new level"
unfoldable pub took_pin : Chip → ℕ → Chip
took_pin c level = with_pin c (record { level = level; latch = c.pin.latch })

-- "X clears LOCK, sets GMSK, sets the sleep state to S4/S5 (001's reset table), and nothing else."
unfoldable pub reset_file : List ℕ → List ℕ
reset_file file =
    set (set file CONFIGURATION (bit_or (bit_and (get_or file CONFIGURATION 0) (255 - LOCK)) GMSK)) SLEEP_STATE_CONTROL (bit_or (get_or file SLEEP_STATE_CONTROL 0) S4_5)

unfoldable pub took_reset : Chip → Chip
took_reset c = with_registers c (reset_file c.registers)
