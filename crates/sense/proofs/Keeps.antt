-- What each event, and a tick's marks, leave as it was. None of them changes the setup or the drive, and error bits that stand stay.
-- Assumes nothing.
use Rattle.std.specs.Prelude.{◌≡◌, refl, ◌≢◌, Bool, true, false, ℕ, ◌≤◌, ◌<◌, ltb, Option}
use Rattle.std.proofs.Common.{◌∙◌, arith, ltb-true, get_or-set_other}
use Rattle.laws.specs.Pick.{pick}
use Rattle.laws.specs.Pointwise.{pick_each}
use Rattle.map.specs.Names.{TEMPERATURE_SOURCE_SELECT}
use Rattle.temperature.specs.declared.Reading.{Reading}
use Rattle.state.specs.declared.Chip.{Chip}
use Rattle.state.specs.Parts.{no_zone, no_gauge, register_at, zone_at, volt_at, in_error, fan_at}
use Rattle.state.specs.With.{with_registers, with_zone, with_volt, with_in_error, with_fan}
use Rattle.sense.specs.Errors.{compared_fan}
use Rattle.sense.specs.Events.{read_zone, zone_heard, took_temperature, volt_reading, fed_zone, fed_each, read_volt, took_voltage, took_fan}
use Rattle.sense.specs.Marks.{marks_none, marks_then}
use Rattle.sense.proofs.Marks.{erred_volt_marks, compared_fan_marks, zone_file_marks}
use Rattle.sense.specs.Keeps.{TemperatureKeeps, VoltageKeeps, FanKeeps}

zone_other : (c : Chip) (zone i : ℕ) (r : Reading) → i ≢ zone → zone_at (with_zone c zone r) i ≡ zone_at c i
unfolding zone_at with_zone
zone_other c zone i r n = get_or-set_other c.zones zone i r no_zone n

temperature_same : (c : Chip) (zone : ℕ) → TemperatureKeeps c c zone
temperature_same c zone =
    record { setup = refl; registers = marks_none c.registers; zones = λ i n. refl; volts = refl; erring = refl; fans = refl; kept = refl; hot = refl; pin = refl; drive = refl }

temperature_set : (c : Chip) (zone : ℕ) (r : Reading) → TemperatureKeeps c (read_zone c zone r) zone
unfolding read_zone with_zone zone_at
temperature_set c zone r =
    record { setup = refl; registers = zone_file_marks c.registers zone r; zones = λ i n. zone_other c zone i r n; volts = refl; erring = refl; fans = refl; kept = refl; hot = refl; pin = refl; drive = refl }

pub temperature_keeps : (c : Chip) (zone : ℕ) (r : Reading) → TemperatureKeeps c (took_temperature c zone r) zone
unfolding took_temperature
temperature_keeps c zone r =
    pick_each (λ (d : Chip). TemperatureKeeps c d zone) (zone_heard (register_at c TEMPERATURE_SOURCE_SELECT) zone) (temperature_set c zone r) (temperature_same c zone)

voltage_same : (c : Chip) (channel : ℕ) → VoltageKeeps c c channel
voltage_same c channel =
    record { setup = refl; registers = marks_none c.registers; zones = λ i l. refl; volts = λ i o. refl; erring = λ i o. refl; fans = refl; kept = refl; hot = refl; pin = refl; drive = refl }

voltage_set : (c : Chip) (channel : ℕ) (n : Option ℕ) → channel < 16 → VoltageKeeps c (read_volt c channel n) channel
unfolding read_volt with_volt with_in_error volt_at in_error zone_at
voltage_set c channel n l = record {
  setup = refl;
  registers = erred_volt_marks c.registers channel l (in_error c channel) n;
  zones = λ i l. refl;
  volts = λ i o. get_or-set_other c.volts channel i n no_gauge o;
  erring = λ i o. get_or-set_other c.erring channel i _ false o;
  fans = refl;
  kept = refl;
  hot = refl;
  pin = refl;
  drive = refl;
}

-- a zone past the first four as well
voltage_feeds : (c d : Chip) (channel zone : ℕ) (r : Reading) → 4 ≤ zone → VoltageKeeps c d channel → VoltageKeeps c (read_zone d zone r) channel
unfolding read_zone with_zone zone_at volt_at in_error
voltage_feeds c d channel zone r p k = record {
  setup = k.setup;
  registers = marks_then k.registers (zone_file_marks d.registers zone r);
  zones = λ i l. zone_other d zone i r (λ e. omega arith) ∙ k.zones i l;
  volts = k.volts;
  erring = k.erring;
  fans = k.fans;
  kept = k.kept;
  hot = k.hot;
  pin = k.pin;
  drive = k.drive;
}

fed_keeps : (c d : Chip) (channel : ℕ) (n : Option ℕ) → VoltageKeeps c d channel → VoltageKeeps c (fed_zone d channel n) channel
fed_keeps c d channel n k =
    fed_each (λ (e : Chip). VoltageKeeps c e channel) d channel n (voltage_feeds c d channel 4 (volt_reading n) (omega arith) k) (voltage_feeds c d channel 5 (volt_reading n) (omega arith) k) k

pub voltage_keeps : (c : Chip) (channel : ℕ) (n : Option ℕ) → VoltageKeeps c (took_voltage c channel n) channel
unfolding took_voltage
voltage_keeps c channel n = go (ltb channel 16) refl
  where
    go : (there : Bool) → ltb channel 16 ≡ there → VoltageKeeps c (pick there (fed_zone (read_volt c channel n) channel n) c) channel
    go true e = fed_keeps c _ channel n (voltage_set c channel n (ltb-true channel 16 e))
    go false e = voltage_same c channel

pub fan_keeps : (c : Chip) (fan : ℕ) (n : Option ℕ) → FanKeeps c (took_fan c fan n) fan
unfolding took_fan with_fan fan_at
fan_keeps c fan n = go (ltb fan 4)
  where
    go : (there : Bool) → FanKeeps c (pick there (with_registers (with_fan c fan n) (compared_fan c.registers fan n)) c) fan
    go true = record {
      setup = refl;
      registers = compared_fan_marks c.registers fan n;
      zones = refl;
      volts = refl;
      erring = refl;
      fans = λ i o. get_or-set_other c.fans fan i n no_gauge o;
      kept = refl;
      hot = refl;
      pin = refl;
      drive = refl;
    }
    go false = record { setup = refl; registers = marks_none c.registers; zones = refl; volts = refl; erring = refl; fans = λ i o. refl; kept = refl; hot = refl; pin = refl; drive = refl }
