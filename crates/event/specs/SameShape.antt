-- What an event keeps: no event changes the setup or how long a list of the chip is, and none but a tick changes the drive.
-- Assumes nothing.
use Rattle.std.specs.Prelude.{◌≡◌, Bool, List, ℕ, ◌-◌, ◌<◌, length, Option}
use Rattle.std.proofs.Math.Path.{refl}
use Rattle.std.proofs.Common.{◌∙◌, ltb-true, length-set}
use Rattle.std.proofs.Math.Bool.{true, false}
use Rattle.std.proofs.Math.Dec.{ltb}
use Rattle.laws.specs.Pick.{pick}
use Rattle.laws.specs.Pointwise.{pick_each}
use Rattle.map.specs.Names.{TEMPERATURE_SOURCE_SELECT}
use Rattle.temperature.specs.declared.Reading.{Reading}
use Rattle.state.specs.declared.Chip.{Chip}
use Rattle.state.specs.declared.Pin.{Pin}
use Rattle.state.specs.Parts.{register_at, in_error}
use Rattle.state.specs.With.{with_registers, with_pin, with_register, with_zone, with_volt, with_in_error, with_fan, with_hot_input}
use Rattle.sense.specs.Missing.{missed}
use Rattle.sense.proofs.Marks.{erred_volt_marks, compared_fan_marks, zone_file_marks}
use Rattle.sense.proofs.Alerts.{missed_marks}
use Rattle.sense.specs.Events.{read_zone, zone_heard, took_temperature, fed_zone, fed_each, read_volt, took_voltage, took_fan, took_hot, took_pin, reset_file, took_reset}
use Rattle.bus.specs.Latch.{transacted}
use Rattle.bus.specs.declared.Change.{Change}
use Rattle.bus.specs.declared.Change.TheVariants.{Nothing, Register, ZoneReading}
use Rattle.bus.specs.Write.{change_of, changed, wrote_register, wrote_byte}
use Rattle.bus.specs.Read.{kept_chip, read_byte}
use Rattle.bus.specs.KeptBytes.{kept_many}
use Rattle.bus.specs.Block.{read_block, wrote_block}
use Rattle.bus.proofs.Blocks.{block_cases}
use Rattle.bus.specs.Transactions.{read_cases, write_cases}
use Rattle.event.specs.declared.Event.{Event}
use Rattle.event.specs.declared.Event.TheVariants.{Temperature, Voltage, Fan, Hot, Pin as PinEvent, Tick, Reset, Write, Read, ReadBlock, WriteBlock}
use Rattle.event.specs.Event.{quiet_step, written_answer, read_answer, seen_block_answer, written_block_answer, taken_step, stepped_chip}
use Rattle.event.specs.Refusal.{step_cases}

-- d has the setup and the drive of c, and lists as long
pub record SameShape (c d : Chip) : Type 0 where
  pub setup : d.setup ≡ c.setup
  pub registers : length d.registers ≡ length c.registers
  pub zones : length d.zones ≡ length c.zones
  pub volts : length d.volts ≡ length c.volts
  pub erring : length d.erring ≡ length c.erring
  pub fans : length d.fans ≡ length c.fans
  pub kept : length d.kept ≡ length c.kept
  pub hot : length d.hot ≡ length c.hot
  pub drive : d.drive ≡ c.drive

-- whatever its pin, and whatever its lists, if they are as long
shape_but : (c : Chip) {r : List ℕ} {z : List Reading} {v f : List (Option ℕ)} {k : List (Option ℕ)} {e h : List Bool} {p : Pin} → length r ≡ length c.registers → length z ≡ length c.zones → length v ≡ length c.volts → length e ≡ length c.erring → length f ≡ length c.fans → length k ≡ length c.kept → length h ≡ length c.hot → SameShape c (record { setup = c.setup; registers = r; zones = z; volts = v; erring = e; fans = f; kept = k; hot = h; pin = p; drive = c.drive })
shape_but c a b d e g i j = record { setup = refl; registers = a; zones = b; volts = d; erring = e; fans = g; kept = i; hot = j; drive = refl }

pub shape_self : (c : Chip) → SameShape c c
shape_self c = shape_but c refl refl refl refl refl refl refl

shape_on : {c d e : Chip} → SameShape c d → SameShape d e → SameShape c e
shape_on p q = record {
  setup = q.setup ∙ p.setup;
  registers = q.registers ∙ p.registers;
  zones = q.zones ∙ p.zones;
  volts = q.volts ∙ p.volts;
  erring = q.erring ∙ p.erring;
  fans = q.fans ∙ p.fans;
  kept = q.kept ∙ p.kept;
  hot = q.hot ∙ p.hot;
  drive = q.drive ∙ p.drive;
}

-- ---- one part replaced

module _ (c : Chip) where
  shape_registers : (f : List ℕ) → length f ≡ length c.registers → SameShape c (with_registers c f)
  shape_registers f e = shape_but c e refl refl refl refl refl refl

  shape_register : (a b : ℕ) → SameShape c (with_register c a b)
  unfolding with_register
  shape_register a b = shape_registers _ (length-set c.registers a b)

  shape_zone : (i : ℕ) (r : Reading) → SameShape c (read_zone c i r)
  unfolding read_zone with_zone
  shape_zone i r = shape_but c (zone_file_marks c.registers i r).long (length-set c.zones i _) refl refl refl refl refl

  shape_volt : (i : ℕ) (n : Option ℕ) → SameShape c (with_volt c i n)
  unfolding with_volt
  shape_volt i n = shape_but c refl refl (length-set c.volts i _) refl refl refl refl

  shape_erring : (i : ℕ) (e : Bool) → SameShape c (with_in_error c i e)
  unfolding with_in_error
  shape_erring i e = shape_but c refl refl refl (length-set c.erring i e) refl refl refl

  shape_fan : (i : ℕ) (n : Option ℕ) → SameShape c (with_fan c i n)
  unfolding with_fan
  shape_fan i n = shape_but c refl refl refl refl (length-set c.fans i _) refl refl

  shape_read : (a : ℕ) → SameShape c (kept_chip c a)
  shape_read a = shape_but c refl refl refl refl refl (kept_many c a) refl

  shape_hot : (i : ℕ) (h : Bool) → SameShape c (with_hot_input c i h)
  unfolding with_hot_input
  shape_hot i h = shape_but c refl refl refl refl refl refl (length-set c.hot i h)

  shape_pin : (p : Pin) → SameShape c (with_pin c p)
  shape_pin p = shape_but c refl refl refl refl refl refl refl

-- ---- the events

change_shape : (c : Chip) (d : Change) → SameShape c (changed c d)
unfolding changed
change_shape c Nothing = shape_self c
change_shape c (Register a byte) = shape_register c a byte
change_shape c (ZoneReading i r) = shape_zone c i r

module _ (c : Chip) where
  fed_shape : (channel : ℕ) (n : Option ℕ) → SameShape c (fed_zone c channel n)
  fed_shape channel n = fed_each (SameShape c) c channel n (shape_zone c 4 _) (shape_zone c 5 _) (shape_self c)

  transacted_shape : (address : ℕ) → SameShape c (transacted c address)
  unfolding transacted
  transacted_shape address = shape_pin c _

  register_shape : (a byte : ℕ) → SameShape c (wrote_register c a byte)
  unfolding wrote_register
  register_shape a byte = change_shape c (change_of c a byte)

module _ (c : Chip) where
  -- the missing marks of a tick
  pub missed_shape : SameShape c (missed c)
  unfolding missed
  missed_shape = shape_registers c _ (missed_marks c).long

  temperature_shape : (zone : ℕ) (r : Reading) → SameShape c (took_temperature c zone r)
  unfolding took_temperature
  temperature_shape zone r =
      pick_each (SameShape c) (zone_heard (register_at c TEMPERATURE_SOURCE_SELECT) zone) (shape_zone c zone r) (shape_self c)

  volt_shape : (channel : ℕ) (n : Option ℕ) → channel < 16 → SameShape c (read_volt c channel n)
  unfolding read_volt with_volt
  volt_shape channel n l =
      shape_on (shape_on (shape_volt c channel n) (shape_registers (with_volt c channel n) _ (erred_volt_marks c.registers channel l (in_error c channel) n).long)) (shape_erring _ channel _)

  voltage_shape : (channel : ℕ) (n : Option ℕ) → SameShape c (took_voltage c channel n)
  unfolding took_voltage
  voltage_shape channel n = go (ltb channel 16) refl
    where
      go : (there : Bool) → ltb channel 16 ≡ there → SameShape c (pick there (fed_zone (read_volt c channel n) channel n) c)
      go true e = shape_on (volt_shape channel n (ltb-true channel 16 e)) (fed_shape _ channel n)
      go false e = shape_self c

  fan_shape : (fan : ℕ) (n : Option ℕ) → SameShape c (took_fan c fan n)
  unfolding took_fan with_fan
  fan_shape fan n =
      pick_each (SameShape c) (ltb fan 4)
      (shape_on (shape_fan c fan n) (shape_registers (with_fan c fan n) _ (compared_fan_marks c.registers fan n).long))
      (shape_self c)

  hot_shape : (input : ℕ) (h : Bool) → SameShape c (took_hot c input h)
  unfolding took_hot
  hot_shape input h = shape_hot c input h

  pin_shape : (level : ℕ) → SameShape c (took_pin c level)
  unfolding took_pin
  pin_shape level = shape_pin c _

  reset_shape : SameShape c (took_reset c)
  unfolding took_reset reset_file
  reset_shape = shape_registers c _ (simp length-set)

  write_shape : (address a byte : ℕ) → SameShape c (wrote_byte c address a byte).chip
  write_shape address a byte =
      write_cases c address (SameShape c) a byte (transacted_shape c address) (shape_on (transacted_shape c address) (register_shape (transacted c address) a byte))

  read_shape : (address a : ℕ) → SameShape c (read_byte c address a).chip
  read_shape address a =
      read_cases c address (SameShape c) a (transacted_shape c address) (shape_on (transacted_shape c address) (shape_read (transacted c address) a))

  read_block_shape : (address command : ℕ) → SameShape c (read_block c address command).chip
  unfolding read_block
  read_block_shape address command = transacted_shape c address

  write_block_shape : (address command : ℕ) (bytes : List ℕ) → SameShape c (wrote_block c address command bytes).chip
  write_block_shape address command bytes =
      block_cases c address command bytes (SameShape c) (transacted_shape c address) (λ d a byte s. shape_on s (register_shape d a byte))

  taken_shape : (e : Event) (bytes : List ℕ) → (e ≡ Tick → ⊥) → SameShape c (taken_step c e bytes).chip
  unfolding taken_step quiet_step written_answer read_answer seen_block_answer written_block_answer
  taken_shape (Temperature zone s) bytes h = temperature_shape (zone - 1) _
  taken_shape (Voltage channel n) bytes h = voltage_shape (channel - 1) n
  taken_shape (Fan fan n) bytes h = fan_shape (fan - 1) n
  taken_shape (Hot input level) bytes h = hot_shape (input - 1) _
  taken_shape (PinEvent level) bytes h = pin_shape _
  taken_shape Tick bytes h = absurd (h refl)
  taken_shape Reset bytes h = reset_shape
  taken_shape (Write address a byte) bytes h = write_shape address a byte
  taken_shape (Read address a) bytes h = read_shape address a
  taken_shape (ReadBlock address command) bytes h = read_block_shape address command
  taken_shape (WriteBlock address command) bytes h = write_block_shape address command bytes

  -- an event other than a tick keeps the setup, the drive and how long the lists are
  pub event_shape : (e : Event) (bytes : List ℕ) → (e ≡ Tick → ⊥) → SameShape c (stepped_chip c e bytes).chip
  event_shape e bytes h = step_cases c e bytes (SameShape c) (shape_self c) (λ z. taken_shape e bytes h)
