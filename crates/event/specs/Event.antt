-- Document 01, "Events", with the refusal of "Lines and refusals" for numbers out of range, and document 02, Q-1, which adds block reads and
-- block writes, and Q-7, which adds U: one event, by cases. The bytes of a block write stand beside the event; no other event looks at any,
-- but more than 32 are refused beside any event. Assumes nothing.
use Rattle.std.specs.Prelude.{Bool, true, false, List, ℕ, ◌-◌, ◌%◌, eqb, leb, ℤ, pos, negsuc, length, get_or, Option, Some, None}
use Rattle.std.specs.Int.Signed.{le_z}
use Rattle.std.specs.Option.{option_map_or}
use Rattle.laws.specs.Pick.{pick, both}
use Rattle.map.specs.declared.Block.{Block}
use Rattle.temperature.specs.declared.Stated.{Stated}
use Rattle.temperature.specs.declared.Stated.TheVariants as stated
use Rattle.temperature.specs.Temperature.{stated_reading}
use Rattle.state.specs.declared.Chip.{Chip}
use Rattle.state.specs.declared.Refusal.{Refusal}
use Rattle.state.specs.declared.Refusal.TheVariants as refusal
use Rattle.state.specs.Refusal.{number_of}
use Rattle.sense.specs.Missing.{missed}
use Rattle.sense.specs.Standing.{errors_standing, alert_active}
use Rattle.sense.specs.Events.{took_temperature, took_voltage, took_fan, took_hot, took_pin, took_reset}
use Rattle.bus.specs.Write.{Written, wrote_byte}
use Rattle.bus.specs.Read.{Seen, read_byte}
use Rattle.bus.specs.Block.{SeenBlock, read_block, wrote_block}
use Rattle.drive.specs.Tick.{Ticked, ticked_chip}
use Rattle.event.specs.declared.Event.{Event}
use Rattle.event.specs.declared.Event.TheVariants.{Temperature, Voltage, Fan, Hot, Pin, Tick, Reset, Write, Read, ReadBlock, WriteBlock}
use Rattle.event.specs.declared.Answer.{Answer}
use Rattle.event.specs.declared.Answer.TheVariants.{Nothing, Refused, Acknowledged, Byte, Ticked as TickedBy, Block as BlockShown, BlockWritten}
use Rattle.event.specs.declared.Stepped.{Stepped}

-- ---- ranges

-- "zone 1 to 5", "channel 1 to 16", "fan 1 to 4", "input 1 to 4"
unfoldable pub index_in : ℕ → ℕ → Bool
index_in most n = both (leb 1 n) (leb n most)

-- a signed count from least to most
unfoldable pub reading_within : ℤ → ℤ → ℤ → Bool
reading_within least most n = both (le_z least n) (le_z n most)

-- T: "a signed count of half degrees, -254 to 255, or missing"; 02, Q-7: "in sixteenths, -2032 to 2040", "U carries sixteenths .., under T's
-- conditions"
unfoldable pub stated_in : Stated → Bool
stated_in stated.Missing = true
stated_in (stated.Halves h) = reading_within (negsuc 253) (pos 255) h
stated_in (stated.Sixteenths n) = reading_within (negsuc 2031) (pos 2040) n

-- "0 to 255, or missing", "0 to 16383, or missing"
unfoldable pub count_in : ℕ → Option ℕ → Bool
count_in most None = true
count_in most (Some n) = leb n most

-- "0 or 1, never missing", "0 to 2, never missing"
unfoldable pub level_in : ℕ → Option ℕ → Bool
level_in most None = false
level_in most (Some n) = leb n most

-- a level in range is below 256
unfoldable pub level_of : Option ℕ → ℕ
level_of None = 0
level_of (Some n) = n % 256

-- the numbers of each event
abbrev pub temperature_in : ℕ → Stated → Bool
temperature_in zone s = both (index_in 5 zone) (stated_in s)

abbrev pub voltage_in : ℕ → Option ℕ → Bool
voltage_in channel n = both (index_in 16 channel) (count_in 255 n)

abbrev pub fan_in : ℕ → Option ℕ → Bool
fan_in fan n = both (index_in 4 fan) (count_in 16383 n)

abbrev pub hot_in : ℕ → Option ℕ → Bool
hot_in input level = both (index_in 4 input) (level_in 1 level)

-- refused: "address above 7Fh"
abbrev pub address_in : ℕ → Bool
address_in address = leb address 0x7F

unfoldable pub event_in : Event → Bool
event_in (Temperature zone s) = temperature_in zone s
event_in (Voltage channel n) = voltage_in channel n
event_in (Fan fan n) = fan_in fan n
event_in (Hot input level) = hot_in input level
event_in (Pin level) = level_in 2 level
event_in Tick = true
event_in Reset = true
event_in (Write address a byte) = address_in address
event_in (Read address a) = address_in address
event_in (ReadBlock address command) = address_in address
event_in (WriteBlock address command) = address_in address

-- none; refusal 4, 02: "more than 32 data bytes .. is 4"; or refusal 2: "an event number out of range, "-" in H or A, address above 7Fh".
-- "The first that applies, in this order."
unfoldable pub refusal_of : Event → List ℕ → Option Refusal
refusal_of e bytes = pick (leb (length bytes) 32) (pick (event_in e) None (Some refusal.Event)) (Some refusal.Spelling)

-- ---- what an event leaves and answers

-- "The rest print nothing."
unfoldable pub quiet_step : Chip → Stepped
quiet_step c = record { chip = c; answer = Nothing }

-- "It returns its number and length 0; chip and buffers stay."
unfoldable pub refused_step : Chip → Refusal → Stepped
refused_step c r = record { chip = c; answer = Refused r }

-- "K prints alert, duty 1, duty 2, output 1, output 2, errors"
unfoldable pub tick_answer : Ticked → Stepped
tick_answer t = record {
  chip = t.chip;
  answer = TickedBy (record {
    alert = alert_active t.chip.registers;
    duty1 = get_or t.chip.drive.duties 0 0;
    duty2 = get_or t.chip.drive.duties 1 0;
    output1 = get_or t.outputs 0 0;
    output2 = get_or t.outputs 1 0;
    errors = errors_standing t.chip.registers;
  });
}

-- "W prints ack (1 or 0)"
unfoldable pub written_answer : Written → Stepped
written_answer w = record { chip = w.chip; answer = Acknowledged w.ack }

-- "R prints ack and the byte, or `--`"
unfoldable pub seen_answer : Option ℕ → Answer
seen_answer shown = Byte shown

unfoldable pub read_answer : Seen → Stepped
read_answer s = record { chip = s.chip; answer = seen_answer s.shown }

-- 02, Q-1: "G prints ack, count and bytes as hex fields, or 0 and `--`": the bytes are those of the chip that it leaves
unfoldable pub block_answer : Option Block → Answer
block_answer block = BlockShown block

unfoldable pub seen_block_answer : SeenBlock → Stepped
seen_block_answer s = record { chip = s.chip; answer = block_answer s.block }

-- "P prints ack"
unfoldable pub written_block_answer : Written → Stepped
written_block_answer w = record { chip = w.chip; answer = BlockWritten w.ack }

-- ---- one event

-- that is not refused; of K the missing marks come first, then the fans
unfoldable pub taken_step : Chip → Event → List ℕ → Stepped
taken_step c (Temperature zone s) bytes = quiet_step (took_temperature c (zone - 1) (stated_reading s))
taken_step c (Voltage channel n) bytes = quiet_step (took_voltage c (channel - 1) n)
taken_step c (Fan fan n) bytes = quiet_step (took_fan c (fan - 1) n)
taken_step c (Hot input level) bytes = quiet_step (took_hot c (input - 1) (eqb (level_of level) 1))
taken_step c (Pin level) bytes = quiet_step (took_pin c (level_of level))
taken_step c Tick bytes = tick_answer (ticked_chip (missed c))
taken_step c Reset bytes = quiet_step (took_reset c)
taken_step c (Write address a byte) bytes = written_answer (wrote_byte c address a byte)
taken_step c (Read address a) bytes = read_answer (read_byte c address a)
taken_step c (ReadBlock address command) bytes = seen_block_answer (read_block c address command)
taken_step c (WriteBlock address command) bytes = written_block_answer (wrote_block c address command bytes)

-- taken, or refused
unfoldable pub stepped_chip : Chip → Event → List ℕ → Stepped
stepped_chip c e bytes = option_map_or (refused_step c) (refusal_of e bytes) (taken_step c e bytes)

-- "It returns its number", "A taken line returns 0": the number of an answer
unfoldable pub answer_number : Answer → ℕ
answer_number (Refused r) = number_of r
answer_number _ = 0
