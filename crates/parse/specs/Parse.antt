-- Document 01, "Lines and refusals", and document 02, Q-1 and Q-7: the event that a line says, and the bytes of a block write. Numbers
-- are exact here, however long they are. Letters: 65 A, 70 F, 71 G, 72 H, 75 K, 80 P, 82 R, 84 T, 85 U, 86 V, 87 W, 88 X. Assumes nothing.
use Rattle.std.specs.Prelude.{ℕ, ◌+◌, min, Bool, List, [], Option, None, Some, eqb, leb, ℤ, pos, neg_ℤ, length, get_or}
use Rattle.std.specs.Option.{option_zip}
use Rattle.laws.specs.Pick.{pick, both}
use Rattle.temperature.specs.declared.Stated.{Stated}
use Rattle.temperature.specs.declared.Stated.TheVariants as stated
use Rattle.event.specs.declared.Event.{Event}
use Rattle.event.specs.declared.Event.TheVariants.{Temperature, Voltage, Fan, Hot, Pin, Tick, Reset, Write, Read, ReadBlock, WriteBlock}
use Rattle.text.specs.declared.Number.{Number}
use Rattle.text.specs.declared.Number.TheVariants as number
use Rattle.text.specs.Fields.{fields_of, field_at}
use Rattle.text.specs.Number.{decimal_of}
use Rattle.text.specs.Hex.{hex_byte_of, hexes_spelt, hexes_of}

-- "Letter first": the one byte of the first field; 0, which is no letter, where it has none or more
unfoldable pub letter_of : List ℕ → ℕ
letter_of s = pick (eqb (length (field_at s 0)) 1) (get_or (field_at s 0) 0 0) 0

-- ---- numbers

-- None where field k is spelled wrong
unfoldable pub number_at : List ℕ → ℕ → Option Number
number_at s k = decimal_of (field_at s k)

-- 'A "-" where none may stand counts as out of range in a decimal field', and so does a number below 0: as 0 for an index
unfoldable pub index_of : Number → ℕ
index_of number.Dash = 0
index_of (number.Plus v) = v
index_of (number.Minus v) = 0

-- '"-" for missing or none'; a number is counted in half degrees or in sixteenths
unfoldable pub spelled_stated : (ℤ → Stated) → Number → Stated
spelled_stated counted number.Dash = stated.Missing
spelled_stated counted (number.Plus v) = counted (pos v)
spelled_stated counted (number.Minus v) = counted (neg_ℤ (pos v))

-- a count below 0 is out of range, as 65535 is
unfoldable pub count_of : Number → Option ℕ
count_of number.Dash = None
count_of (number.Plus v) = Some v
count_of (number.Minus v) = Some 65535

-- ---- lines

-- two numbers, both spelled right
abbrev pub both_of : Option Number → Option Number → Option (Number × Number)
both_of i v = option_zip i v

-- two decimal fields behind the letter, both spelled right
unfoldable pub pair_of : List ℕ → Option (Number × Number)
pair_of s = pick (eqb (length (fields_of s)) 3) (both_of (number_at s 1) (number_at s 2)) None

abbrev pub temperature_line : (ℤ → Stated) → Option (Number × Number) → Option Event
temperature_line counted None = None
temperature_line counted (Some (i, v)) = Some (Temperature (index_of i) (spelled_stated counted v))

abbrev pub voltage_line : Option (Number × Number) → Option Event
voltage_line None = None
voltage_line (Some (i, v)) = Some (Voltage (index_of i) (count_of v))

abbrev pub fan_line : Option (Number × Number) → Option Event
fan_line None = None
fan_line (Some (i, v)) = Some (Fan (index_of i) (count_of v))

abbrev pub hot_line : Option (Number × Number) → Option Event
hot_line None = None
hot_line (Some (i, v)) = Some (Hot (index_of i) (count_of v))

abbrev pub pin_by : Option Number → Option Event
pin_by None = None
pin_by (Some level) = Some (Pin (count_of level))

unfoldable pub pin_line : List ℕ → Option Event
pin_line s = pick (eqb (length (fields_of s)) 2) (pin_by (number_at s 1)) None

-- a letter alone
unfoldable pub alone_line : Event → List ℕ → Option Event
alone_line e s = pick (eqb (length (fields_of s)) 1) (Some e) None

-- "bus fields as two capital hex digits (address, register, data)": the first two
abbrev pub two_by : Option ℕ → Option ℕ → Option (ℕ × ℕ)
two_by None r = None
two_by (Some a) None = None
two_by (Some a) (Some r) = Some (a, r)

unfoldable pub two_of : List ℕ → Option (ℕ × ℕ)
two_of s = two_by (hex_byte_of (field_at s 1)) (hex_byte_of (field_at s 2))

-- and three
abbrev pub three_by : Option (ℕ × ℕ) → Option ℕ → Option (ℕ × ℕ × ℕ)
three_by None b = None
three_by (Some (a, r)) None = None
three_by (Some (a, r)) (Some b) = Some (a, r, b)

unfoldable pub three_of : List ℕ → Option (ℕ × ℕ × ℕ)
three_of s = three_by (two_of s) (hex_byte_of (field_at s 3))

abbrev pub write_by : Option (ℕ × ℕ × ℕ) → Option Event
write_by None = None
write_by (Some (a, r, b)) = Some (Write a r b)

unfoldable pub write_line : List ℕ → Option Event
write_line s = pick (eqb (length (fields_of s)) 4) (write_by (three_of s)) None

abbrev pub read_by : Option (ℕ × ℕ) → Option Event
read_by None = None
read_by (Some (a, r)) = Some (Read a r)

unfoldable pub read_line : List ℕ → Option Event
read_line s = pick (eqb (length (fields_of s)) 3) (read_by (two_of s)) None

-- 02: "G carries address and command", "all in hex"
abbrev pub read_block_by : Option (ℕ × ℕ) → Option Event
read_block_by None = None
read_block_by (Some (a, command)) = Some (ReadBlock a command)

unfoldable pub read_block_line : List ℕ → Option Event
read_block_line s = pick (eqb (length (fields_of s)) 3) (read_block_by (two_of s)) None

-- 02: "P also the count and the data bytes, all in hex"; "more than 32 data bytes, or not as many as the count says, is 4"
unfoldable pub is_data : ℕ → List ℕ → Bool
is_data n s = both (leb n 32) (both (eqb (length (fields_of s)) (4 + n)) (hexes_spelt s 4 n))

abbrev pub write_block_by : Option (ℕ × ℕ × ℕ) → List ℕ → Option Event
write_block_by None s = None
write_block_by (Some (a, command, n)) s = pick (is_data n s) (Some (WriteBlock a command)) None

unfoldable pub write_block_line : List ℕ → Option Event
write_block_line s = write_block_by (three_of s) s

-- the event that a line says by this letter; any other letter is wrong spelling. 02, Q-7: "A new letter U carries sixteenths for zones 1 to
-- 5, under T's conditions; T keeps half degrees."
unfoldable pub event_by : ℕ → List ℕ → Option Event
event_by letter s =
    pick (eqb letter 65) (pin_line s)
    (pick (eqb letter 70) (fan_line (pair_of s))
    (pick (eqb letter 71) (read_block_line s)
    (pick (eqb letter 72) (hot_line (pair_of s))
    (pick (eqb letter 75) (alone_line Tick s)
    (pick (eqb letter 80) (write_block_line s)
    (pick (eqb letter 82) (read_line s)
    (pick (eqb letter 84) (temperature_line stated.Halves (pair_of s))
    (pick (eqb letter 85) (temperature_line stated.Sixteenths (pair_of s))
    (pick (eqb letter 86) (voltage_line (pair_of s))
    (pick (eqb letter 87) (write_line s)
    (pick (eqb letter 88) (alone_line Reset s) None)))))))))))

abbrev pub event_of : List ℕ → Option Event
event_of s = event_by (letter_of s) s

-- ---- the bytes beside the event

-- those that a P line carries, as many as its count says; it says no event with more than 32
abbrev pub data_by : Option (ℕ × ℕ × ℕ) → List ℕ → List ℕ
data_by None s = []
data_by (Some (a, command, n)) s = hexes_of s 4 (min n 32)

-- of a line that does not begin with P none
unfoldable pub data_of : List ℕ → List ℕ
data_of s = pick (eqb (get_or s 0 0) 80) (data_by (three_of s) s) []
