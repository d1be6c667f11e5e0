-- Worked lines of document 01, and block reads and writes. Assumes nothing.
use Rattle.std.specs.Prelude.{◌≡◌, refl, List, Option, None, Some, [], ◌∷◌, ℕ, pos, negsuc}
use Rattle.laws.specs.Every.{every}
use Rattle.laws.specs.Tab.{tab}
use Rattle.temperature.specs.declared.Stated.TheVariants as stated
use Rattle.event.specs.declared.Event.{Event}
use Rattle.event.specs.declared.Event.TheVariants.{Temperature, Voltage, Pin, Tick, Write, Read, ReadBlock, WriteBlock}
use Rattle.text.specs.Fields.{first_field, other_fields, fields_of, field_at}
use Rattle.text.specs.Number.{is_digit, all_digits, value_of, run_of, plus_of, minus_of, decimal_of}
use Rattle.text.specs.Hex.{nibble_of, hex_byte_of, is_hex, hex_value, hexes_spelt, hexes_of}
use Rattle.parse.specs.Parse.{letter_of, number_at, index_of, spelled_stated, count_of, pair_of, pin_line, alone_line, two_of, three_of, write_line, read_line, read_block_line, is_data, write_block_line, event_by, event_of, data_of}

-- what a line says, by its own letter
abbrev pub said : List ℕ → Option Event
said s = event_of s

-- "T\t1\t70", "T\t5\t-254", "T\t1\t-"; "-0" and a carriage return are wrong spelling
pub temperatures : (said (84 ∷ 9 ∷ 49 ∷ 9 ∷ 55 ∷ 48 ∷ []) ≡ Some (Temperature 1 (stated.Halves (pos 70)))) × (said (84 ∷ 9 ∷ 53 ∷ 9 ∷ 45 ∷ 50 ∷ 53 ∷ 52 ∷ []) ≡ Some (Temperature 5 (stated.Halves (negsuc 253)))) × (said (84 ∷ 9 ∷ 49 ∷ 9 ∷ 45 ∷ []) ≡ Some (Temperature 1 stated.Missing)) × (said (84 ∷ 9 ∷ 49 ∷ 9 ∷ 45 ∷ 48 ∷ []) ≡ None) × (said (84 ∷ 9 ∷ 49 ∷ 9 ∷ 55 ∷ 48 ∷ 13 ∷ []) ≡ None)
unfolding event_by letter_of fields_of first_field other_fields field_at pair_of spelled_stated number_at index_of decimal_of plus_of minus_of run_of all_digits is_digit value_of
temperatures = (refl, refl, refl, refl, refl)

-- "U\t1\t561", "U\t5\t-2032", "U\t1\t-"; "U\t1\t-0" and a "U\t1" are wrong spelling, and so is a small u
pub sixteenths : (said (85 ∷ 9 ∷ 49 ∷ 9 ∷ 53 ∷ 54 ∷ 49 ∷ []) ≡ Some (Temperature 1 (stated.Sixteenths (pos 561)))) × (said (85 ∷ 9 ∷ 53 ∷ 9 ∷ 45 ∷ 50 ∷ 48 ∷ 51 ∷ 50 ∷ []) ≡ Some (Temperature 5 (stated.Sixteenths (negsuc 2031)))) × (said (85 ∷ 9 ∷ 49 ∷ 9 ∷ 45 ∷ []) ≡ Some (Temperature 1 stated.Missing)) × (said (85 ∷ 9 ∷ 49 ∷ 9 ∷ 45 ∷ 48 ∷ []) ≡ None) × (said (85 ∷ 9 ∷ 49 ∷ []) ≡ None) × (said (117 ∷ 9 ∷ 49 ∷ 9 ∷ 45 ∷ []) ≡ None)
unfolding event_by letter_of fields_of first_field other_fields field_at pair_of spelled_stated number_at index_of decimal_of plus_of minus_of run_of all_digits is_digit value_of
sixteenths = (refl, refl, refl, refl, refl, refl)

-- "V\t17\t5" is spelled right, and so is a number of 30 digits: ranges are the event's business
pub voltages : (said (86 ∷ 9 ∷ 49 ∷ 55 ∷ 9 ∷ 53 ∷ []) ≡ Some (Voltage 17 (Some 5))) × (said (86 ∷ 9 ∷ 49 ∷ 9 ∷ 49 ∷ 50 ∷ 51 ∷ 52 ∷ 53 ∷ 54 ∷ 55 ∷ 56 ∷ 57 ∷ 48 ∷ 49 ∷ 50 ∷ 51 ∷ 52 ∷ 53 ∷ 54 ∷ 55 ∷ 56 ∷ 57 ∷ 48 ∷ 49 ∷ 50 ∷ 51 ∷ 52 ∷ 53 ∷ 54 ∷ 55 ∷ 56 ∷ 57 ∷ 48 ∷ []) ≡ Some (Voltage 1 (Some 123456789012345678901234567890)))
unfolding event_by letter_of fields_of first_field other_fields field_at pair_of count_of number_at index_of decimal_of plus_of minus_of run_of all_digits is_digit value_of
voltages = (refl, refl)

-- "A\t-" and "A\t2"
pub pins : (said (65 ∷ 9 ∷ 45 ∷ []) ≡ Some (Pin None)) × (said (65 ∷ 9 ∷ 50 ∷ []) ≡ Some (Pin (Some 2)))
unfolding event_by letter_of fields_of first_field other_fields field_at pin_line count_of number_at decimal_of plus_of minus_of run_of all_digits is_digit value_of
pins = (refl, refl)

-- "W\t2C\tBF\t01" and "R\t2C\t52"; "R\t2C\t-" is wrong spelling
pub transactions : (said (87 ∷ 9 ∷ 50 ∷ 67 ∷ 9 ∷ 66 ∷ 70 ∷ 9 ∷ 48 ∷ 49 ∷ []) ≡ Some (Write 0x2C 0xBF 0x01)) × (said (82 ∷ 9 ∷ 50 ∷ 67 ∷ 9 ∷ 53 ∷ 50 ∷ []) ≡ Some (Read 0x2C 0x52)) × (said (82 ∷ 9 ∷ 50 ∷ 67 ∷ 9 ∷ 45 ∷ []) ≡ None)
unfolding event_by letter_of fields_of first_field other_fields field_at write_line read_line three_of two_of hex_byte_of nibble_of
transactions = (refl, refl, refl)

-- "G\t2C\tF2"; "P\t2C\tF2\t02\t17\tFC" carries two bytes, and "P\t2C\tF2\t00" none
pub blocks : (said (71 ∷ 9 ∷ 50 ∷ 67 ∷ 9 ∷ 70 ∷ 50 ∷ []) ≡ Some (ReadBlock 0x2C 0xF2)) × (said (80 ∷ 9 ∷ 50 ∷ 67 ∷ 9 ∷ 70 ∷ 50 ∷ 9 ∷ 48 ∷ 50 ∷ 9 ∷ 49 ∷ 55 ∷ 9 ∷ 70 ∷ 67 ∷ []) ≡ Some (WriteBlock 0x2C 0xF2)) × (data_of (80 ∷ 9 ∷ 50 ∷ 67 ∷ 9 ∷ 70 ∷ 50 ∷ 9 ∷ 48 ∷ 50 ∷ 9 ∷ 49 ∷ 55 ∷ 9 ∷ 70 ∷ 67 ∷ []) ≡ 0x17 ∷ 0xFC ∷ []) × (said (80 ∷ 9 ∷ 50 ∷ 67 ∷ 9 ∷ 70 ∷ 50 ∷ 9 ∷ 48 ∷ 48 ∷ []) ≡ Some (WriteBlock 0x2C 0xF2)) × (data_of (80 ∷ 9 ∷ 50 ∷ 67 ∷ 9 ∷ 70 ∷ 50 ∷ 9 ∷ 48 ∷ 48 ∷ []) ≡ [])
unfolding event_by data_of letter_of fields_of first_field other_fields field_at read_block_line write_block_line is_data three_of two_of hexes_spelt hexes_of every tab is_hex hex_value hex_byte_of nibble_of
blocks = (refl, refl, refl, refl, refl)

-- "P\t2C\tF2\t02\t17" has a byte too few, "P\t2C\tF2\t00\t17" one too many, and "P\t2C\tF2\t01\t1z" one that is spelled wrong
pub wrong_blocks : (said (80 ∷ 9 ∷ 50 ∷ 67 ∷ 9 ∷ 70 ∷ 50 ∷ 9 ∷ 48 ∷ 50 ∷ 9 ∷ 49 ∷ 55 ∷ []) ≡ None) × (said (80 ∷ 9 ∷ 50 ∷ 67 ∷ 9 ∷ 70 ∷ 50 ∷ 9 ∷ 48 ∷ 48 ∷ 9 ∷ 49 ∷ 55 ∷ []) ≡ None) × (said (80 ∷ 9 ∷ 50 ∷ 67 ∷ 9 ∷ 70 ∷ 50 ∷ 9 ∷ 48 ∷ 49 ∷ 9 ∷ 49 ∷ 122 ∷ []) ≡ None)
unfolding event_by letter_of fields_of first_field other_fields field_at write_block_line is_data three_of two_of hexes_spelt every is_hex hex_byte_of nibble_of
wrong_blocks = (refl, refl, refl)

-- "K"; "K\t1" has a field too many, and an empty line has no letter
pub alone : (said (75 ∷ []) ≡ Some Tick) × (said (75 ∷ 9 ∷ 49 ∷ []) ≡ None) × (said [] ≡ None)
unfolding event_by letter_of fields_of first_field other_fields field_at alone_line
alone = (refl, refl, refl)
