-- Document 02, Q-1, "Whole blocks over the bus": lines of blocks and what they print, byte for byte, computed on the definitions.
-- Assumes nothing.
use Rattle.std.specs.Prelude.{◌≡◌, refl, List, [], ◌∷◌, ℕ, zero, suc, replicate}
use Rattle.laws.specs.Every.{every}
use Rattle.laws.specs.Tab.{tab}
use Rattle.map.specs.Tables.{defaults, writables, lock_marks, homes}
use Rattle.map.specs.Map.{writable_of, lock_marked, home_of}
use Rattle.map.specs.Bits.{is_set}
use Rattle.map.specs.Kind.{kind_of}
use Rattle.map.specs.Slave.{slave_address}
use Rattle.map.specs.Blocks.{block_firsts, block_counts, block_of}
use Rattle.temperature.specs.Temperature.{whole_byte}
use Rattle.state.specs.Parts.{register_at, zone_at}
use Rattle.state.specs.With.{with_register}
use Rattle.state.specs.PowerOn.{default_setup, power_on}
use Rattle.bus.specs.Latch.{latch_by, latch_after, transacted_pin, is_ours, transacted}
use Rattle.bus.specs.Write.{stored_byte, stored, change_kind, is_shut, change_home, change_of, changed, wrote_register}
use Rattle.bus.specs.Read.{shown_kind, shown_home, shown_register}
use Rattle.bus.specs.Block.{block_place, block_for, block_bytes, read_block, counted_block, wrote_from, wrote_by, wrote_block}
use Rattle.event.specs.declared.Event.TheVariants.{WriteBlock}
use Rattle.event.specs.Event.{event_in, refusal_of, block_answer, seen_block_answer, written_block_answer, taken_step, stepped_chip}
use Rattle.text.specs.Fields.{first_field, other_fields, fields_of, field_at}
use Rattle.text.specs.Hex.{nibble_of, hex_byte_of, is_hex, hex_value, hexes_spelt, hexes_of}
use Rattle.text.specs.Answers.{digits_text, column_text, hex_digit, hex_text, digit_of, ack_text, no_byte_text, bytes_text, block_text, refusal_text, wrote_length}
use Rattle.parse.specs.Parse.{letter_of, two_by, two_of, three_by, three_of, read_block_by, read_block_line, is_data, write_block_by, write_block_line, event_by, data_by, data_of}
use Rattle.line.specs.Line.{start_session, asked_event, asked_other, asked_by, asked_text, room_for, asked_line, refused_line, begun_line, event_line, judged_by, judged_line, answer_text, answer_room, taken_by, judged_in, taken_line, asked_unless, replied}
use Rattle.state.specs.Refusal.{number_of, number_or_0, number_returned, length_returned}
use Rattle.line.specs.Session.{printed_by, printed_from, printed_unless}

-- n bus fields 00
abbrev zeros : ℕ → List ℕ
zeros zero = []
zeros (suc n) = 9 ∷ 48 ∷ 48 ∷ zeros n

-- G 2C F4: "G prints ack, count and bytes as hex fields", all missing at power-on but the filtered temperatures of 54h and 55h
-- G 2C F1: "or 0 and `--`", "A command not listed is not acknowledged"
-- P 2C F2 00: "A block write whose count differs from the listed one is not acknowledged", the listed one is 8
-- P 2C FA 08 11 22 33 44 55 66 77 88, and G 2C FA: "otherwise it equals its byte writes", "writable bits included"
-- P 80 F2 02 00: "not as many as the count says, is 4", before 2
-- G 80 F2: 2, as of a byte read
-- P 2C F9 21 and 33 bytes 00: "more than 32 data bytes .. is 4"
-- tabs are 9
unfoldable pub block_input : List (List ℕ)
block_input =
    (71 ∷ 9 ∷ 50 ∷ 67 ∷ 9 ∷ 70 ∷ 52 ∷ [])
    ∷ (71 ∷ 9 ∷ 50 ∷ 67 ∷ 9 ∷ 70 ∷ 49 ∷ [])
    ∷ (80 ∷ 9 ∷ 50 ∷ 67 ∷ 9 ∷ 70 ∷ 50 ∷ 9 ∷ 48 ∷ 48 ∷ [])
    ∷ (80 ∷ 9 ∷ 50 ∷ 67 ∷ 9 ∷ 70 ∷ 65 ∷ 9 ∷ 48 ∷ 56 ∷ 9 ∷ 49 ∷ 49 ∷ 9 ∷ 50 ∷ 50 ∷ 9 ∷ 51 ∷ 51 ∷ 9 ∷ 52 ∷ 52 ∷ 9 ∷ 53 ∷ 53 ∷ 9 ∷ 54 ∷ 54 ∷ 9 ∷ 55 ∷ 55 ∷ 9 ∷ 56 ∷ 56 ∷ [])
    ∷ (71 ∷ 9 ∷ 50 ∷ 67 ∷ 9 ∷ 70 ∷ 65 ∷ [])
    ∷ (80 ∷ 9 ∷ 56 ∷ 48 ∷ 9 ∷ 70 ∷ 50 ∷ 9 ∷ 48 ∷ 50 ∷ 9 ∷ 48 ∷ 48 ∷ [])
    ∷ (71 ∷ 9 ∷ 56 ∷ 48 ∷ 9 ∷ 70 ∷ 50 ∷ [])
    ∷ (80 ∷ 9 ∷ 50 ∷ 67 ∷ 9 ∷ 70 ∷ 57 ∷ 9 ∷ 50 ∷ 49 ∷ zeros 33)
    ∷ []

-- G 1 06 80 80 80 80 00 00, G 0 --, P 0, P 1, G 1 08 10 22 30 44 54 66 74 88, E 6 4, E 7 2, E 8 4; line feeds are 10
unfoldable pub block_output : List ℕ
block_output =
    71 ∷ 9 ∷ 49 ∷ 9 ∷ 48 ∷ 54 ∷ 9 ∷ 56 ∷ 48 ∷ 9 ∷ 56 ∷ 48 ∷ 9 ∷ 56 ∷ 48 ∷ 9 ∷ 56 ∷ 48 ∷ 9 ∷ 48 ∷ 48 ∷ 9 ∷ 48 ∷ 48 ∷ 10
    ∷ 71 ∷ 9 ∷ 48 ∷ 9 ∷ 45 ∷ 45 ∷ 10
    ∷ 80 ∷ 9 ∷ 48 ∷ 10
    ∷ 80 ∷ 9 ∷ 49 ∷ 10
    ∷ 71 ∷ 9 ∷ 49 ∷ 9 ∷ 48 ∷ 56 ∷ 9 ∷ 49 ∷ 48 ∷ 9 ∷ 50 ∷ 50 ∷ 9 ∷ 51 ∷ 48 ∷ 9 ∷ 52 ∷ 52 ∷ 9 ∷ 53 ∷ 52 ∷ 9 ∷ 54 ∷ 54 ∷ 9 ∷ 55 ∷ 52 ∷ 9 ∷ 56 ∷ 56 ∷ 10
    ∷ 69 ∷ 9 ∷ 54 ∷ 9 ∷ 52 ∷ 10
    ∷ 69 ∷ 9 ∷ 55 ∷ 9 ∷ 50 ∷ 10
    ∷ 69 ∷ 9 ∷ 56 ∷ 9 ∷ 52 ∷ 10
    ∷ []

pub blocks_printed : printed_from start_session 1 block_input ≡ block_output
unfolding block_input block_output start_session printed_from printed_by printed_unless judged_line judged_by asked_text asked_by asked_event asked_unless asked_other refused_line event_line begun_line answer_text refusal_of event_in event_by letter_of fields_of first_field other_fields field_at read_block_line write_block_line is_data three_of two_of hexes_spelt every is_hex hex_byte_of nibble_of data_of hexes_of tab hex_value stepped_chip taken_step seen_block_answer block_answer read_block written_block_answer wrote_block wrote_by wrote_from counted_block block_for block_of block_firsts block_counts block_bytes block_place wrote_register changed change_of change_home change_kind is_shut stored stored_byte with_register writable_of writables lock_marked lock_marks is_set shown_register shown_home shown_kind whole_byte register_at zone_at kind_of home_of homes transacted transacted_pin latch_after latch_by is_ours slave_address power_on default_setup defaults ack_text digit_of no_byte_text block_text bytes_text hex_text hex_digit refusal_text number_of column_text digits_text
blocks_printed = refl

-- a line from power-on, with that many bytes of room: its refusal and its answer's length
abbrev pub RepliesIn : ℕ → List ℕ → ℕ → ℕ → Type 0
RepliesIn room line number n =
    (number_returned (taken_line start_session line (replicate room 0)).reply ≡ number) × (length_returned (taken_line start_session line (replicate room 0)).reply ≡ n)

-- "for a line that begins with G, an output under 128 bytes is 5, in its old place": GG, which is spelled wrong, and G 2C F6, whose answer
-- has 19 bytes; P 2C F2 00 has enough with 64
pub rooms : RepliesIn 127 (71 ∷ 71 ∷ []) 5 0 × RepliesIn 128 (71 ∷ 71 ∷ []) 4 0 × RepliesIn 127 (71 ∷ 9 ∷ 50 ∷ 67 ∷ 9 ∷ 70 ∷ 54 ∷ []) 5 0 × RepliesIn 128 (71 ∷ 9 ∷ 50 ∷ 67 ∷ 9 ∷ 70 ∷ 54 ∷ []) 0 19 × RepliesIn 64 (80 ∷ 9 ∷ 50 ∷ 67 ∷ 9 ∷ 70 ∷ 50 ∷ 9 ∷ 48 ∷ 48 ∷ []) 0 4
unfolding start_session number_of taken_line taken_by replied judged_in asked_line room_for judged_by asked_text asked_by asked_event asked_unless asked_other refused_line event_line begun_line answer_room answer_text wrote_length refusal_of event_in event_by letter_of fields_of first_field other_fields field_at read_block_line write_block_line is_data three_of two_of hexes_spelt every is_hex hex_byte_of nibble_of data_of hexes_of tab hex_value stepped_chip taken_step seen_block_answer block_answer read_block written_block_answer wrote_block wrote_by counted_block block_for block_of block_firsts block_counts block_bytes block_place shown_register shown_home shown_kind register_at kind_of home_of homes transacted transacted_pin latch_after latch_by is_ours slave_address power_on default_setup defaults ack_text digit_of block_text bytes_text hex_text hex_digit
rooms = ((refl, refl), (refl, refl), (refl, refl), (refl, refl), (refl, refl))

-- "more than 32 data bytes .. is 4", of the library too, before 2 for the address 80h
pub too_many : (number_or_0 (refusal_of (WriteBlock 0x80 0xF2) (replicate 33 0)) ≡ 4) × (number_or_0 (refusal_of (WriteBlock 0x80 0xF2) (replicate 32 0)) ≡ 2)
unfolding number_or_0 number_of refusal_of event_in
too_many = (refl, refl)
