-- Document 02, Q-4, "Fan counts that are not torn": lines of fan counts and what they print, byte for byte, computed on the definitions.
-- Assumes nothing.
use Rattle.std.specs.Prelude.{◌≡◌, refl, List, [], ◌∷◌, ℕ}
use Rattle.laws.specs.Tab.{tab}
use Rattle.map.specs.Tables.{defaults, homes}
use Rattle.map.specs.Map.{home_of}
use Rattle.map.specs.Kind.{kind_of}
use Rattle.map.specs.Slave.{slave_address}
use Rattle.map.specs.FanBytes.{byte_of_kind, fan_byte_at}
use Rattle.map.specs.Blocks.{block_firsts, block_counts, block_of}
use Rattle.state.specs.Parts.{fan_at, kept_at}
use Rattle.state.specs.With.{with_fan}
use Rattle.state.specs.PowerOn.{default_setup, power_on}
use Rattle.sense.specs.Errors.{fan_limit, fan_limit_at, compared_fan}
use Rattle.sense.specs.Events.{took_fan, reset_file, took_reset}
use Rattle.bus.specs.Latch.{latch_by, latch_after, transacted_pin, is_ours, transacted}
use Rattle.bus.specs.Read.{fan_word, low_byte, high_byte, shown_kind, shown_home, shown_register, given_byte, given_at, given_register, kept_as, kept_after, read_byte}
use Rattle.bus.specs.Block.{block_place, block_for, block_bytes, read_block}
use Rattle.event.specs.Event.{event_in, index_in, count_in, refusal_of, quiet_step, seen_answer, read_answer, block_answer, seen_block_answer, taken_step, stepped_chip}
use Rattle.text.specs.Fields.{first_field, other_fields, fields_of, field_at}
use Rattle.text.specs.Number.{is_digit, all_digits, value_of, run_of, plus_of, minus_of, decimal_of, is_spelt}
use Rattle.text.specs.Hex.{nibble_of, hex_byte_of}
use Rattle.text.specs.Answers.{hex_digit, hex_text, digit_of, byte_text, no_byte_text, bytes_text, block_text}
use Rattle.parse.specs.Parse.{letter_of, number_at, index_of, count_of, pair_of, fan_line, alone_line, two_by, two_of, read_by, read_line, read_block_by, read_block_line, event_by, data_by, data_of}
use Rattle.line.specs.Line.{start_session, asked_event, asked_other, asked_by, asked_text, begun_line, event_line, judged_by, judged_line, answer_text, asked_unless}
use Rattle.line.specs.Session.{printed_by, printed_from, printed_unless}

-- F 1 4660, which is 48h and D0h, and R 2C 6F: "power-on starts with none", "A high byte read without one kept is the present one"
-- R 2C 6E: "A read of a fan count's low byte shall keep the matching high byte"
-- F 1 3000, which is 2Eh and E0h, and X: "X leaves it"
-- G 2C F7: "Block reads .. show the present byte and neither keep nor drop one"
-- R 2D 6F and R 2C 71: a read that is not acknowledged, and one of another fan, leave it
-- R 2C 6F twice: "the next read of that high byte gives the kept one and drops it"
-- R 2C 72, F 3 4660 and R 2C 73: a missing count keeps the FFh that it shows; tabs are 9
unfoldable pub fan_input : List (List ℕ)
fan_input =
    (70 ∷ 9 ∷ 49 ∷ 9 ∷ 52 ∷ 54 ∷ 54 ∷ 48 ∷ [])
    ∷ (82 ∷ 9 ∷ 50 ∷ 67 ∷ 9 ∷ 54 ∷ 70 ∷ [])
    ∷ (82 ∷ 9 ∷ 50 ∷ 67 ∷ 9 ∷ 54 ∷ 69 ∷ [])
    ∷ (70 ∷ 9 ∷ 49 ∷ 9 ∷ 51 ∷ 48 ∷ 48 ∷ 48 ∷ [])
    ∷ (88 ∷ [])
    ∷ (71 ∷ 9 ∷ 50 ∷ 67 ∷ 9 ∷ 70 ∷ 55 ∷ [])
    ∷ (82 ∷ 9 ∷ 50 ∷ 68 ∷ 9 ∷ 54 ∷ 70 ∷ [])
    ∷ (82 ∷ 9 ∷ 50 ∷ 67 ∷ 9 ∷ 55 ∷ 49 ∷ [])
    ∷ (82 ∷ 9 ∷ 50 ∷ 67 ∷ 9 ∷ 54 ∷ 70 ∷ [])
    ∷ (82 ∷ 9 ∷ 50 ∷ 67 ∷ 9 ∷ 54 ∷ 70 ∷ [])
    ∷ (82 ∷ 9 ∷ 50 ∷ 67 ∷ 9 ∷ 55 ∷ 50 ∷ [])
    ∷ (70 ∷ 9 ∷ 51 ∷ 9 ∷ 52 ∷ 54 ∷ 54 ∷ 48 ∷ [])
    ∷ (82 ∷ 9 ∷ 50 ∷ 67 ∷ 9 ∷ 55 ∷ 51 ∷ [])
    ∷ []

-- R 1 48, R 1 D0, G 1 08 E0 2E FC FF FC FF FC FF, R 0 --, R 1 FF, R 1 48, R 1 2E, R 1 FC, R 1 FF; line feeds are 10
unfoldable pub fan_output : List ℕ
fan_output =
    82 ∷ 9 ∷ 49 ∷ 9 ∷ 52 ∷ 56 ∷ 10
    ∷ 82 ∷ 9 ∷ 49 ∷ 9 ∷ 68 ∷ 48 ∷ 10
    ∷ 71 ∷ 9 ∷ 49 ∷ 9 ∷ 48 ∷ 56 ∷ 9 ∷ 69 ∷ 48 ∷ 9 ∷ 50 ∷ 69 ∷ 9 ∷ 70 ∷ 67 ∷ 9 ∷ 70 ∷ 70 ∷ 9 ∷ 70 ∷ 67 ∷ 9 ∷ 70 ∷ 70 ∷ 9 ∷ 70 ∷ 67 ∷ 9 ∷ 70 ∷ 70 ∷ 10
    ∷ 82 ∷ 9 ∷ 48 ∷ 9 ∷ 45 ∷ 45 ∷ 10
    ∷ 82 ∷ 9 ∷ 49 ∷ 9 ∷ 70 ∷ 70 ∷ 10
    ∷ 82 ∷ 9 ∷ 49 ∷ 9 ∷ 52 ∷ 56 ∷ 10
    ∷ 82 ∷ 9 ∷ 49 ∷ 9 ∷ 50 ∷ 69 ∷ 10
    ∷ 82 ∷ 9 ∷ 49 ∷ 9 ∷ 70 ∷ 67 ∷ 10
    ∷ 82 ∷ 9 ∷ 49 ∷ 9 ∷ 70 ∷ 70 ∷ 10
    ∷ []

pub fans_printed : printed_from start_session 1 fan_input ≡ fan_output
unfolding fan_input fan_output start_session printed_from printed_by printed_unless judged_line judged_by asked_text asked_by asked_event asked_unless asked_other event_line begun_line answer_text refusal_of event_in index_in count_in event_by letter_of fields_of first_field other_fields field_at number_at index_of count_of pair_of alone_line read_line read_block_line two_of is_digit all_digits value_of run_of plus_of minus_of decimal_of is_spelt hex_byte_of nibble_of data_of stepped_chip taken_step quiet_step took_fan with_fan compared_fan fan_limit_at fan_limit took_reset reset_file read_answer seen_answer read_byte given_register given_at given_byte kept_after kept_as fan_byte_at byte_of_kind seen_block_answer block_answer read_block block_for block_of block_firsts block_counts block_bytes block_place tab shown_register shown_home shown_kind low_byte high_byte fan_word fan_at kept_at kind_of home_of homes transacted transacted_pin latch_after latch_by is_ours slave_address power_on default_setup defaults byte_text no_byte_text block_text bytes_text hex_text hex_digit digit_of
fans_printed = refl
