-- Document 02, Q-2, "Voltage hysteresis as the chip has it": lines of channel 7 and what they print, byte for byte, computed on the
-- definitions. Assumes nothing.
use Rattle.std.specs.Prelude.{◌≡◌, refl, List, [], ◌∷◌, ℕ}
use Rattle.map.specs.Tables.{defaults, writables, lock_marks, homes}
use Rattle.map.specs.Map.{writable_of, lock_marked, home_of}
use Rattle.map.specs.Bits.{is_set}
use Rattle.map.specs.Kind.{kind_of}
use Rattle.map.specs.Slave.{slave_address}
use Rattle.map.specs.FanBytes.{byte_of_kind, fan_byte_at}
use Rattle.masks.specs.Masks.{state_by, sleep_state, is_masked, volt_masking, volt_masked}
use Rattle.state.specs.Parts.{register_at, in_error}
use Rattle.state.specs.With.{with_register, with_volt, with_in_error}
use Rattle.state.specs.PowerOn.{default_setup, power_on}
use Rattle.sense.specs.Errors.{with_bit, marked_volt, low_limit, high_limit, is_outside, marked}
use Rattle.sense.specs.Hysteresis.{hysteresis_of, low_move, high_move, ends_error, erring_on, erring_after, erred_volt}
use Rattle.sense.specs.Events.{feeds_three, feeds_four, fed_zone, read_volt, took_voltage}
use Rattle.bus.specs.Latch.{latch_by, latch_after, transacted_pin, is_ours, transacted}
use Rattle.bus.specs.Write.{stored_byte, stored, cleared_byte, cleared, change_kind, is_shut, change_home, change_of, changed, wrote_register, wrote_byte}
use Rattle.bus.specs.Read.{shown_kind, shown_home, shown_register, given_at, given_register, read_byte}
use Rattle.event.specs.Event.{event_in, index_in, count_in, refusal_of, quiet_step, written_answer, seen_answer, read_answer, taken_step, stepped_chip}
use Rattle.text.specs.Fields.{first_field, other_fields, fields_of, field_at}
use Rattle.text.specs.Number.{is_digit, all_digits, value_of, run_of, plus_of, minus_of, decimal_of, is_spelt}
use Rattle.text.specs.Hex.{nibble_of, hex_byte_of}
use Rattle.text.specs.Answers.{hex_digit, hex_text, digit_of, ack_text, byte_text}
use Rattle.parse.specs.Parse.{letter_of, number_at, index_of, count_of, pair_of, voltage_line, two_by, two_of, three_by, three_of, write_by, write_line, read_by, read_line, event_by, data_of}
use Rattle.line.specs.Line.{start_session, asked_event, asked_by, asked_text, begun_line, event_line, judged_by, judged_line, answer_text, asked_unless}
use Rattle.line.specs.Session.{printed_by, printed_from, printed_unless}

-- W 2C 9C 50, W 2C 9D 64 and W 2C BC 02: limits 80 and 100, VH 2
-- V 7 79, R 2C 41 and R 2C 49: an error
-- W 2C 41 40, W 2C 49 40, V 7 81, R 2C 41 and R 2C 49: "after 79 an 81 still sets the bit", in both groups
-- W 2C 41 40, W 2C 49 40, V 7 82, V 7 -, V 7 81, R 2C 41 and R 2C 49: "and an 82 does not", and the error is over. "Missing readings
-- neither start" it, so this 81 sets none
-- V 7 101, W 2C 41 40, V 7 99 and R 2C 41: "at most high minus VH", so after 101 a 99 still sets the bit
-- W 2C 41 40, V 7 -, R 2C 41, V 7 81 and R 2C 41: a missing reading sets none without a tick, "nor end it", so this 81 sets the bit
-- W 2C 41 40, V 7 98, R 2C 41 and R 2C 49: a 98 ends it, sets none and clears none: that of the Host group stands since the 101
-- tabs are 9
unfoldable pub volt_input : List (List ℕ)
volt_input =
    (87 ∷ 9 ∷ 50 ∷ 67 ∷ 9 ∷ 57 ∷ 67 ∷ 9 ∷ 53 ∷ 48 ∷ [])
    ∷ (87 ∷ 9 ∷ 50 ∷ 67 ∷ 9 ∷ 57 ∷ 68 ∷ 9 ∷ 54 ∷ 52 ∷ [])
    ∷ (87 ∷ 9 ∷ 50 ∷ 67 ∷ 9 ∷ 66 ∷ 67 ∷ 9 ∷ 48 ∷ 50 ∷ [])
    ∷ (86 ∷ 9 ∷ 55 ∷ 9 ∷ 55 ∷ 57 ∷ [])
    ∷ (82 ∷ 9 ∷ 50 ∷ 67 ∷ 9 ∷ 52 ∷ 49 ∷ [])
    ∷ (82 ∷ 9 ∷ 50 ∷ 67 ∷ 9 ∷ 52 ∷ 57 ∷ [])
    ∷ (87 ∷ 9 ∷ 50 ∷ 67 ∷ 9 ∷ 52 ∷ 49 ∷ 9 ∷ 52 ∷ 48 ∷ [])
    ∷ (87 ∷ 9 ∷ 50 ∷ 67 ∷ 9 ∷ 52 ∷ 57 ∷ 9 ∷ 52 ∷ 48 ∷ [])
    ∷ (86 ∷ 9 ∷ 55 ∷ 9 ∷ 56 ∷ 49 ∷ [])
    ∷ (82 ∷ 9 ∷ 50 ∷ 67 ∷ 9 ∷ 52 ∷ 49 ∷ [])
    ∷ (82 ∷ 9 ∷ 50 ∷ 67 ∷ 9 ∷ 52 ∷ 57 ∷ [])
    ∷ (87 ∷ 9 ∷ 50 ∷ 67 ∷ 9 ∷ 52 ∷ 49 ∷ 9 ∷ 52 ∷ 48 ∷ [])
    ∷ (87 ∷ 9 ∷ 50 ∷ 67 ∷ 9 ∷ 52 ∷ 57 ∷ 9 ∷ 52 ∷ 48 ∷ [])
    ∷ (86 ∷ 9 ∷ 55 ∷ 9 ∷ 56 ∷ 50 ∷ [])
    ∷ (86 ∷ 9 ∷ 55 ∷ 9 ∷ 45 ∷ [])
    ∷ (86 ∷ 9 ∷ 55 ∷ 9 ∷ 56 ∷ 49 ∷ [])
    ∷ (82 ∷ 9 ∷ 50 ∷ 67 ∷ 9 ∷ 52 ∷ 49 ∷ [])
    ∷ (82 ∷ 9 ∷ 50 ∷ 67 ∷ 9 ∷ 52 ∷ 57 ∷ [])
    ∷ (86 ∷ 9 ∷ 55 ∷ 9 ∷ 49 ∷ 48 ∷ 49 ∷ [])
    ∷ (87 ∷ 9 ∷ 50 ∷ 67 ∷ 9 ∷ 52 ∷ 49 ∷ 9 ∷ 52 ∷ 48 ∷ [])
    ∷ (86 ∷ 9 ∷ 55 ∷ 9 ∷ 57 ∷ 57 ∷ [])
    ∷ (82 ∷ 9 ∷ 50 ∷ 67 ∷ 9 ∷ 52 ∷ 49 ∷ [])
    ∷ (87 ∷ 9 ∷ 50 ∷ 67 ∷ 9 ∷ 52 ∷ 49 ∷ 9 ∷ 52 ∷ 48 ∷ [])
    ∷ (86 ∷ 9 ∷ 55 ∷ 9 ∷ 45 ∷ [])
    ∷ (82 ∷ 9 ∷ 50 ∷ 67 ∷ 9 ∷ 52 ∷ 49 ∷ [])
    ∷ (86 ∷ 9 ∷ 55 ∷ 9 ∷ 56 ∷ 49 ∷ [])
    ∷ (82 ∷ 9 ∷ 50 ∷ 67 ∷ 9 ∷ 52 ∷ 49 ∷ [])
    ∷ (87 ∷ 9 ∷ 50 ∷ 67 ∷ 9 ∷ 52 ∷ 49 ∷ 9 ∷ 52 ∷ 48 ∷ [])
    ∷ (86 ∷ 9 ∷ 55 ∷ 9 ∷ 57 ∷ 56 ∷ [])
    ∷ (82 ∷ 9 ∷ 50 ∷ 67 ∷ 9 ∷ 52 ∷ 49 ∷ [])
    ∷ (82 ∷ 9 ∷ 50 ∷ 67 ∷ 9 ∷ 52 ∷ 57 ∷ [])
    ∷ []

-- W 1 three times; R 1 40 twice; W 1 twice, R 1 40 twice; W 1 twice, R 1 00 twice; W 1, R 1 40; W 1, R 1 00, R 1 40; W 1, R 1 00, R 1 40;
-- line feeds are 10
unfoldable pub volt_output : List ℕ
volt_output =
    87 ∷ 9 ∷ 49 ∷ 10 ∷ 87 ∷ 9 ∷ 49 ∷ 10 ∷ 87 ∷ 9 ∷ 49 ∷ 10
    ∷ 82 ∷ 9 ∷ 49 ∷ 9 ∷ 52 ∷ 48 ∷ 10 ∷ 82 ∷ 9 ∷ 49 ∷ 9 ∷ 52 ∷ 48 ∷ 10
    ∷ 87 ∷ 9 ∷ 49 ∷ 10 ∷ 87 ∷ 9 ∷ 49 ∷ 10 ∷ 82 ∷ 9 ∷ 49 ∷ 9 ∷ 52 ∷ 48 ∷ 10 ∷ 82 ∷ 9 ∷ 49 ∷ 9 ∷ 52 ∷ 48 ∷ 10
    ∷ 87 ∷ 9 ∷ 49 ∷ 10 ∷ 87 ∷ 9 ∷ 49 ∷ 10 ∷ 82 ∷ 9 ∷ 49 ∷ 9 ∷ 48 ∷ 48 ∷ 10 ∷ 82 ∷ 9 ∷ 49 ∷ 9 ∷ 48 ∷ 48 ∷ 10
    ∷ 87 ∷ 9 ∷ 49 ∷ 10 ∷ 82 ∷ 9 ∷ 49 ∷ 9 ∷ 52 ∷ 48 ∷ 10
    ∷ 87 ∷ 9 ∷ 49 ∷ 10 ∷ 82 ∷ 9 ∷ 49 ∷ 9 ∷ 48 ∷ 48 ∷ 10 ∷ 82 ∷ 9 ∷ 49 ∷ 9 ∷ 52 ∷ 48 ∷ 10
    ∷ 87 ∷ 9 ∷ 49 ∷ 10 ∷ 82 ∷ 9 ∷ 49 ∷ 9 ∷ 48 ∷ 48 ∷ 10 ∷ 82 ∷ 9 ∷ 49 ∷ 9 ∷ 52 ∷ 48 ∷ 10
    ∷ []

pub volts_printed : printed_from start_session 1 volt_input ≡ volt_output
unfolding volt_input volt_output start_session printed_from printed_by printed_unless judged_line judged_by asked_text asked_by asked_event asked_unless event_line begun_line answer_text refusal_of event_in index_in count_in event_by letter_of fields_of first_field other_fields field_at number_at index_of count_of pair_of write_line three_of read_line two_of is_digit all_digits value_of run_of plus_of minus_of decimal_of is_spelt hex_byte_of nibble_of data_of stepped_chip taken_step quiet_step took_voltage read_volt fed_zone feeds_three feeds_four with_volt with_in_error in_error erred_volt erring_after erring_on ends_error low_move high_move hysteresis_of low_limit high_limit is_outside marked_volt marked volt_masked volt_masking is_masked sleep_state state_by with_bit written_answer wrote_byte wrote_register changed change_of change_home change_kind is_shut stored stored_byte cleared cleared_byte with_register writable_of writables lock_marked lock_marks is_set read_answer seen_answer read_byte given_register given_at fan_byte_at byte_of_kind shown_register shown_home shown_kind register_at kind_of home_of homes transacted transacted_pin latch_after latch_by is_ours slave_address power_on default_setup defaults ack_text byte_text hex_text hex_digit digit_of
volts_printed = refl
