-- Document 02, Q-12, "Sleep masks and temperature limits": lines of zone limits and sleep masks and what they print, byte for byte, computed
-- on the definitions. Assumes nothing.
use Rattle.std.specs.Prelude.{◌≡◌, refl, List, [], ◌∷◌, ℕ}
use Rattle.laws.specs.Count.{count_to}
use Rattle.map.specs.Bits.{is_set}
use Rattle.map.specs.FanBytes.{fan_byte_at, byte_of_kind}
use Rattle.map.specs.Kind.{kind_of}
use Rattle.map.specs.Map.{lock_marked, home_of, writable_of}
use Rattle.map.specs.Slave.{slave_address}
use Rattle.map.specs.Tables.{defaults, lock_marks, homes, writables}
use Rattle.masks.specs.Masks.{state_by, sleep_state, is_masked, asleep_volt, volt_masking, volt_masked, asleep_zone, zone_masking, zone_masked}
use Rattle.temperature.specs.Temperature.{stated_reading, degrees_of}
use Rattle.state.specs.Parts.{register_at, zone_at, zone_enabled, hot_at, in_error}
use Rattle.state.specs.PowerOn.{power_on, at_rest, default_setup}
use Rattle.state.specs.With.{with_zone, with_register, with_volt, with_in_error}
use Rattle.sense.specs.Errors.{low_limit, high_limit, fan_limit, fan_limit_at, with_bit, marked, marked_volt, is_outside}
use Rattle.sense.specs.ZoneLimits.{zone_number, low_temp, high_temp, temps_watched, zone_watched, compared_zone, zone_file, is_beyond, marked_zone}
use Rattle.sense.specs.Events.{took_temperature, zone_heard, zone_three_fed, read_zone, feeds_three, feeds_four, fed_zone, read_volt, took_voltage, reset_file, took_reset}
use Rattle.sense.specs.Hysteresis.{hysteresis_of, low_move, high_move, ends_error, erring_on, erring_after, erred_volt}
use Rattle.sense.specs.Missing.{missed, missed_file, missed_volts, missed_fans, missed_volt, missed_fan, volt_watched, fan_watched, missed_zones, missed_zone}
use Rattle.sense.specs.Standing.{alert_active, errors_standing, zone_counts, volt_counts, fan_counts}
use Rattle.bus.specs.Latch.{transacted, transacted_pin, latch_after, latch_by, is_ours}
use Rattle.bus.specs.Read.{read_byte, given_register, given_at, shown_register, shown_home, shown_kind}
use Rattle.bus.specs.Write.{wrote_byte, wrote_register, changed, change_of, change_home, change_kind, is_shut, stored, stored_byte, cleared_byte, cleared}
use Rattle.drive.specs.Boosts.{is_boosted}
use Rattle.drive.specs.Duties.{kicked_fan, loaded_start, fan_duty, tables_ask, bound_largest}
use Rattle.drive.specs.Ramps.{ramped_on, delay_of}
use Rattle.drive.specs.Tables.{asked_duty, new_step, settled, not_above, threshold_reached, is_reached, sum_to, table_of, unit_of, followed_zone, zone_one, zone_two, joined_zone}
use Rattle.drive.specs.Tick.{ticked_chip, driven, drive_after, outputs_after, kick_after, duty_of, duty_after, levels_of, ramps_after, ramp_after, any_on, boosts_after, boost_after, asks_after, steps_after, ask_after, step_after, followed}
use Rattle.event.specs.Event.{refusal_of, event_in, index_in, stated_in, reading_within, stepped_chip, taken_step, quiet_step, tick_answer, written_answer, read_answer, seen_answer, count_in}
use Rattle.text.specs.Answers.{tick_text, column_text, digits_text, digit_of, ack_text, byte_text, hex_text, hex_digit}
use Rattle.text.specs.Fields.{fields_of, first_field, other_fields, field_at}
use Rattle.text.specs.Hex.{nibble_of, hex_byte_of}
use Rattle.text.specs.Number.{decimal_of, plus_of, minus_of, run_of, all_digits, is_digit, value_of, is_spelt}
use Rattle.parse.specs.Parse.{event_by, letter_of, temperature_line, alone_line, pair_of, spelled_stated, number_at, index_of, data_of, write_line, write_by, read_line, read_by, three_of, three_by, two_of, two_by, voltage_line, count_of}
use Rattle.line.specs.Line.{start_session, judged_line, judged_by, asked_text, asked_by, asked_event, event_line, begun_line, answer_text, asked_unless}
use Rattle.line.specs.Session.{printed_from, printed_by, printed_unless}

-- W 2C 78 14 and W 2C 79 19: limits of 20 and 25 degrees. U 1 400, R 2C 40: 25 degrees are not above 25. U 1 401, R 2C 40, R 2C 48: a sixteenth
-- more is, "in both groups at the event that sets the reading"
-- W 2C 9C 50, W 2C 9D 64, V 7 79, K: limits 80 and 100 of channel 7. "The error count takes in the zone bits": two errors
-- W 2C E4 02, K, R 2C 41: in S3 channel 7 is masked. "one already standing remains until cleared but no longer holds ALERT"; zone 1's does
-- W 2C 41 40, V 7 79, R 2C 41: cleared, and "A masked bit is neither set"
-- W 2C E9 0F, K: bit 3 of E9h masks zone 1, "nor counted"
-- W 2C E4 00, R 2C 41, K: in S0 nothing is masked. Zone 1's bit counts again, and channel 7 is not compared again
-- U 1 -, W 2C 40 01, K: "missing sets it at the tick"
-- X, K, R 2C E4: X sets GMSK and S4/5, where zone 1 is masked by bit 3 of EBh, which is clear; tabs are 9
unfoldable pub mask_input : List (List ℕ)
mask_input =
    (87 ∷ 9 ∷ 50 ∷ 67 ∷ 9 ∷ 55 ∷ 56 ∷ 9 ∷ 49 ∷ 52 ∷ [])
    ∷ (87 ∷ 9 ∷ 50 ∷ 67 ∷ 9 ∷ 55 ∷ 57 ∷ 9 ∷ 49 ∷ 57 ∷ [])
    ∷ (85 ∷ 9 ∷ 49 ∷ 9 ∷ 52 ∷ 48 ∷ 48 ∷ [])
    ∷ (82 ∷ 9 ∷ 50 ∷ 67 ∷ 9 ∷ 52 ∷ 48 ∷ [])
    ∷ (85 ∷ 9 ∷ 49 ∷ 9 ∷ 52 ∷ 48 ∷ 49 ∷ [])
    ∷ (82 ∷ 9 ∷ 50 ∷ 67 ∷ 9 ∷ 52 ∷ 48 ∷ [])
    ∷ (82 ∷ 9 ∷ 50 ∷ 67 ∷ 9 ∷ 52 ∷ 56 ∷ [])
    ∷ (87 ∷ 9 ∷ 50 ∷ 67 ∷ 9 ∷ 57 ∷ 67 ∷ 9 ∷ 53 ∷ 48 ∷ [])
    ∷ (87 ∷ 9 ∷ 50 ∷ 67 ∷ 9 ∷ 57 ∷ 68 ∷ 9 ∷ 54 ∷ 52 ∷ [])
    ∷ (86 ∷ 9 ∷ 55 ∷ 9 ∷ 55 ∷ 57 ∷ [])
    ∷ (75 ∷ [])
    ∷ (87 ∷ 9 ∷ 50 ∷ 67 ∷ 9 ∷ 69 ∷ 52 ∷ 9 ∷ 48 ∷ 50 ∷ [])
    ∷ (75 ∷ [])
    ∷ (82 ∷ 9 ∷ 50 ∷ 67 ∷ 9 ∷ 52 ∷ 49 ∷ [])
    ∷ (87 ∷ 9 ∷ 50 ∷ 67 ∷ 9 ∷ 52 ∷ 49 ∷ 9 ∷ 52 ∷ 48 ∷ [])
    ∷ (86 ∷ 9 ∷ 55 ∷ 9 ∷ 55 ∷ 57 ∷ [])
    ∷ (82 ∷ 9 ∷ 50 ∷ 67 ∷ 9 ∷ 52 ∷ 49 ∷ [])
    ∷ (87 ∷ 9 ∷ 50 ∷ 67 ∷ 9 ∷ 69 ∷ 57 ∷ 9 ∷ 48 ∷ 70 ∷ [])
    ∷ (75 ∷ [])
    ∷ (87 ∷ 9 ∷ 50 ∷ 67 ∷ 9 ∷ 69 ∷ 52 ∷ 9 ∷ 48 ∷ 48 ∷ [])
    ∷ (82 ∷ 9 ∷ 50 ∷ 67 ∷ 9 ∷ 52 ∷ 49 ∷ [])
    ∷ (75 ∷ [])
    ∷ (85 ∷ 9 ∷ 49 ∷ 9 ∷ 45 ∷ [])
    ∷ (87 ∷ 9 ∷ 50 ∷ 67 ∷ 9 ∷ 52 ∷ 48 ∷ 9 ∷ 48 ∷ 49 ∷ [])
    ∷ (75 ∷ [])
    ∷ (88 ∷ [])
    ∷ (75 ∷ [])
    ∷ (82 ∷ 9 ∷ 50 ∷ 67 ∷ 9 ∷ 69 ∷ 52 ∷ [])
    ∷ []

-- W 1 twice, R 1 00, R 1 01 twice; W 1 twice, K 1 0 256 0 256 2; W 1, K 1 0 256 0 256 1, R 1 40; W 1, R 1 00; W 1, K 0 0 256 0 256 0; W 1,
-- R 1 00, K 1 0 256 0 256 1; W 1, K 1 256 256 256 256 1; K 0 256 256 256 256 1, R 1 03; line feeds are 10
unfoldable pub mask_output : List ℕ
mask_output =
    87 ∷ 9 ∷ 49 ∷ 10
    ∷ 87 ∷ 9 ∷ 49 ∷ 10
    ∷ 82 ∷ 9 ∷ 49 ∷ 9 ∷ 48 ∷ 48 ∷ 10
    ∷ 82 ∷ 9 ∷ 49 ∷ 9 ∷ 48 ∷ 49 ∷ 10
    ∷ 82 ∷ 9 ∷ 49 ∷ 9 ∷ 48 ∷ 49 ∷ 10
    ∷ 87 ∷ 9 ∷ 49 ∷ 10
    ∷ 87 ∷ 9 ∷ 49 ∷ 10
    ∷ 75 ∷ 9 ∷ 49 ∷ 9 ∷ 48 ∷ 9 ∷ 50 ∷ 53 ∷ 54 ∷ 9 ∷ 48 ∷ 9 ∷ 50 ∷ 53 ∷ 54 ∷ 9 ∷ 50 ∷ 10
    ∷ 87 ∷ 9 ∷ 49 ∷ 10
    ∷ 75 ∷ 9 ∷ 49 ∷ 9 ∷ 48 ∷ 9 ∷ 50 ∷ 53 ∷ 54 ∷ 9 ∷ 48 ∷ 9 ∷ 50 ∷ 53 ∷ 54 ∷ 9 ∷ 49 ∷ 10
    ∷ 82 ∷ 9 ∷ 49 ∷ 9 ∷ 52 ∷ 48 ∷ 10
    ∷ 87 ∷ 9 ∷ 49 ∷ 10
    ∷ 82 ∷ 9 ∷ 49 ∷ 9 ∷ 48 ∷ 48 ∷ 10
    ∷ 87 ∷ 9 ∷ 49 ∷ 10
    ∷ 75 ∷ 9 ∷ 48 ∷ 9 ∷ 48 ∷ 9 ∷ 50 ∷ 53 ∷ 54 ∷ 9 ∷ 48 ∷ 9 ∷ 50 ∷ 53 ∷ 54 ∷ 9 ∷ 48 ∷ 10
    ∷ 87 ∷ 9 ∷ 49 ∷ 10
    ∷ 82 ∷ 9 ∷ 49 ∷ 9 ∷ 48 ∷ 48 ∷ 10
    ∷ 75 ∷ 9 ∷ 49 ∷ 9 ∷ 48 ∷ 9 ∷ 50 ∷ 53 ∷ 54 ∷ 9 ∷ 48 ∷ 9 ∷ 50 ∷ 53 ∷ 54 ∷ 9 ∷ 49 ∷ 10
    ∷ 87 ∷ 9 ∷ 49 ∷ 10
    ∷ 75 ∷ 9 ∷ 49 ∷ 9 ∷ 50 ∷ 53 ∷ 54 ∷ 9 ∷ 50 ∷ 53 ∷ 54 ∷ 9 ∷ 50 ∷ 53 ∷ 54 ∷ 9 ∷ 50 ∷ 53 ∷ 54 ∷ 9 ∷ 49 ∷ 10
    ∷ 75 ∷ 9 ∷ 48 ∷ 9 ∷ 50 ∷ 53 ∷ 54 ∷ 9 ∷ 50 ∷ 53 ∷ 54 ∷ 9 ∷ 50 ∷ 53 ∷ 54 ∷ 9 ∷ 50 ∷ 53 ∷ 54 ∷ 9 ∷ 49 ∷ 10
    ∷ 82 ∷ 9 ∷ 49 ∷ 9 ∷ 48 ∷ 51 ∷ 10
    ∷ []

pub masks_printed : printed_from start_session 1 mask_input ≡ mask_output
unfolding mask_input mask_output start_session printed_from printed_by printed_unless judged_line judged_by asked_text asked_by asked_event asked_unless event_line begun_line answer_text refusal_of event_in index_in stated_in reading_within stated_reading event_by letter_of fields_of first_field other_fields field_at alone_line pair_of spelled_stated number_at index_of decimal_of plus_of minus_of run_of all_digits is_digit value_of is_spelt data_of stepped_chip taken_step quiet_step took_temperature zone_heard zone_three_fed read_zone zone_file compared_zone zone_watched temps_watched low_temp high_temp zone_number with_zone tick_answer ticked_chip missed missed_file missed_zones missed_volts missed_fans missed_zone missed_volt missed_fan volt_watched fan_watched low_limit high_limit fan_limit fan_limit_at alert_active errors_standing zone_counts volt_counts fan_counts is_set driven drive_after outputs_after kick_after duty_of duty_after levels_of ramps_after ramp_after any_on boosts_after boost_after kicked_fan loaded_start fan_duty tables_ask bound_largest ramped_on delay_of is_boosted zone_enabled register_at zone_at hot_at power_on at_rest defaults asks_after steps_after ask_after step_after followed asked_duty new_step settled not_above threshold_reached is_reached sum_to table_of unit_of followed_zone zone_one zone_two joined_zone count_to tick_text column_text digits_text digit_of write_line read_line three_of two_of nibble_of hex_byte_of written_answer wrote_byte wrote_register changed change_of change_home change_kind is_shut lock_marked lock_marks kind_of home_of homes degrees_of stored stored_byte writable_of writables with_register transacted transacted_pin latch_after latch_by is_ours slave_address read_answer seen_answer read_byte given_register given_at fan_byte_at byte_of_kind shown_register shown_home shown_kind ack_text byte_text hex_text hex_digit default_setup state_by sleep_state is_masked asleep_volt volt_masking volt_masked asleep_zone zone_masking zone_masked with_bit marked marked_volt is_outside hysteresis_of low_move high_move ends_error erring_on erring_after erred_volt feeds_three feeds_four fed_zone read_volt took_voltage reset_file took_reset is_beyond marked_zone in_error with_volt with_in_error cleared_byte cleared count_in count_of
masks_printed = refl
