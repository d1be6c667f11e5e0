-- Document 02, Q-7, "Sixteenths of a degree": U and T lines, what shows of them and what the fans do, byte for byte, computed on the
-- definitions. Assumes nothing.
use Rattle.std.specs.Prelude.{◌≡◌, refl, List, [], ◌∷◌, ℕ}
use Rattle.laws.specs.Count.{count_to}
use Rattle.map.specs.Bits.{is_set}
use Rattle.map.specs.FanBytes.{fan_byte_at, byte_of_kind}
use Rattle.map.specs.Kind.{kind_of}
use Rattle.map.specs.Map.{lock_marked, home_of, writable_of}
use Rattle.map.specs.Slave.{slave_address}
use Rattle.map.specs.Tables.{defaults, lock_marks, homes, writables}
use Rattle.temperature.specs.Temperature.{stated_reading, hotter_of, with_half, reading_of, degrees_of, whole_byte, half_set, whole_of, byte_of, is_odd}
use Rattle.state.specs.Parts.{register_at, zone_at, zone_enabled, hot_at}
use Rattle.state.specs.PowerOn.{power_on, at_rest, default_setup}
use Rattle.state.specs.With.{with_zone, with_register}
use Rattle.sense.specs.Errors.{low_limit, high_limit, fan_limit, fan_limit_at}
use Rattle.sense.specs.ZoneLimits.{zone_number, low_temp, high_temp, temps_watched, zone_watched, compared_zone, zone_file}
use Rattle.sense.specs.Events.{took_temperature, zone_heard, zone_three_fed, read_zone}
use Rattle.sense.specs.Missing.{missed, missed_file, missed_volts, missed_fans, missed_volt, missed_fan, volt_watched, fan_watched, missed_zones, missed_zone}
use Rattle.sense.specs.Standing.{alert_active, errors_standing, zone_counts, volt_counts, fan_counts}
use Rattle.bus.specs.Latch.{transacted, transacted_pin, latch_after, latch_by, is_ours}
use Rattle.bus.specs.Read.{read_byte, given_register, given_at, given_byte, shown_register, shown_home, shown_kind, half_byte, kept_after, kept_as}
use Rattle.bus.specs.Write.{wrote_byte, wrote_register, changed, change_of, change_home, change_kind, change_whole, change_half, zone_writable, is_shut, stored, stored_byte}
use Rattle.drive.specs.Boosts.{is_boosted}
use Rattle.drive.specs.Duties.{kicked_fan, loaded_start, fan_duty, tables_ask, bound_largest}
use Rattle.drive.specs.Ramps.{ramped_on, moved_level, delay_of}
use Rattle.drive.specs.Tables.{asked_duty, new_step, settled, not_above, threshold_reached, is_reached, sum_to, table_of, unit_of, followed_zone, zone_one, zone_two, joined_zone}
use Rattle.drive.specs.Tick.{ticked_chip, driven, drive_after, outputs_after, kick_after, duty_of, duty_after, levels_of, ramps_after, ramp_after, any_on, boosts_after, boost_after, asks_after, steps_after, ask_after, step_after, followed}
use Rattle.event.specs.Event.{refusal_of, event_in, index_in, stated_in, reading_within, stepped_chip, taken_step, quiet_step, tick_answer, written_answer, read_answer, seen_answer}
use Rattle.text.specs.Answers.{refusal_text, tick_text, column_text, digits_text, digit_of, ack_text, byte_text, hex_text, hex_digit}
use Rattle.text.specs.Fields.{fields_of, first_field, other_fields, field_at}
use Rattle.text.specs.Hex.{nibble_of, hex_byte_of}
use Rattle.text.specs.Number.{decimal_of, plus_of, minus_of, run_of, all_digits, is_digit, value_of, is_spelt}
use Rattle.parse.specs.Parse.{event_by, letter_of, temperature_line, alone_line, pair_of, spelled_stated, number_at, index_of, data_of, write_line, write_by, read_line, read_by, three_of, three_by, two_of, two_by}
use Rattle.line.specs.Line.{start_session, judged_line, judged_by, asked_text, asked_by, asked_event, refused_line, event_line, begun_line, answer_text, asked_other, asked_unless}
use Rattle.state.specs.Refusal.{number_of}
use Rattle.line.specs.Session.{printed_from, printed_by, printed_unless}

-- Table 1 and table 3 have thresholds at 512, 544, .. sixteenths and a hysteresis of 32; tabs are 9
-- U 1 543, U 5 543, K, R 2C 50, R 2C 10: one threshold is reached, and 33 degrees and a half show
-- U 1 544, K, T 1 68, K: one sixteenth more is at the second threshold, and T 1 68 is the same temperature
-- U 1 511, K: 511 and 32 are 543
-- W 2C 31 10, U 5 600, W 2C 20 80, R 2C 20, W 2C 52 22, R 2C 20, K: with INT_WR_E zone 3 hears no U; its half bit is written as it was, its
-- rest goes to 0; then its whole byte, 34 degrees
-- U 1 2041, U 1 -2033, U 6 0, U 1 -0, U 1 -, K
unfoldable pub fine_input : List (List ℕ)
fine_input =
    (85 ∷ 9 ∷ 49 ∷ 9 ∷ 53 ∷ 52 ∷ 51 ∷ [])
    ∷ (85 ∷ 9 ∷ 53 ∷ 9 ∷ 53 ∷ 52 ∷ 51 ∷ [])
    ∷ (75 ∷ [])
    ∷ (82 ∷ 9 ∷ 50 ∷ 67 ∷ 9 ∷ 53 ∷ 48 ∷ [])
    ∷ (82 ∷ 9 ∷ 50 ∷ 67 ∷ 9 ∷ 49 ∷ 48 ∷ [])
    ∷ (85 ∷ 9 ∷ 49 ∷ 9 ∷ 53 ∷ 52 ∷ 52 ∷ [])
    ∷ (75 ∷ [])
    ∷ (84 ∷ 9 ∷ 49 ∷ 9 ∷ 54 ∷ 56 ∷ [])
    ∷ (75 ∷ [])
    ∷ (85 ∷ 9 ∷ 49 ∷ 9 ∷ 53 ∷ 49 ∷ 49 ∷ [])
    ∷ (75 ∷ [])
    ∷ (87 ∷ 9 ∷ 50 ∷ 67 ∷ 9 ∷ 51 ∷ 49 ∷ 9 ∷ 49 ∷ 48 ∷ [])
    ∷ (85 ∷ 9 ∷ 53 ∷ 9 ∷ 54 ∷ 48 ∷ 48 ∷ [])
    ∷ (87 ∷ 9 ∷ 50 ∷ 67 ∷ 9 ∷ 50 ∷ 48 ∷ 9 ∷ 56 ∷ 48 ∷ [])
    ∷ (82 ∷ 9 ∷ 50 ∷ 67 ∷ 9 ∷ 50 ∷ 48 ∷ [])
    ∷ (87 ∷ 9 ∷ 50 ∷ 67 ∷ 9 ∷ 53 ∷ 50 ∷ 9 ∷ 50 ∷ 50 ∷ [])
    ∷ (82 ∷ 9 ∷ 50 ∷ 67 ∷ 9 ∷ 50 ∷ 48 ∷ [])
    ∷ (75 ∷ [])
    ∷ (85 ∷ 9 ∷ 49 ∷ 9 ∷ 50 ∷ 48 ∷ 52 ∷ 49 ∷ [])
    ∷ (85 ∷ 9 ∷ 49 ∷ 9 ∷ 45 ∷ 50 ∷ 48 ∷ 51 ∷ 51 ∷ [])
    ∷ (85 ∷ 9 ∷ 54 ∷ 9 ∷ 48 ∷ [])
    ∷ (85 ∷ 9 ∷ 49 ∷ 9 ∷ 45 ∷ 48 ∷ [])
    ∷ (85 ∷ 9 ∷ 49 ∷ 9 ∷ 45 ∷ [])
    ∷ (75 ∷ [])
    ∷ []

-- K 0 64 64 128 128 0, R 1 21, R 1 80, K 0 80 64 128 128 0, K 0 80 64 80 64 0, K 0 64 64 64 64 0, W 1, W 1, R 1 80, W 1, R 1 00, K 0 64 80
-- 64 80 0, E 19 2, E 20 2, E 21 2, E 22 4, K 0 256 80 256 80 0; line feeds are 10
unfoldable pub fine_output : List ℕ
fine_output =
    75 ∷ 9 ∷ 48 ∷ 9 ∷ 54 ∷ 52 ∷ 9 ∷ 54 ∷ 52 ∷ 9 ∷ 49 ∷ 50 ∷ 56 ∷ 9 ∷ 49 ∷ 50 ∷ 56 ∷ 9 ∷ 48 ∷ 10
    ∷ 82 ∷ 9 ∷ 49 ∷ 9 ∷ 50 ∷ 49 ∷ 10
    ∷ 82 ∷ 9 ∷ 49 ∷ 9 ∷ 56 ∷ 48 ∷ 10
    ∷ 75 ∷ 9 ∷ 48 ∷ 9 ∷ 56 ∷ 48 ∷ 9 ∷ 54 ∷ 52 ∷ 9 ∷ 49 ∷ 50 ∷ 56 ∷ 9 ∷ 49 ∷ 50 ∷ 56 ∷ 9 ∷ 48 ∷ 10
    ∷ 75 ∷ 9 ∷ 48 ∷ 9 ∷ 56 ∷ 48 ∷ 9 ∷ 54 ∷ 52 ∷ 9 ∷ 56 ∷ 48 ∷ 9 ∷ 54 ∷ 52 ∷ 9 ∷ 48 ∷ 10
    ∷ 75 ∷ 9 ∷ 48 ∷ 9 ∷ 54 ∷ 52 ∷ 9 ∷ 54 ∷ 52 ∷ 9 ∷ 54 ∷ 52 ∷ 9 ∷ 54 ∷ 52 ∷ 9 ∷ 48 ∷ 10
    ∷ 87 ∷ 9 ∷ 49 ∷ 10
    ∷ 87 ∷ 9 ∷ 49 ∷ 10
    ∷ 82 ∷ 9 ∷ 49 ∷ 9 ∷ 56 ∷ 48 ∷ 10
    ∷ 87 ∷ 9 ∷ 49 ∷ 10
    ∷ 82 ∷ 9 ∷ 49 ∷ 9 ∷ 48 ∷ 48 ∷ 10
    ∷ 75 ∷ 9 ∷ 48 ∷ 9 ∷ 54 ∷ 52 ∷ 9 ∷ 56 ∷ 48 ∷ 9 ∷ 54 ∷ 52 ∷ 9 ∷ 56 ∷ 48 ∷ 9 ∷ 48 ∷ 10
    ∷ 69 ∷ 9 ∷ 49 ∷ 57 ∷ 9 ∷ 50 ∷ 10
    ∷ 69 ∷ 9 ∷ 50 ∷ 48 ∷ 9 ∷ 50 ∷ 10
    ∷ 69 ∷ 9 ∷ 50 ∷ 49 ∷ 9 ∷ 50 ∷ 10
    ∷ 69 ∷ 9 ∷ 50 ∷ 50 ∷ 9 ∷ 52 ∷ 10
    ∷ 75 ∷ 9 ∷ 48 ∷ 9 ∷ 50 ∷ 53 ∷ 54 ∷ 9 ∷ 56 ∷ 48 ∷ 9 ∷ 50 ∷ 53 ∷ 54 ∷ 9 ∷ 56 ∷ 48 ∷ 9 ∷ 48 ∷ 10
    ∷ []

pub fine_printed : printed_from start_session 1 fine_input ≡ fine_output
unfolding fine_input fine_output start_session printed_from printed_by printed_unless judged_line judged_by asked_text asked_by asked_event asked_unless refused_line event_line begun_line answer_text refusal_of event_in index_in stated_in reading_within stated_reading event_by letter_of fields_of first_field other_fields field_at alone_line pair_of spelled_stated number_at index_of decimal_of plus_of minus_of run_of all_digits is_digit value_of is_spelt data_of stepped_chip taken_step quiet_step took_temperature zone_heard zone_three_fed read_zone zone_file compared_zone zone_watched temps_watched low_temp high_temp zone_number with_zone tick_answer ticked_chip missed missed_file missed_zones missed_volts missed_fans missed_zone missed_volt missed_fan volt_watched fan_watched low_limit high_limit fan_limit fan_limit_at alert_active errors_standing zone_counts volt_counts fan_counts is_set driven drive_after outputs_after kick_after duty_of duty_after levels_of ramps_after ramp_after any_on boosts_after boost_after kicked_fan loaded_start fan_duty tables_ask bound_largest ramped_on moved_level delay_of is_boosted zone_enabled register_at zone_at hot_at power_on at_rest defaults asks_after steps_after ask_after step_after followed asked_duty new_step settled not_above threshold_reached is_reached sum_to table_of unit_of followed_zone zone_one zone_two joined_zone hotter_of count_to refusal_text number_of tick_text column_text digits_text digit_of asked_other write_line read_line three_of two_of nibble_of hex_byte_of written_answer wrote_byte wrote_register changed change_of change_home change_kind change_whole change_half zone_writable is_shut lock_marked lock_marks kind_of home_of homes with_half reading_of degrees_of stored stored_byte writable_of writables with_register transacted transacted_pin latch_after latch_by is_ours slave_address read_answer seen_answer read_byte given_register given_at given_byte fan_byte_at byte_of_kind shown_register shown_home shown_kind half_byte whole_byte half_set whole_of byte_of is_odd kept_after kept_as ack_text byte_text hex_text hex_digit default_setup
fine_printed = refl
