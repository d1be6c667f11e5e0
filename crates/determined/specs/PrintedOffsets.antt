-- Document 02, Q-6, "Offsets up to 63": S lines, readings behind them and what they print, byte for byte, computed on the definitions. Assumes
-- nothing.
use Rattle.std.specs.Prelude.{◌≡◌, refl, List, [], ◌∷◌, ◌++◌, ℕ, zero, suc}
use Rattle.laws.specs.Count.{count_to}
use Rattle.laws.specs.Every.{every}
use Rattle.laws.specs.Tab.{tab}
use Rattle.map.specs.Tables.{defaults}
use Rattle.map.specs.Bits.{is_set}
use Rattle.temperature.specs.Temperature.{stated_reading, hotter_of}
use Rattle.state.specs.Parts.{register_at, zone_at, zone_enabled, hot_at}
use Rattle.state.specs.With.{with_zone}
use Rattle.state.specs.PowerOn.{power_on, at_rest}
use Rattle.sense.specs.Errors.{low_limit, high_limit, fan_limit, fan_limit_at}
use Rattle.sense.specs.ZoneLimits.{zone_number, low_temp, high_temp, temps_watched, zone_watched, compared_zone, zone_file}
use Rattle.sense.specs.Missing.{volt_watched, fan_watched, missed_volt, missed_fan, missed_volts, missed_fans, missed_file, missed, missed_zones, missed_zone}
use Rattle.sense.specs.Standing.{zone_counts, volt_counts, fan_counts, errors_standing, alert_active}
use Rattle.sense.specs.Events.{zone_three_fed, zone_heard, took_temperature, read_zone}
use Rattle.drive.specs.Tables.{joined_zone, zone_one, zone_two, followed_zone, unit_of, table_of, sum_to, is_reached, threshold_reached, not_above, settled, new_step, asked_duty}
use Rattle.drive.specs.Boosts.{is_boosted}
use Rattle.drive.specs.Ramps.{delay_of, moved_level, ramped_on}
use Rattle.drive.specs.Duties.{bound_largest, tables_ask, fan_duty, loaded_start, kicked_fan}
use Rattle.drive.specs.Tick.{followed, step_after, ask_after, steps_after, asks_after, boost_after, boosts_after, any_on, ramp_after, ramps_after, levels_of, duty_after, duty_of, kick_after, drive_after, outputs_after, driven, ticked_chip}
use Rattle.event.specs.Event.{event_in, index_in, reading_within, stated_in, refusal_of, quiet_step, tick_answer, taken_step, stepped_chip}
use Rattle.text.specs.Fields.{first_field, other_fields, fields_of, field_at}
use Rattle.text.specs.Number.{is_digit, all_digits, value_of, run_of, plus_of, minus_of, decimal_of, is_spelt}
use Rattle.text.specs.Answers.{digits_text, column_text, digit_of, tick_text, refusal_text}
use Rattle.parse.specs.Parse.{letter_of, number_at, index_of, spelled_stated, pair_of, temperature_line, alone_line, event_by, data_of}
use Rattle.settings.specs.Settings.{setting_at, range_of, is_within, plain_of, signed_of, none_or, setup_by, rises_by, refused_settings, is_setup, settings_of}
use Rattle.settings.specs.Cases.{zeros}
use Rattle.line.specs.Line.{start_session, asked_event, asked_settings, asked_other, asked_by, asked_text, refused_line, begun_line, setup_line, event_line, judged_by, judged_line, answer_text, asked_unless}
use Rattle.state.specs.Refusal.{number_of}
use Rattle.line.specs.Session.{printed_by, printed_from, printed_unless}

-- n fields so spelled
abbrev fields : ℕ → List ℕ → List ℕ
fields zero spelled = []
fields (suc n) spelled = 9 ∷ spelled ++ fields n spelled

-- S, level 0, bases 127, -127, 0 and 0; twelve offsets so spelled and twelve of 0; hystereses 15 and 15; the duties 0 to 12, by which a step is
-- seen; no boost, boost hysteresis 0; fan 1 bound to table 1 and fan 2 to table 2; no override, no kick. Tabs are 9
abbrev with_offsets : List ℕ → List ℕ
with_offsets spelled =
    (83 ∷ 9 ∷ 48 ∷ 9 ∷ 49 ∷ 50 ∷ 55 ∷ 9 ∷ 45 ∷ 49 ∷ 50 ∷ 55 ∷ zeros 2)
    ++ (fields 12 spelled
    ++ (zeros 12
    ++ (fields 2 (49 ∷ 53 ∷ [])
    ++ ((9 ∷ 48 ∷ 9 ∷ 49 ∷ 9 ∷ 50 ∷ 9 ∷ 51 ∷ 9 ∷ 52 ∷ 9 ∷ 53 ∷ 9 ∷ 54 ∷ 9 ∷ 55 ∷ 9 ∷ 56 ∷ 9 ∷ 57 ∷ 9 ∷ 49 ∷ 48 ∷ 9 ∷ 49 ∷ 49 ∷ 9 ∷ 49 ∷ 50 ∷ [])
    ++ (fields 6 (45 ∷ [])
    ++ (9 ∷ 48 ∷ 9 ∷ 49 ∷ 9 ∷ 50 ∷ fields 2 (45 ∷ []) ++ zeros 4))))))

-- the S line with offsets of 64, then of 63. T 1 255, T 3 -254, K: 380 half degrees and more no reading reaches, and -254 is below -128
-- T 1 -, T 3 -128, K: missing is step 12 and 256, and -128 is reached
-- T 1 255, T 3 255, K: 255 and 30 are below 380, and -128, -2, 124 and 250 are reached
unfoldable pub offset_input : List (List ℕ)
offset_input =
    with_offsets (54 ∷ 52 ∷ [])
    ∷ with_offsets (54 ∷ 51 ∷ [])
    ∷ (84 ∷ 9 ∷ 49 ∷ 9 ∷ 50 ∷ 53 ∷ 53 ∷ [])
    ∷ (84 ∷ 9 ∷ 51 ∷ 9 ∷ 45 ∷ 50 ∷ 53 ∷ 52 ∷ [])
    ∷ (75 ∷ [])
    ∷ (84 ∷ 9 ∷ 49 ∷ 9 ∷ 45 ∷ [])
    ∷ (84 ∷ 9 ∷ 51 ∷ 9 ∷ 45 ∷ 49 ∷ 50 ∷ 56 ∷ [])
    ∷ (75 ∷ [])
    ∷ (84 ∷ 9 ∷ 49 ∷ 9 ∷ 50 ∷ 53 ∷ 53 ∷ [])
    ∷ (84 ∷ 9 ∷ 51 ∷ 9 ∷ 50 ∷ 53 ∷ 53 ∷ [])
    ∷ (75 ∷ [])
    ∷ []

-- E 1 1, K 0 0 0 0 0 0, K 0 256 1 256 1 0, K 0 0 4 0 4 0; line feeds are 10
unfoldable pub offset_output : List ℕ
offset_output =
    69 ∷ 9 ∷ 49 ∷ 9 ∷ 49 ∷ 10
    ∷ 75 ∷ 9 ∷ 48 ∷ 9 ∷ 48 ∷ 9 ∷ 48 ∷ 9 ∷ 48 ∷ 9 ∷ 48 ∷ 9 ∷ 48 ∷ 10
    ∷ 75 ∷ 9 ∷ 48 ∷ 9 ∷ 50 ∷ 53 ∷ 54 ∷ 9 ∷ 49 ∷ 9 ∷ 50 ∷ 53 ∷ 54 ∷ 9 ∷ 49 ∷ 9 ∷ 48 ∷ 10
    ∷ 75 ∷ 9 ∷ 48 ∷ 9 ∷ 48 ∷ 9 ∷ 52 ∷ 9 ∷ 48 ∷ 9 ∷ 52 ∷ 9 ∷ 48 ∷ 10
    ∷ []

pub offsets_printed : printed_from start_session 1 offset_input ≡ offset_output
unfolding offset_input offset_output start_session printed_from printed_by printed_unless judged_line judged_by asked_text asked_by asked_event asked_unless asked_other asked_settings setup_line refused_line event_line begun_line answer_text refusal_of event_in index_in stated_in reading_within stated_reading event_by letter_of fields_of first_field other_fields field_at alone_line pair_of spelled_stated number_at index_of decimal_of plus_of minus_of run_of all_digits is_digit value_of is_spelt data_of settings_of is_setup setting_at every range_of is_within rises_by plain_of signed_of none_or setup_by tab stepped_chip taken_step quiet_step took_temperature zone_heard zone_three_fed read_zone zone_file compared_zone zone_watched temps_watched low_temp high_temp zone_number with_zone tick_answer ticked_chip missed missed_file missed_zones missed_volts missed_fans missed_zone missed_volt missed_fan volt_watched fan_watched low_limit high_limit fan_limit fan_limit_at alert_active errors_standing zone_counts volt_counts fan_counts is_set driven drive_after outputs_after kick_after duty_of duty_after levels_of ramps_after ramp_after any_on boosts_after boost_after kicked_fan loaded_start fan_duty tables_ask bound_largest ramped_on moved_level delay_of is_boosted zone_enabled register_at zone_at hot_at power_on at_rest defaults asks_after steps_after ask_after step_after followed asked_duty new_step settled not_above threshold_reached is_reached sum_to table_of unit_of followed_zone zone_one zone_two joined_zone hotter_of count_to refusal_text number_of tick_text column_text digits_text digit_of
offsets_printed = refl
