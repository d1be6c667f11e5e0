-- Document 01's cases of errors, 02's of voltage hysteresis, and cases of zone limits and sleep masks, computed on the definitions from
-- power-on. Assumes nothing.
use Rattle.std.specs.Prelude.{◌≡◌, refl, true, false, ℕ, ℤ, pos, negsuc, Some}
use Rattle.laws.specs.Count.{count_to}
use Rattle.map.specs.Tables.{defaults}
use Rattle.map.specs.Bits.{is_set}
use Rattle.masks.specs.Masks.{state_by, sleep_state, is_masked, asleep_volt, volt_masking, volt_masked, fan_masking, fan_masked, asleep_zone, zone_masking, zone_masked}
use Rattle.temperature.specs.declared.Reading.TheVariants as reading
use Rattle.temperature.specs.Temperature.{byte_of, whole_of, whole_byte, degrees_of, count_reading}
use Rattle.state.specs.declared.Chip.{Chip}
use Rattle.state.specs.Parts.{register_at, zone_at, zone_enabled, in_error}
use Rattle.state.specs.With.{with_register, with_zone, with_volt, with_in_error}
use Rattle.state.specs.PowerOn.{default_setup, power_on, at_rest}
use Rattle.sense.specs.Errors.{with_bit, marked, marked_volt, marked_fan, low_limit, high_limit, is_outside, fan_limit, fan_limit_at}
use Rattle.sense.specs.Hysteresis.{hysteresis_of, low_move, high_move, ends_error, erring_on, erring_after, erred_volt}
use Rattle.sense.specs.ZoneLimits.{zone_number, low_temp, high_temp, temps_watched, zone_watched, is_beyond, marked_zone, compared_zone, zone_file}
use Rattle.sense.specs.Missing.{volt_watched, fan_watched, missed_volt, missed_fan, missed_zone, missed_volts, missed_fans, missed_zones, missed_file, missed}
use Rattle.sense.specs.Standing.{zone_counts, volt_counts, fan_counts, errors_standing, alert_active}
use Rattle.sense.specs.Events.{read_zone, zone_three_fed, zone_heard, took_temperature, volt_reading, feeds_three, feeds_four, fed_zone, read_volt, took_voltage, reset_file, took_reset}

-- channel 7 with limits 80 and 100: its registers are 9Ch and 9Dh
unfoldable pub limited : Chip
limited = with_register (with_register (power_on default_setup) 0x9C 80) 0x9D 100

unfoldable pub errors_at : ℕ → ℕ
errors_at n = errors_standing (took_voltage limited 6 (Some n)).registers

-- "channel 7 limits 80 and 100: 79 and 101 are errors, 80 and 100 not"; the bit is bit 6 of 41h and of 49h
pub channel_seven : (errors_at 79 ≡ 1) × (errors_at 80 ≡ 0) × (errors_at 100 ≡ 0) × (errors_at 101 ≡ 1) × (register_at (took_voltage limited 6 (Some 79)) 0x41 ≡ 0x40) × (register_at (took_voltage limited 6 (Some 79)) 0x49 ≡ 0x40)
unfolding errors_at limited with_register took_voltage with_volt fed_zone feeds_three feeds_four register_at read_volt in_error with_in_error erred_volt erring_after erring_on ends_error low_move high_move hysteresis_of low_limit high_limit is_outside marked_volt marked volt_masked volt_masking is_masked sleep_state state_by with_bit errors_standing zone_counts volt_counts fan_counts count_to is_set power_on at_rest default_setup defaults
channel_seven = (refl, refl, refl, refl, refl, refl)

-- 02, Q-2: a reading of channel 7, its error bit cleared in both groups, and a second reading; by its limits and VH
unfoldable pub read_twice : Chip → ℕ → ℕ → Chip
read_twice c first second =
    took_voltage (with_register (with_register (took_voltage c 6 (Some first)) 0x41 0x00) 0x49 0x00) 6 (Some second)

unfoldable pub bounded : ℕ → ℕ → ℕ → Chip
bounded low high vh = with_register (with_register (with_register (power_on default_setup) 0x9C low) 0x9D high) 0xBC vh

unfoldable pub errors_again : ℕ → ℕ → ℕ → ℕ → ℕ → ℕ
errors_again low high vh first second = errors_standing (read_twice (bounded low high vh) first second).registers

-- "with VH 2, after 79 an 81 still sets the bit and an 82 does not", in both groups; after 101, 99 still sets it and 98 does not. After an
-- error at one end a reading within VH of the other limit is still in error: 99 after 79, 81 after 101. Without an error before none is.
pub channel_seven_held : (errors_again 80 100 2 79 81 ≡ 1) × (errors_again 80 100 2 79 82 ≡ 0) × (errors_again 80 100 2 101 99 ≡ 1) × (errors_again 80 100 2 101 98 ≡ 0) × (errors_again 80 100 2 79 99 ≡ 1) × (errors_again 80 100 2 79 98 ≡ 0) × (errors_again 80 100 2 101 81 ≡ 1) × (errors_again 80 100 2 101 82 ≡ 0) × (errors_again 80 100 2 80 81 ≡ 0) × (register_at (read_twice (bounded 80 100 2) 79 81) 0x41 ≡ 0x40) × (register_at (read_twice (bounded 80 100 2) 79 81) 0x49 ≡ 0x40)
unfolding errors_again read_twice bounded with_register took_voltage with_volt fed_zone feeds_three feeds_four register_at read_volt in_error with_in_error erred_volt erring_after erring_on ends_error low_move high_move hysteresis_of low_limit high_limit is_outside marked_volt marked volt_masked volt_masking is_masked sleep_state state_by with_bit errors_standing zone_counts volt_counts fan_counts count_to is_set power_on at_rest default_setup defaults
channel_seven_held = (refl, refl, refl, refl, refl, refl, refl, refl, refl, refl, refl)

-- "The channel 7 cases hold for VH 0", in error before or not
pub channel_seven_unheld : (errors_again 80 100 0 79 79 ≡ 1) × (errors_again 80 100 0 79 80 ≡ 0) × (errors_again 80 100 0 79 100 ≡ 0) × (errors_again 80 100 0 79 101 ≡ 1)
unfolding errors_again read_twice bounded with_register took_voltage with_volt fed_zone feeds_three feeds_four register_at read_volt in_error with_in_error erred_volt erring_after erring_on ends_error low_move high_move hysteresis_of low_limit high_limit is_outside marked_volt marked volt_masked volt_masking is_masked sleep_state state_by with_bit errors_standing zone_counts volt_counts fan_counts count_to is_set power_on at_rest default_setup defaults
channel_seven_unheld = (refl, refl, refl, refl)

-- "A low limit of 00h and a high limit of FFh are not moved", each by itself: the other is, and so are 01h and FEh
pub not_moved : (errors_again 0x00 100 2 101 0 ≡ 0) × (errors_again 0x00 100 2 101 99 ≡ 1) × (errors_again 0x01 100 2 101 2 ≡ 1) × (errors_again 0x01 100 2 101 3 ≡ 0) × (errors_again 80 0xFF 2 79 255 ≡ 0) × (errors_again 80 0xFF 2 79 81 ≡ 1) × (errors_again 80 0xFE 2 79 253 ≡ 1) × (errors_again 80 0xFE 2 79 252 ≡ 0)
unfolding errors_again read_twice bounded with_register took_voltage with_volt fed_zone feeds_three feeds_four register_at read_volt in_error with_in_error erred_volt erring_after erring_on ends_error low_move high_move hysteresis_of low_limit high_limit is_outside marked_volt marked volt_masked volt_masking is_masked sleep_state state_by with_bit errors_standing zone_counts volt_counts fan_counts count_to is_set power_on at_rest default_setup defaults
not_moved = (refl, refl, refl, refl, refl, refl, refl, refl)

-- sums and differences are plain numbers: FEh and 3 are 257, 01h less 3 is below 0, and between 82 and 81 nothing lies; 7Bh has VH 3
pub none_ends : (errors_again 0xFE 0xFF 3 0 254 ≡ 1) × (errors_again 0xFE 0xFF 3 0 255 ≡ 1) × (errors_again 0x00 0x01 0x7B 2 0 ≡ 1) × (errors_again 80 83 2 79 81 ≡ 1) × (errors_again 80 83 2 79 82 ≡ 1) × (errors_again 80 84 2 79 82 ≡ 0)
unfolding errors_again read_twice bounded with_register took_voltage with_volt fed_zone feeds_three feeds_four register_at read_volt in_error with_in_error erred_volt erring_after erring_on ends_error low_move high_move hysteresis_of low_limit high_limit is_outside marked_volt marked volt_masked volt_masking is_masked sleep_state state_by with_bit errors_standing zone_counts volt_counts fan_counts count_to is_set power_on at_rest default_setup defaults
none_ends = (refl, refl, refl, refl, refl, refl)

-- "fan limit 3FFFh with a missing count, no error"; with the limit 203Fh (B5h 80h) it is one, bit 0 of 47h and of 4Fh, and ALERT is active.
-- X sets GMSK, so ALERT is not, and S4/5, where all fans are masked: the bit stands and is not counted
pub missing_fan : (errors_standing (missed (power_on default_setup)).registers ≡ 0) × (errors_standing (missed (with_register (power_on default_setup) 0xB5 0x80)).registers ≡ 1) × (register_at (missed (with_register (power_on default_setup) 0xB5 0x80)) 0x47 ≡ 0x01) × (register_at (missed (with_register (power_on default_setup) 0xB5 0x80)) 0x4F ≡ 0x01) × (alert_active (missed (with_register (power_on default_setup) 0xB5 0x80)).registers ≡ true) × (alert_active (took_reset (missed (with_register (power_on default_setup) 0xB5 0x80))).registers ≡ false) × (errors_standing (took_reset (missed (with_register (power_on default_setup) 0xB5 0x80))).registers ≡ 0) × (register_at (took_reset (missed (with_register (power_on default_setup) 0xB5 0x80))) 0x47 ≡ 0x01)
unfolding missed missed_file missed_volts missed_fans missed_zones missed_volt missed_fan missed_zone zone_watched temps_watched low_temp high_temp zone_number volt_watched fan_watched marked_volt marked_fan marked volt_masked volt_masking fan_masked fan_masking is_masked sleep_state state_by with_bit low_limit high_limit fan_limit fan_limit_at with_register register_at errors_standing zone_counts volt_counts fan_counts count_to alert_active is_set took_reset reset_file power_on at_rest default_setup defaults
missing_fan = (refl, refl, refl, refl, refl, refl, refl, refl)

-- a missing voltage with a limit is an error at the tick; channel 16, at bit 7 of 42h and of 4Ah
pub missing_volt : (errors_standing (missed (with_register (power_on default_setup) 0xAE 0x01)).registers ≡ 1) × (register_at (missed (with_register (power_on default_setup) 0xAE 0x01)) 0x42 ≡ 0x80) × (register_at (missed (with_register (power_on default_setup) 0xAE 0x01)) 0x4A ≡ 0x80)
unfolding missed missed_file missed_volts missed_fans missed_zones missed_volt missed_fan missed_zone zone_watched temps_watched low_temp high_temp zone_number volt_watched fan_watched marked_volt marked_fan marked volt_masked volt_masking fan_masked fan_masking is_masked sleep_state state_by with_bit low_limit high_limit fan_limit fan_limit_at with_register register_at errors_standing zone_counts volt_counts fan_counts count_to is_set power_on at_rest default_setup defaults
missing_volt = (refl, refl, refl)

-- "AD_IN11 of 0 missing, 1 gives 81h": with INT_AD11 set; INT_WR_E stops it, and T for zone 3 then changes nothing
unfoldable pub sourced : ℕ → Chip
sourced source = with_register (power_on default_setup) 0x31 source

pub fed : (whole_byte (zone_at (took_voltage (sourced 0x01) 10 (Some 1)) 4) ≡ 0x81) × (zone_at (took_voltage (took_voltage (sourced 0x01) 10 (Some 1)) 10 (Some 0)) 4 ≡ reading.Missing) × (zone_at (took_voltage (sourced 0x11) 10 (Some 1)) 4 ≡ reading.Missing) × (whole_byte (zone_at (took_voltage (sourced 0x02) 14 (Some 255)) 5) ≡ 0x7F)
unfolding sourced took_voltage with_volt with_zone read_zone zone_file compared_zone zone_watched temps_watched low_temp high_temp zone_number fed_zone feeds_three feeds_four volt_reading count_reading zone_at register_at with_register read_volt in_error with_in_error erred_volt erring_after erring_on ends_error low_move high_move hysteresis_of low_limit high_limit is_outside marked_volt marked volt_masked volt_masking is_masked sleep_state state_by with_bit is_set whole_byte whole_of byte_of power_on at_rest default_setup defaults
fed = (refl, refl, refl, refl)

-- ---- 02, Q-12: zone limits

-- zone 1 with limits, and the errors after a reading of 1a; 31h enables 1b and 2b
unfoldable pub zoned : ℕ → ℕ → ℕ → Chip
zoned source low high = with_register (with_register (with_register (power_on default_setup) 0x31 source) 0x78 low) 0x79 high

unfoldable pub zone_errors : ℕ → ℕ → ℤ → ℕ
zone_errors low high n = errors_standing (took_temperature (zoned 0x00 low high) 0 (reading.Taken n)).registers

-- limits of 20 and 25 degrees: 25.0625 is above 25 and 19.9375 below 20, 25 and 20 are not; the bit is bit 0 of 40h and of 48h
pub zone_one_lem : (zone_errors 20 25 (pos 400) ≡ 0) × (zone_errors 20 25 (pos 401) ≡ 1) × (zone_errors 20 25 (pos 320) ≡ 0) × (zone_errors 20 25 (pos 319) ≡ 1) × (register_at (took_temperature (zoned 0x00 20 25) 0 (reading.Taken (pos 401))) 0x40 ≡ 0x01) × (register_at (took_temperature (zoned 0x00 20 25) 0 (reading.Taken (pos 401))) 0x48 ≡ 0x01)
unfolding zone_errors zoned took_temperature zone_heard zone_three_fed read_zone zone_file compared_zone zone_watched temps_watched zone_enabled low_temp high_temp zone_number is_beyond degrees_of marked_zone marked volt_masked volt_masking asleep_volt fan_masked fan_masking zone_masked zone_masking asleep_zone is_masked sleep_state state_by errors_standing zone_counts volt_counts fan_counts count_to alert_active is_set with_bit with_register register_at with_zone power_on at_rest default_setup defaults
zone_one_lem = (refl, refl, refl, refl, refl, refl)

-- with their sign: -0.0625 is below 0; with limits of -10 and -5, F6h and FBh, -10 and -5 are inside, a sixteenth more is not
pub zone_signed : (zone_errors 0x00 25 (negsuc 0) ≡ 1) × (zone_errors 0x00 25 (pos 0) ≡ 0) × (zone_errors 0xF6 0xFB (negsuc 159) ≡ 0) × (zone_errors 0xF6 0xFB (negsuc 160) ≡ 1) × (zone_errors 0xF6 0xFB (negsuc 79) ≡ 0) × (zone_errors 0xF6 0xFB (negsuc 78) ≡ 1)
unfolding zone_errors zoned took_temperature zone_heard zone_three_fed read_zone zone_file compared_zone zone_watched temps_watched zone_enabled low_temp high_temp zone_number is_beyond degrees_of marked_zone marked volt_masked volt_masking asleep_volt fan_masked fan_masking zone_masked zone_masking asleep_zone is_masked sleep_state state_by errors_standing zone_counts volt_counts fan_counts count_to alert_active is_set with_bit with_register register_at with_zone power_on at_rest default_setup defaults
zone_signed = (refl, refl, refl, refl, refl, refl)

-- "80h low and 7Fh high; a zone with both is not watched and never errs": not at 127.5 degrees, and not while missing. With a low limit of 81h
-- 127.0625 is above 127. 80h is -128 degrees: as a high limit, with 80h low too, every reading is above it
pub zone_defaults : (zone_errors 0x80 0x7F (pos 2040) ≡ 0) × (errors_standing (missed (zoned 0x0C 0x80 0x7F)).registers ≡ 0) × (zone_errors 0x81 0x7F (pos 2032) ≡ 0) × (zone_errors 0x81 0x7F (pos 2033) ≡ 1) × (zone_errors 0x80 0x80 (negsuc 2031) ≡ 1) × (zone_errors 0x80 0x7E (negsuc 2031) ≡ 0)
unfolding zone_errors zoned took_temperature zone_heard zone_three_fed missed missed_file missed_volts missed_fans missed_zones missed_volt missed_fan missed_zone volt_watched fan_watched low_limit high_limit fan_limit fan_limit_at read_zone zone_file compared_zone zone_watched temps_watched zone_enabled low_temp high_temp zone_number is_beyond degrees_of marked_zone marked_volt marked_fan marked volt_masked volt_masking asleep_volt fan_masked fan_masking zone_masked zone_masking asleep_zone is_masked sleep_state state_by errors_standing zone_counts volt_counts fan_counts count_to alert_active is_set with_bit with_register register_at with_zone power_on at_rest default_setup defaults
zone_defaults = (refl, refl, refl, refl, refl, refl)

-- "nor does 1b or 2b while not enabled": 26 degrees for 1b, without and with Z1bE; and missing at a tick, where 1a has a reading inside
pub zone_enabled_lem : (errors_standing (took_temperature (zoned 0x00 20 25) 1 (reading.Taken (pos 416))).registers ≡ 0) × (register_at (took_temperature (zoned 0x04 20 25) 1 (reading.Taken (pos 416))) 0x40 ≡ 0x01) × (register_at (missed (zoned 0x00 20 25)) 0x40 ≡ 0x01) × (register_at (missed (took_temperature (zoned 0x00 20 25) 0 (reading.Taken (pos 400)))) 0x40 ≡ 0x00) × (register_at (missed (took_temperature (zoned 0x04 20 25) 0 (reading.Taken (pos 400)))) 0x48 ≡ 0x01)
unfolding zoned took_temperature zone_heard zone_three_fed missed missed_file missed_volts missed_fans missed_zones missed_volt missed_fan missed_zone volt_watched fan_watched low_limit high_limit fan_limit fan_limit_at read_zone zone_file compared_zone zone_watched temps_watched zone_enabled low_temp high_temp zone_number is_beyond degrees_of marked_zone marked_volt marked_fan marked volt_masked volt_masking asleep_volt fan_masked fan_masking zone_masked zone_masking asleep_zone is_masked sleep_state state_by errors_standing zone_counts volt_counts fan_counts count_to alert_active is_set with_bit with_register register_at with_zone power_on at_rest default_setup defaults
zone_enabled_lem = (refl, refl, refl, refl, refl)

-- missing at a tick, the bits of zones 2, 3 and 4
pub zones_missed : (register_at (missed (with_register (power_on default_setup) 0x7A 0x00)) 0x40 ≡ 0x02) × (register_at (missed (with_register (power_on default_setup) 0x7D 0x00)) 0x40 ≡ 0x04) × (register_at (missed (with_register (power_on default_setup) 0x7F 0x00)) 0x48 ≡ 0x08) × (alert_active (missed (with_register (power_on default_setup) 0x7F 0x00)).registers ≡ true)
unfolding missed missed_file missed_volts missed_fans missed_zones missed_volt missed_fan missed_zone volt_watched fan_watched low_limit high_limit fan_limit fan_limit_at read_zone zone_file compared_zone zone_watched temps_watched zone_enabled low_temp high_temp zone_number is_beyond degrees_of marked_zone marked_volt marked_fan marked volt_masked volt_masking asleep_volt fan_masked fan_masking zone_masked zone_masking asleep_zone is_masked sleep_state state_by errors_standing zone_counts volt_counts fan_counts count_to alert_active is_set with_bit with_register register_at with_zone power_on at_rest default_setup defaults
zones_missed = (refl, refl, refl, refl)

-- ---- 02, Q-12: sleep masks

-- in a sleep state
unfoldable pub asleep : ℕ → Chip → Chip
asleep state c = with_register c 0xE4 state

unfoldable pub errors_asleep : ℕ → ℕ → ℕ
errors_asleep state n = errors_standing (took_voltage (asleep state limited) 6 (Some n)).registers

-- channel 7 is masked in S3 and S4/5: no bit is set, in neither group, and it is in error all the same
pub channel_seven_masked : (errors_asleep 0 79 ≡ 1) × (errors_asleep 1 79 ≡ 1) × (errors_asleep 2 79 ≡ 0) × (errors_asleep 3 79 ≡ 0) × (register_at (took_voltage (asleep 2 limited) 6 (Some 79)) 0x41 ≡ 0x00) × (register_at (took_voltage (asleep 2 limited) 6 (Some 79)) 0x49 ≡ 0x00) × (in_error (took_voltage (asleep 2 limited) 6 (Some 79)) 6 ≡ true)
unfolding errors_asleep asleep limited took_voltage with_volt fed_zone feeds_three feeds_four read_volt in_error with_in_error erred_volt erring_after erring_on ends_error low_move high_move hysteresis_of low_limit high_limit is_outside marked_volt marked volt_masked volt_masking asleep_volt fan_masked fan_masking zone_masked zone_masking asleep_zone is_masked sleep_state state_by errors_standing zone_counts volt_counts fan_counts count_to alert_active is_set with_bit with_register register_at with_zone power_on at_rest default_setup defaults
channel_seven_masked = (refl, refl, refl, refl, refl, refl, refl)

-- "one already standing remains until cleared but no longer holds ALERT"; in S0 again it counts
unfoldable pub standing : ℕ → Chip
standing state = asleep state (took_voltage limited 6 (Some 79))

pub standing_masked : (register_at (standing 2) 0x41 ≡ 0x40) × (errors_standing (standing 2).registers ≡ 0) × (alert_active (standing 2).registers ≡ false) × (errors_standing (asleep 0 (standing 2)).registers ≡ 1) × (alert_active (asleep 0 (standing 2)).registers ≡ true)
unfolding standing asleep limited took_voltage with_volt fed_zone feeds_three feeds_four read_volt in_error with_in_error erred_volt erring_after erring_on ends_error low_move high_move hysteresis_of low_limit high_limit is_outside marked_volt marked volt_masked volt_masking asleep_volt fan_masked fan_masking zone_masked zone_masking asleep_zone is_masked sleep_state state_by errors_standing zone_counts volt_counts fan_counts count_to alert_active is_set with_bit with_register register_at with_zone power_on at_rest default_setup defaults
standing_masked = (refl, refl, refl, refl, refl)

-- in error since a reading that was masked: with VH 2, after 79 in S3 an 81 in S0 sets the bit and an 82 does not
unfoldable pub held_masked : ℕ → ℕ
held_masked second =
    errors_standing (took_voltage (asleep 0 (took_voltage (asleep 2 (bounded 80 100 2)) 6 (Some 79))) 6 (Some second)).registers

pub held_while_masked : (held_masked 81 ≡ 1) × (held_masked 82 ≡ 0)
unfolding held_masked bounded asleep took_voltage with_volt fed_zone feeds_three feeds_four read_volt in_error with_in_error erred_volt erring_after erring_on ends_error low_move high_move hysteresis_of low_limit high_limit is_outside marked_volt marked volt_masked volt_masking asleep_volt fan_masked fan_masking zone_masked zone_masking asleep_zone is_masked sleep_state state_by errors_standing zone_counts volt_counts fan_counts count_to alert_active is_set with_bit with_register register_at with_zone power_on at_rest default_setup defaults
held_while_masked = (refl, refl)

-- a limit's register with a byte, so that a sensor is watched; it is missing at a tick in a sleep state, with a byte in a mask register
unfoldable pub missed_asleep : ℕ → ℕ → ℕ → ℕ → ℕ → ℕ
missed_asleep limit byte state register mask =
    errors_standing (missed (with_register (asleep state (with_register (power_on default_setup) limit byte)) register mask)).registers

-- channel 12 by bit 0 of E9h in S3 and of EBh in S4/5
pub channel_twelve_masked : (missed_asleep 0xA6 0x01 2 0xE9 0x01 ≡ 0) × (missed_asleep 0xA6 0x01 2 0xE9 0x0E ≡ 1) × (missed_asleep 0xA6 0x01 3 0xEB 0x01 ≡ 0) × (missed_asleep 0xA6 0x01 3 0xEB 0x0E ≡ 1)
unfolding missed_asleep asleep missed missed_file missed_volts missed_fans missed_zones missed_volt missed_fan missed_zone volt_watched fan_watched low_limit high_limit fan_limit fan_limit_at read_zone zone_file compared_zone zone_watched temps_watched zone_enabled low_temp high_temp zone_number is_beyond degrees_of marked_zone marked_volt marked_fan marked volt_masked volt_masking asleep_volt fan_masked fan_masking zone_masked zone_masking asleep_zone is_masked sleep_state state_by errors_standing zone_counts volt_counts fan_counts count_to alert_active is_set with_bit with_register register_at with_zone power_on at_rest default_setup defaults
channel_twelve_masked = (refl, refl, refl, refl)

-- fan 1 by bit 0 of E6h in S1 and of E8h in S3, always in S4/5
pub fan_one_masked : (missed_asleep 0xB5 0x80 1 0xE6 0x01 ≡ 0) × (missed_asleep 0xB5 0x80 1 0xE6 0x0E ≡ 1) × (missed_asleep 0xB5 0x80 2 0xE8 0x01 ≡ 0) × (missed_asleep 0xB5 0x80 2 0xE8 0x0E ≡ 1) × (missed_asleep 0xB5 0x80 3 0xE8 0x00 ≡ 0)
unfolding missed_asleep asleep missed missed_file missed_volts missed_fans missed_zones missed_volt missed_fan missed_zone volt_watched fan_watched low_limit high_limit fan_limit fan_limit_at read_zone zone_file compared_zone zone_watched temps_watched zone_enabled low_temp high_temp zone_number is_beyond degrees_of marked_zone marked_volt marked_fan marked volt_masked volt_masking asleep_volt fan_masked fan_masking zone_masked zone_masking asleep_zone is_masked sleep_state state_by errors_standing zone_counts volt_counts fan_counts count_to alert_active is_set with_bit with_register register_at with_zone power_on at_rest default_setup defaults
fan_one_masked = (refl, refl, refl, refl, refl)

-- zone 1 by bit 3 of E9h in S3 and of EBh in S4/5
pub zone_one_masked : (missed_asleep 0x78 0x00 2 0xE9 0x08 ≡ 0) × (missed_asleep 0x78 0x00 2 0xE9 0x07 ≡ 1) × (missed_asleep 0x78 0x00 3 0xEB 0x08 ≡ 0) × (missed_asleep 0x78 0x00 3 0xEB 0x07 ≡ 1)
unfolding missed_asleep asleep missed missed_file missed_volts missed_fans missed_zones missed_volt missed_fan missed_zone volt_watched fan_watched low_limit high_limit fan_limit fan_limit_at read_zone zone_file compared_zone zone_watched temps_watched zone_enabled low_temp high_temp zone_number is_beyond degrees_of marked_zone marked_volt marked_fan marked volt_masked volt_masking asleep_volt fan_masked fan_masking zone_masked zone_masking asleep_zone is_masked sleep_state state_by errors_standing zone_counts volt_counts fan_counts count_to alert_active is_set with_bit with_register register_at with_zone power_on at_rest default_setup defaults
zone_one_masked = (refl, refl, refl, refl)

-- channel 15 in S3 whatever E9h holds; channel 16 and zone 3 never
pub others_masked : (missed_asleep 0xAC 0x01 2 0xE9 0x00 ≡ 0) × (missed_asleep 0xAE 0x01 3 0xEB 0x0F ≡ 1) × (missed_asleep 0x7C 0x00 3 0xEB 0x0F ≡ 1)
unfolding missed_asleep asleep missed missed_file missed_volts missed_fans missed_zones missed_volt missed_fan missed_zone volt_watched fan_watched low_limit high_limit fan_limit fan_limit_at read_zone zone_file compared_zone zone_watched temps_watched zone_enabled low_temp high_temp zone_number is_beyond degrees_of marked_zone marked_volt marked_fan marked volt_masked volt_masking asleep_volt fan_masked fan_masking zone_masked zone_masking asleep_zone is_masked sleep_state state_by errors_standing zone_counts volt_counts fan_counts count_to alert_active is_set with_bit with_register register_at with_zone power_on at_rest default_setup defaults
others_masked = (refl, refl, refl)
