-- Document 01's cases, in one list under one statement, in 01's order and each under 01's words, with those of document 02 behind them, over
-- the definitions that the code is proved to meet. negsuc n is -(n + 1). Zones, channels and fans count from 0. Assumes nothing.
use Rattle.std.specs.Prelude.{◌≡◌, Bool, true, false, [], ◌∷◌, ℕ, ℤ, pos, negsuc, replicate, Some}
use Rattle.temperature.specs.declared.Reading.TheVariants as reading
use Rattle.temperature.specs.declared.Stated.{Stated}
use Rattle.temperature.specs.declared.Stated.TheVariants.{Halves, Sixteenths}
use Rattle.temperature.specs.Temperature.{HALF, DEGREE, whole_byte, reading_of, hotter_of}
use Rattle.temperature.specs.Cases.{Shows, T, U}
use Rattle.state.specs.declared.Chip.{Chip}
use Rattle.state.specs.Parts.{register_at, zone_at, in_error}
use Rattle.state.specs.With.{with_register, with_zone}
use Rattle.state.specs.PowerOn.{default_setup}
use Rattle.state.specs.Made.{fresh}
use Rattle.sense.specs.Errors.{fan_limit_at}
use Rattle.sense.specs.Missing.{missed}
use Rattle.sense.specs.Standing.{errors_standing, alert_active}
use Rattle.sense.specs.Events.{took_temperature, took_voltage, took_pin, took_reset}
use Rattle.bus.specs.Write.{wrote_register}
use Rattle.bus.specs.Read.{read_byte}
use Rattle.drive.specs.declared.Searched.{Searched}
use Rattle.drive.specs.Tables.{table_from, table_of, new_step}
use Rattle.drive.specs.Search.{searched}
use Rattle.drive.specs.Boosts.{is_boosted}
use Rattle.drive.specs.Cases.{tall}
use Rattle.event.specs.declared.Event.TheVariants.{Temperature, WriteBlock}
use Rattle.state.specs.Refusal.{number_or_0}
use Rattle.event.specs.Event.{refusal_of}
use Rattle.event.specs.Run.{answers_to}
use Rattle.event.specs.Session.{session, answers}
use Rattle.settings.specs.Cases.{refused_with, old_refused_with}
use Rattle.line.specs.Line.{start_session}
use Rattle.line.specs.Session.{printed_from}
use Rattle.determined.specs.Printed.{input, output}
use Rattle.determined.specs.PrintedVolts.{volt_input, volt_output}
use Rattle.determined.specs.PrintedFans.{fan_input, fan_output}
use Rattle.determined.specs.PrintedOffsets.{offset_input, offset_output}
use Rattle.determined.specs.PrintedSixteenths.{fine_input, fine_output}
use Rattle.determined.specs.PrintedMasks.{mask_input, mask_output}
use Rattle.determined.specs.PrintedBlocks.{block_input, block_output, RepliesIn}

-- the chip at power-on without a setup, with a byte stored at an address
abbrev pub fresh_with : ℕ → ℕ → Chip
fresh_with a byte = with_register fresh a byte

-- the errors standing after a count of channel 7, whose limits at 9Ch and 9Dh are 80 and 100
abbrev pub seven_at : ℕ → ℕ
seven_at n = errors_standing (took_voltage (with_register (fresh_with 0x9C 80) 0x9D 100) 6 (Some n)).registers

-- the errors standing after two counts of channel 7, its bit cleared in both groups between them; by its limits and BCh, whose bits 2 to 0
-- are VH
abbrev pub seven_again : ℕ → ℕ → ℕ → ℕ → ℕ → ℕ
seven_again low high vh first second =
    let bounded = with_register (with_register (fresh_with 0x9C low) 0x9D high) 0xBC vh in
    errors_standing (took_voltage (with_register (with_register (took_voltage bounded 6 (Some first)) 0x41 0x00) 0x49 0x00) 6 (Some second)).registers

-- the chip with zone 3 at n sixteenths, writable by INT_WR_E in 31h, after a byte written at an address
abbrev pub three_at : ℕ → ℕ → ℕ → Chip
three_at n a byte = wrote_register (with_zone (fresh_with 0x31 0x10) 4 (reading.Taken (pos n))) a byte

-- the chip after a count of channel 11, which feeds zone 3 while INT_AD11 is set in 31h
abbrev pub eleven : ℕ → Chip → Chip
eleven n c = took_voltage c 10 (Some n)

-- a search from an old step at h half degrees, of table 1 without a setup: thresholds 64, 68, .., 108 half degrees, hysteresis 4
abbrev pub search_from : ℕ → ℕ → Searched
search_from old h = searched (table_of default_setup 0x00 0) old (T (pos h))

-- the step from an old step at h half degrees, by base and unit, of a table with twelve offsets of 63 and a hysteresis of 15
abbrev pub tall_from : ℕ → ℕ → ℕ → ℕ → ℕ
tall_from base unit old h = new_step (tall (pos base) unit) old (T (pos h))

-- 0 or the refusal of a T or a U
abbrev pub temperature_refusal : ℕ → Stated → ℕ
temperature_refusal zone stated = number_or_0 (refusal_of (Temperature zone stated) [])

-- the step from an old step at n sixteenths, of table 1 without a setup: thresholds 512, 544, .., 864 sixteenths, hysteresis 32
abbrev pub fine_from : ℕ → ℕ → ℕ
fine_from old n = new_step (table_of default_setup 0x00 0) old (U (pos n))

-- whether a boost at a number of degrees, with a hysteresis of 3, is on at n sixteenths
abbrev pub boost_at : ℤ → ℤ → Bool → Bool
boost_at degrees n was = is_boosted true (Some degrees) 3 (U n) was

-- zone 1 with limits at 78h and 79h and a byte at 31h, where Z1bE is bit 2
abbrev pub zone_one_in : ℕ → ℕ → ℕ → Chip
zone_one_in source low high = with_register (with_register (fresh_with 0x31 source) 0x78 low) 0x79 high

-- the errors standing after n sixteenths of zone 1a, by zone 1's limits
abbrev pub zone_one_at : ℕ → ℕ → ℤ → ℕ
zone_one_at low high n = errors_standing (took_temperature (zone_one_in 0x00 low high) 0 (U n)).registers

-- the chip after a 79 of channel 7, whose limits are 80 and 100, in a sleep state: 0 is S0, 1 S1, 2 S3 and 3 S4/5
abbrev pub seven_asleep : ℕ → Chip
seven_asleep state = took_voltage (with_register (with_register (fresh_with 0x9C 80) 0x9D 100) 0xE4 state) 6 (Some 79)

-- the chip after a 79 of channel 7 in S0, then in a sleep state
abbrev pub seven_then : ℕ → Chip
seven_then state = with_register (took_voltage (with_register (fresh_with 0x9C 80) 0x9D 100) 6 (Some 79)) 0xE4 state

-- the errors standing after a tick at which a sensor is missing: watched by a limit's byte, in a sleep state, with a byte in a mask register
abbrev pub missed_in : ℕ → ℕ → ℕ → ℕ → ℕ → ℕ
missed_in limit byte state register mask =
    errors_standing (missed (with_register (with_register (fresh_with limit byte) 0xE4 state) register mask)).registers

pub record Cases : Type 0 where
  -- ---- "Lines and refusals"
  -- "Input .. Output, whole": the bytes of the twelve lines, and those that they print behind the header
  pub lines : printed_from start_session 1 input ≡ output
  -- the same as events and their answers
  pub events : answers_to fresh session ≡ answers
  -- ---- "Proved cases"
  -- "h = -1 gives FFh, half set"
  pub minus_one : Shows (T (negsuc 0)) 0xFF true
  -- "-254 gives 81h"
  pub lowest : whole_byte (T (negsuc 253)) ≡ 0x81
  -- "255 gives 7Fh, half set"
  pub highest : Shows (T (pos 255)) 0x7F true
  -- "AD_IN11 of 0 missing": behind a taken count
  pub eleven_none : zone_at (eleven 0 (eleven 1 (fresh_with 0x31 0x01))) 4 ≡ reading.Missing
  -- "1 gives 81h"
  pub eleven_one : whole_byte (zone_at (eleven 1 (fresh_with 0x31 0x01)) 4) ≡ 0x81
  -- "channel 7 limits 80 and 100: 79 and 101 are errors, 80 and 100 not"
  pub channel_seven : (seven_at 79 ≡ 1) × (seven_at 101 ≡ 1) × (seven_at 80 ≡ 0) × (seven_at 100 ≡ 0)
  -- "fan limit 3FFFh with a missing count, no error": at a tick from power-on
  pub fan_unwatched : (fan_limit_at fresh.registers 0 ≡ 0x3FFF) × (errors_standing (missed fresh).registers ≡ 0)
  -- "step from 12 at h = 70 is 3"
  pub step_from_twelve : new_step (table_of default_setup 0x00 0) 12 (T (pos 70)) ≡ 3
  -- "from 0 it is 2"
  pub step_from_none : new_step (table_of default_setup 0x00 0) 0 (T (pos 70)) ≡ 2
  -- ---- "Easy to get wrong"
  -- "Taking 80h as -128 degrees and slowing the fan"
  pub missing_mark : reading_of 0x80 ≡ reading.Missing
  -- "Keeping the old half bit when the whole byte is written": zone 3 at 269 sixteenths, half set, 31h with INT_WR_E
  pub half_cleared : zone_at (three_at 269 0x52 0x20) 4 ≡ reading.Taken (pos 512)
  -- "Comparing temperature bytes without their sign"
  pub signed : hotter_of (T (negsuc 0)) (T (pos 0)) ≡ T (pos 0)
  -- "Letting X clear error bits": fan 1's, with the limit's high byte 80h, missing at a tick
  pub reset_keeps : register_at (took_reset (missed (fresh_with 0xB5 0x80))) 0x47 ≡ 0x01
  -- "or restore limits"
  pub limit_kept : register_at (took_reset (fresh_with 0x9C 80)) 0x9C ≡ 80
  -- "after R 2F 00 and A 1, R 2C 00 is still acknowledged"
  pub latched : (read_byte (took_pin (read_byte fresh 0x2F 0x00).chip 1) 0x2C 0x00).shown ≡ Some 0x00
  -- ---- document 02, Q-1, "Whole blocks over the bus"
  -- G and P lines from power-on, taken and refused: their bytes, and those that they print
  pub blocks : printed_from start_session 1 block_input ≡ block_output
  -- "for a line that begins with G, an output under 128 bytes is 5, in its old place": GG, G 2C F6, and P 2C F2 00
  pub block_rooms : RepliesIn 127 (71 ∷ 71 ∷ []) 5 0 × RepliesIn 128 (71 ∷ 71 ∷ []) 4 0 × RepliesIn 127 (71 ∷ 9 ∷ 50 ∷ 67 ∷ 9 ∷ 70 ∷ 54 ∷ []) 5 0 × RepliesIn 128 (71 ∷ 9 ∷ 50 ∷ 67 ∷ 9 ∷ 70 ∷ 54 ∷ []) 0 19 × RepliesIn 64 (80 ∷ 9 ∷ 50 ∷ 67 ∷ 9 ∷ 70 ∷ 50 ∷ 9 ∷ 48 ∷ 48 ∷ []) 0 4
  -- "more than 32 data bytes .. is 4", beside an event too, and before 2
  pub block_too_many : (number_or_0 (refusal_of (WriteBlock 0x80 0xF2) (replicate 33 0)) ≡ 4) × (number_or_0 (refusal_of (WriteBlock 0x80 0xF2) (replicate 32 0)) ≡ 2)
  -- ---- document 02, Q-2, "Voltage hysteresis as the chip has it"
  -- V lines of channel 7 with its bits read and cleared between them, from power-on: their bytes, and those that they print
  pub voltages : printed_from start_session 1 volt_input ≡ volt_output
  -- "The channel 7 cases hold for VH 0": in error before, too
  pub seven_unheld : (seven_again 80 100 0 79 79 ≡ 1) × (seven_again 80 100 0 79 101 ≡ 1) × (seven_again 80 100 0 79 80 ≡ 0) × (seven_again 80 100 0 79 100 ≡ 0)
  -- "with VH 2, after 79 an 81 still sets the bit and an 82 does not"
  pub seven_below : (seven_again 80 100 2 79 81 ≡ 1) × (seven_again 80 100 2 79 82 ≡ 0)
  -- "at most high minus VH": after 101 a 99 still sets the bit and a 98 does not
  pub seven_above : (seven_again 80 100 2 101 99 ≡ 1) × (seven_again 80 100 2 101 98 ≡ 0)
  -- "at least low plus VH and at most high minus VH", whichever limit was passed: after 79 a 99 still sets the bit and a 98 does not, and
  -- after 101 an 81 and an 82
  pub seven_across : (seven_again 80 100 2 79 99 ≡ 1) × (seven_again 80 100 2 79 98 ≡ 0) × (seven_again 80 100 2 101 81 ≡ 1) × (seven_again 80 100 2 101 82 ≡ 0)
  -- "in error from a taken reading outside its limits": after 80 an 81 sets none
  pub seven_sound : seven_again 80 100 2 80 81 ≡ 0
  -- "A low limit of 00h and a high limit of FFh are not moved": with 00h a 0 ends it; a high limit of 100 beside it is moved, and so is 01h
  pub low_unmoved : (seven_again 0x00 100 2 101 0 ≡ 0) × (seven_again 0x00 100 2 101 99 ≡ 1) × (seven_again 0x01 100 2 101 2 ≡ 1) × (seven_again 0x01 100 2 101 3 ≡ 0)
  -- with FFh a 255 ends it; a low limit of 80 beside it is moved, and so is FEh
  pub high_unmoved : (seven_again 80 0xFF 2 79 255 ≡ 0) × (seven_again 80 0xFF 2 79 81 ≡ 1) × (seven_again 80 0xFE 2 79 253 ≡ 1) × (seven_again 80 0xFE 2 79 252 ≡ 0)
  -- "low plus VH", "high minus VH", of plain numbers: FEh plus 3 is 257, 01h minus 3 is below 0, and 80 plus 2 is above 83 minus 2; 7Bh has
  -- VH 3
  pub never_ended : (seven_again 0xFE 0xFF 3 0 255 ≡ 1) × (seven_again 0x00 0x01 0x7B 2 0 ≡ 1) × (seven_again 80 83 2 79 81 ≡ 1) × (seven_again 80 83 2 79 82 ≡ 1)
  -- ---- document 02, Q-4, "Fan counts that are not torn"
  -- R lines of fan counts with F, X and G lines between them, from power-on: their bytes, and those that they print
  pub fan_counts_lem : printed_from start_session 1 fan_input ≡ fan_output
  -- ---- document 02, Q-11, "Count the thresholds looked at"
  -- "looks upward first and stops at the first threshold above the reading": 72 at 70, 84 at 80
  pub search_up : (search_from 0 70 ≡ record { step = 2; compared = 3 }) × (search_from 2 80 ≡ record { step = 5; compared = 4 })
  -- "only if it has not moved does it look downward, stopping at the first threshold not above reading plus hysteresis": 84 is above 70, 80 and
  -- 76 are above 74, 72 is not
  pub search_down : search_from 5 70 ≡ record { step = 3; compared = 4 }
  -- "At either end there is nothing to look at": upward from 12, downward from 0
  pub search_ends : (search_from 12 70 ≡ record { step = 3; compared = 10 }) × (search_from 12 108 ≡ record { step = 12; compared = 1 }) × (search_from 0 63 ≡ record { step = 0; compared = 1 })
  -- "is never more than the distance moved plus two": two more of one that stays, and above of one that moves; the distance itself from end to
  -- end
  pub search_most : (search_from 3 70 ≡ record { step = 3; compared = 2 }) × (search_from 0 108 ≡ record { step = 12; compared = 12 }) × (search_from 12 59 ≡ record { step = 0; compared = 12 })
  -- "A missing reading compares none."
  pub search_missing : searched (table_of default_setup 0x00 0) 5 reading.Missing ≡ record { step = 12; compared = 0 }
  -- an old step above 12, in a state that somebody made up, is taken as 12
  pub search_past : (search_from 13 70 ≡ record { step = 3; compared = 10 }) × (search_from 255 108 ≡ record { step = 12; compared = 1 })
  -- ---- document 02, Q-6, "Offsets up to 63"
  -- S lines with offsets of 64 and of 63, readings and ticks behind them, from power-on: their bytes, and those that they print
  pub offsets : printed_from start_session 1 offset_input ≡ offset_output
  -- "Offsets now run from 0 to 63 in both tables": an S line with 63 or 64 as the first or the last of the one twelve or of the other
  pub offset_ends : (refused_with 5 (54 ∷ 51 ∷ []) ≡ 0) × (refused_with 16 (54 ∷ 51 ∷ []) ≡ 0) × (refused_with 17 (54 ∷ 51 ∷ []) ≡ 0) × (refused_with 28 (54 ∷ 51 ∷ []) ≡ 0) × (refused_with 5 (54 ∷ 52 ∷ []) ≡ 1) × (refused_with 16 (54 ∷ 52 ∷ []) ≡ 1) × (refused_with 17 (54 ∷ 52 ∷ []) ≡ 1) × (refused_with 28 (54 ∷ 52 ∷ []) ≡ 1)
  -- and no other numbers: 15 and 16 as either hysteresis
  pub hysteresis_ends : (refused_with 29 (49 ∷ 53 ∷ []) ≡ 0) × (refused_with 29 (49 ∷ 54 ∷ []) ≡ 1) × (refused_with 30 (49 ∷ 53 ∷ []) ≡ 0) × (refused_with 30 (49 ∷ 54 ∷ []) ≡ 1)
  -- "an old reader refuses a line with an offset above 15 with 1": 15 and 16 at the same places
  pub offset_before : (old_refused_with 5 (49 ∷ 53 ∷ []) ≡ 0) × (old_refused_with 16 (49 ∷ 53 ∷ []) ≡ 0) × (old_refused_with 17 (49 ∷ 53 ∷ []) ≡ 0) × (old_refused_with 28 (49 ∷ 53 ∷ []) ≡ 0) × (old_refused_with 5 (49 ∷ 54 ∷ []) ≡ 1) × (old_refused_with 16 (49 ∷ 54 ∷ []) ≡ 1) × (old_refused_with 17 (49 ∷ 54 ∷ []) ≡ 1) × (old_refused_with 28 (49 ∷ 54 ∷ []) ≡ 1)
  -- twelve offsets of 63 from 127 degrees: thresholds that no reading reaches, counted in degrees and in half degrees
  pub tall_unreached : (tall_from 127 DEGREE 0 255 ≡ 0) × (tall_from 127 DEGREE 12 255 ≡ 0) × (tall_from 127 HALF 0 255 ≡ 0) × (tall_from 127 HALF 12 255 ≡ 0)
  -- exact up to the twelfth, 756 counts above the base: 1766 half degrees or 1010, of a reading that no chip has
  pub tall_exact : (tall_from 127 DEGREE 0 1766 ≡ 12) × (tall_from 127 DEGREE 0 1765 ≡ 11) × (tall_from 127 HALF 0 1010 ≡ 12) × (tall_from 127 HALF 0 1009 ≡ 11)
  -- from -127 degrees at -254 half degrees: offsets of 63 lead above it, offsets of 0 nowhere
  pub lowest_base : (new_step (tall (negsuc 126) DEGREE) 0 (T (negsuc 253)) ≡ 0) × (new_step (tall (negsuc 126) HALF) 0 (T (negsuc 253)) ≡ 0) × (new_step (table_from (negsuc 126) DEGREE (0 ∷ replicate 11 63) 0) 0 (T (negsuc 253)) ≡ 1) × (new_step (table_from (negsuc 126) DEGREE (replicate 12 0) 0) 0 (T (negsuc 253)) ≡ 12)
  -- ---- document 02, Q-7, "Sixteenths of a degree"
  -- U and T lines, what shows of them and what the fans do, from power-on: their bytes, and those that they print
  pub sixteenths : printed_from start_session 1 fine_input ≡ fine_output
  -- "T keeps half degrees": T of 70 is U of 560
  pub same_temperature : T (pos 70) ≡ U (pos 560)
  -- "-2032 to 2040", and "zones 1 to 5"
  pub fine_range : (temperature_refusal 1 (Sixteenths (negsuc 2031)) ≡ 0) × (temperature_refusal 1 (Sixteenths (negsuc 2032)) ≡ 2) × (temperature_refusal 5 (Sixteenths (pos 2040)) ≡ 0) × (temperature_refusal 5 (Sixteenths (pos 2041)) ≡ 2) × (temperature_refusal 6 (Sixteenths (pos 0)) ≡ 2) × (temperature_refusal 1 (Halves (negsuc 253)) ≡ 0) × (temperature_refusal 1 (Halves (negsuc 254)) ≡ 2) × (temperature_refusal 1 (Halves (pos 255)) ≡ 0) × (temperature_refusal 1 (Halves (pos 256)) ≡ 2)
  -- "The half bit shows the reading rounded down to a half": the ends, and -17, -16, -9, -8, -1, 7, 8, 15 and 16 sixteenths
  pub fine_shown : Shows (U (negsuc 16)) 0xFE true × Shows (U (negsuc 15)) 0xFF false × Shows (U (negsuc 8)) 0xFF false × Shows (U (negsuc 7)) 0xFF true × Shows (U (negsuc 0)) 0xFF true × Shows (U (pos 7)) 0x00 false × Shows (U (pos 8)) 0x00 true × Shows (U (pos 15)) 0x00 true × Shows (U (pos 16)) 0x01 false × Shows (U (negsuc 2031)) 0x81 false × Shows (U (pos 2039)) 0x7F false × Shows (U (pos 2040)) 0x7F true
  -- "A bus write of the whole byte sets the fraction to 0", of FFh at the mirror too
  pub fraction_cleared : zone_at (three_at 269 0x21 0xFF) 4 ≡ U (negsuc 15)
  -- "of the half bit the rest to 0": 269 is half set, and 259 is not
  pub rest_cleared : (zone_at (three_at 269 0x20 0x80) 4 ≡ U (pos 264)) × (zone_at (three_at 269 0x20 0x7F) 4 ≡ U (pos 256)) × (zone_at (three_at 259 0x20 0x7F) 4 ≡ U (pos 256))
  -- "the tables and boosts compare them so": one sixteenth below a threshold and at it, up and with the hysteresis
  pub fine_steps : (fine_from 0 511 ≡ 0) × (fine_from 0 512 ≡ 1) × (fine_from 0 543 ≡ 1) × (fine_from 0 544 ≡ 2) × (fine_from 12 543 ≡ 2) × (fine_from 12 544 ≡ 3)
  -- at a boost and one sixteenth below, at boost minus hysteresis and one sixteenth below
  pub fine_boosts : (boost_at (pos 40) (pos 640) false ≡ true) × (boost_at (pos 40) (pos 639) false ≡ false) × (boost_at (pos 40) (pos 592) true ≡ true) × (boost_at (pos 40) (pos 591) true ≡ false)
  -- "the hotter of 1a and 1b" by one sixteenth
  pub fine_hotter : hotter_of (U (pos 561)) (T (pos 70)) ≡ U (pos 561)
  -- ---- document 02, Q-12, "Sleep masks and temperature limits"
  -- W, U, V, K and X lines of zone 1 and channel 7, from power-on: their bytes, and those that they print
  pub masks : printed_from start_session 1 mask_input ≡ mask_output
  -- "below its low or above its high limit .. compared with the full reading": limits of 20 and 25 degrees at 25, 25.0625, 20 and 19.9375
  pub zone_beyond : (zone_one_at 20 25 (pos 400) ≡ 0) × (zone_one_at 20 25 (pos 401) ≡ 1) × (zone_one_at 20 25 (pos 320) ≡ 0) × (zone_one_at 20 25 (pos 319) ≡ 1)
  -- "in signed whole degrees": 00h at -0.0625 and 0; F6h and FBh, -10 and -5 degrees, at either and a sixteenth past it
  pub zone_signed : (zone_one_at 0x00 25 (negsuc 0) ≡ 1) × (zone_one_at 0x00 25 (pos 0) ≡ 0) × (zone_one_at 0xF6 0xFB (negsuc 159) ≡ 0) × (zone_one_at 0xF6 0xFB (negsuc 160) ≡ 1) × (zone_one_at 0xF6 0xFB (negsuc 79) ≡ 0) × (zone_one_at 0xF6 0xFB (negsuc 78) ≡ 1)
  -- "80h low and 7Fh high; a zone with both is not watched and never errs": at 127.5 degrees, and missing at a tick, with 1b and 2b enabled. One
  -- of them alone is a limit: 127 and 127.0625 with 81h low, -127 with 80h high, and with 7Eh high
  pub zone_unwatched : (zone_one_at 0x80 0x7F (pos 2040) ≡ 0) × (errors_standing (missed (zone_one_in 0x0C 0x80 0x7F)).registers ≡ 0) × (zone_one_at 0x81 0x7F (pos 2032) ≡ 0) × (zone_one_at 0x81 0x7F (pos 2033) ≡ 1) × (zone_one_at 0x80 0x80 (negsuc 2031) ≡ 1) × (zone_one_at 0x80 0x7E (negsuc 2031) ≡ 0)
  -- "nor does 1b or 2b while not enabled": 26 degrees of 1b, without Z1bE and with it
  pub zone_not_enabled : (errors_standing (took_temperature (zone_one_in 0x00 20 25) 1 (U (pos 416))).registers ≡ 0) × (register_at (took_temperature (zone_one_in 0x04 20 25) 1 (U (pos 416))) 0x40 ≡ 0x01)
  -- "sets its bit in both groups": zone 1's is bit 0 of 40h and of 48h
  pub zone_groups : (register_at (took_temperature (zone_one_in 0x00 20 25) 0 (U (pos 401))) 0x40 ≡ 0x01) × (register_at (took_temperature (zone_one_in 0x00 20 25) 0 (U (pos 401))) 0x48 ≡ 0x01)
  -- "missing sets it at the tick": 1a; not 1b, behind 25 degrees of 1a, without Z1bE; 1b with it; and zones 2, 3 and 4
  pub zone_missing : (register_at (missed (zone_one_in 0x00 20 25)) 0x40 ≡ 0x01) × (register_at (missed (took_temperature (zone_one_in 0x00 20 25) 0 (U (pos 400)))) 0x40 ≡ 0x00) × (register_at (missed (took_temperature (zone_one_in 0x04 20 25) 0 (U (pos 400)))) 0x48 ≡ 0x01) × (register_at (missed (fresh_with 0x7A 0x00)) 0x40 ≡ 0x02) × (register_at (missed (fresh_with 0x7D 0x00)) 0x40 ≡ 0x04) × (register_at (missed (fresh_with 0x7F 0x00)) 0x48 ≡ 0x08)
  -- "A masked bit is neither set": channel 7's in S0, S1, S3 and S4/5, and the channel is in error all the same
  pub seven_masked : (errors_standing (seven_asleep 0).registers ≡ 1) × (errors_standing (seven_asleep 1).registers ≡ 1) × (register_at (seven_asleep 2) 0x41 ≡ 0x00) × (register_at (seven_asleep 2) 0x49 ≡ 0x00) × (errors_standing (seven_asleep 3).registers ≡ 0) × (in_error (seven_asleep 2) 6 ≡ true)
  -- "nor counted, and one already standing remains until cleared but no longer holds ALERT": from S0 to S3, and to S0 again
  pub standing_masked : (register_at (seven_then 2) 0x41 ≡ 0x40) × (errors_standing (seven_then 2).registers ≡ 0) × (alert_active (seven_then 2).registers ≡ false) × (errors_standing (with_register (seven_then 2) 0xE4 0).registers ≡ 1) × (alert_active (with_register (seven_then 2) 0xE4 0).registers ≡ true)
  -- "the sleep state masks .. that source document 000 lists": channel 12 by bit 0 of E9h in S3 and of EBh in S4/5
  pub twelve_masked : (missed_in 0xA6 0x01 2 0xE9 0x01 ≡ 0) × (missed_in 0xA6 0x01 2 0xE9 0x0E ≡ 1) × (missed_in 0xA6 0x01 3 0xEB 0x01 ≡ 0) × (missed_in 0xA6 0x01 3 0xEB 0x0E ≡ 1)
  -- fan 1 by bit 0 of E6h in S1 and of E8h in S3, always in S4/5
  pub fan_masked_lem : (missed_in 0xB5 0x80 1 0xE6 0x01 ≡ 0) × (missed_in 0xB5 0x80 1 0xE6 0x0E ≡ 1) × (missed_in 0xB5 0x80 2 0xE8 0x01 ≡ 0) × (missed_in 0xB5 0x80 2 0xE8 0x0E ≡ 1) × (missed_in 0xB5 0x80 3 0xE8 0x00 ≡ 0)
  -- zone 1 by bit 3 of E9h in S3 and of EBh in S4/5
  pub zone_masked_lem : (missed_in 0x78 0x00 2 0xE9 0x08 ≡ 0) × (missed_in 0x78 0x00 2 0xE9 0x07 ≡ 1) × (missed_in 0x78 0x00 3 0xEB 0x08 ≡ 0) × (missed_in 0x78 0x00 3 0xEB 0x07 ≡ 1)
  -- channel 15 in S3 whatever E9h holds; channel 16 and zone 3 never
  pub others_masked : (missed_in 0xAC 0x01 2 0xE9 0x00 ≡ 0) × (missed_in 0xAE 0x01 3 0xEB 0x0F ≡ 1) × (missed_in 0x7C 0x00 3 0xEB 0x0F ≡ 1)
