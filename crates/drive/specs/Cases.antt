-- Worked cases of the stages, from documents 01 and 02. negsuc n is -(n + 1). Assumes nothing.
use Rattle.std.specs.Prelude.{◌≡◌, refl, true, false, [], ◌∷◌, ℕ, ℤ, pos, negsuc, replicate, Some, None}
use Rattle.laws.specs.Count.{count_to}
use Rattle.map.specs.Bits.{is_set}
use Rattle.temperature.specs.declared.Reading.TheVariants.{Missing}
use Rattle.temperature.specs.Temperature.{HALF, DEGREE, stated_reading}
use Rattle.temperature.specs.Cases.{T, U}
use Rattle.state.specs.PowerOn.{default_setup}
use Rattle.drive.specs.Tables.{Table, table_from, unit_of, table_of, sum_to, is_reached, threshold_reached, not_above, settled, new_step}
use Rattle.drive.specs.Search.{upward, downward, walk_from, walk, searched}
use Rattle.drive.specs.Boosts.{is_latched, is_boosted}
use Rattle.drive.specs.Ramps.{delay_of, moved_level, ramped_on}
use Rattle.drive.specs.Duties.{bound_largest, tables_ask, fan_duty, loaded_start, kicked_fan}

-- "step from 12 at h = 70 is 3, from 0 it is 2": thresholds 64, 68, 72, .. half degrees. In half degrees (LT12_RS) they are 62, 64, .., so
-- at 70 five are reached, and six with the hysteresis
pub steps : (new_step (table_of default_setup 0x00 0) 12 (T (pos 70)) ≡ 3) × (new_step (table_of default_setup 0x00 0) 0 (T (pos 70)) ≡ 2) × (new_step (table_of default_setup 0x00 0) 0 (T (pos 68)) ≡ 2) × (new_step (table_of default_setup 0x00 0) 0 (T (pos 67)) ≡ 1) × (new_step (table_of default_setup 0x00 0) 12 (T (negsuc 253)) ≡ 0) × (new_step (table_of default_setup 0x10 0) 0 (T (pos 70)) ≡ 5) × (new_step (table_of default_setup 0x10 0) 12 (T (pos 70)) ≡ 6) × (new_step (table_of default_setup 0x10 2) 0 (T (pos 70)) ≡ 2) × (new_step (table_of default_setup 0x00 3) 5 Missing ≡ 12)
unfolding stated_reading new_step table_of unit_of is_set settled not_above count_to threshold_reached is_reached sum_to default_setup
steps = (refl, refl, refl, refl, refl, refl, refl, refl, refl)

abbrev grouped : Table
grouped = table_from (pos 30) DEGREE (0 ∷ 0 ∷ 0 ∷ 5 ∷ 0 ∷ 0 ∷ 0 ∷ 0 ∷ 0 ∷ 0 ∷ 0 ∷ 0 ∷ []) 2

abbrev above : Table
above = table_from (pos 127) DEGREE (replicate 12 15) 15

-- offsets of 0 make equal thresholds: 30 degrees and offsets 0, 0, 0, 5, 0, .. are three thresholds at 60 half degrees and nine at 70. With
-- a hysteresis of 2, 66 keeps step 12 and 65 does not; it raises no step. 127 degrees and offsets of 15 are thresholds at 284, 314, ..,
-- above all readings: from step 12, where missing led, 255 plus the hysteresis of 15 is at the first of them, and no further
pub corners : (new_step grouped 0 (T (pos 59)) ≡ 0) × (new_step grouped 0 (T (pos 60)) ≡ 3) × (new_step grouped 3 (T (pos 69)) ≡ 3) × (new_step grouped 3 (T (pos 70)) ≡ 12) × (new_step grouped 12 (T (pos 66)) ≡ 12) × (new_step grouped 12 (T (pos 65)) ≡ 3) × (new_step above 0 (T (pos 255)) ≡ 0) × (new_step above 12 (T (pos 255)) ≡ 1) × (new_step above 12 (T (pos 253)) ≡ 0)
unfolding stated_reading new_step settled not_above count_to threshold_reached is_reached sum_to
corners = (refl, refl, refl, refl, refl, refl, refl, refl, refl)

-- document 02, Q-6: twelve offsets of 63, by base and unit, with a hysteresis of 15
abbrev pub tall : ℤ → ℕ → Table
tall base unit = table_from base unit (replicate 12 63) 15

-- twelve are 756 counts. From 127 degrees the thresholds are 380, 506, .., 1766 half degrees, or 317, 380, .., 1010 where a count is a half
-- degree: no reading reaches one, not with the hysteresis either, and from step 12, where missing led, 255 leads to 0. 1765 and 1009, which no
-- chip reads, are below the last
pub tallest : (sum_to (replicate 12 63) 12 ≡ 756) × (new_step (tall (pos 127) DEGREE) 0 (T (pos 255)) ≡ 0) × (new_step (tall (pos 127) DEGREE) 12 (T (pos 255)) ≡ 0) × (new_step (tall (pos 127) DEGREE) 0 Missing ≡ 12) × (new_step (tall (pos 127) HALF) 0 (T (pos 255)) ≡ 0) × (new_step (tall (pos 127) HALF) 12 (T (pos 255)) ≡ 0) × (new_step (tall (pos 127) DEGREE) 0 (T (pos 1766)) ≡ 12) × (new_step (tall (pos 127) DEGREE) 0 (T (pos 1765)) ≡ 11) × (new_step (tall (pos 127) HALF) 0 (T (pos 1010)) ≡ 12) × (new_step (tall (pos 127) HALF) 0 (T (pos 1009)) ≡ 11)
unfolding stated_reading new_step settled not_above count_to threshold_reached is_reached sum_to
tallest = (refl, refl, refl, refl, refl, refl, refl, refl, refl, refl)

-- from -127 degrees they are -128, -2, 124, 250, 376, .., or -191, -128, -65, -2, 61, 124, 187, 250, 313, ..: -254 reaches none, 255 four or
-- eight, from step 12 too. Offsets of 0 are thresholds at -254, which -254 reaches: one, or all twelve
pub lowest : (new_step (tall (negsuc 126) DEGREE) 0 (T (negsuc 253)) ≡ 0) × (new_step (tall (negsuc 126) DEGREE) 0 (T (negsuc 128)) ≡ 0) × (new_step (tall (negsuc 126) DEGREE) 0 (T (negsuc 127)) ≡ 1) × (new_step (tall (negsuc 126) DEGREE) 0 (T (pos 249)) ≡ 3) × (new_step (tall (negsuc 126) DEGREE) 0 (T (pos 255)) ≡ 4) × (new_step (tall (negsuc 126) DEGREE) 12 (T (pos 255)) ≡ 4) × (new_step (tall (negsuc 126) HALF) 0 (T (negsuc 253)) ≡ 0) × (new_step (tall (negsuc 126) HALF) 0 (T (pos 255)) ≡ 8) × (new_step (tall (negsuc 126) HALF) 12 (T (pos 255)) ≡ 8) × (new_step (table_from (negsuc 126) DEGREE (0 ∷ replicate 11 63) 0) 0 (T (negsuc 253)) ≡ 1) × (new_step (table_from (negsuc 126) DEGREE (replicate 12 0) 0) 0 (T (negsuc 253)) ≡ 12)
unfolding stated_reading new_step settled not_above count_to threshold_reached is_reached sum_to
lowest = (refl, refl, refl, refl, refl, refl, refl, refl, refl, refl, refl)

-- table 1 without a setup: thresholds 64, 68, .., 108 half degrees, hysteresis 4
abbrev plain : Table
plain = table_of default_setup 0x00 0

-- document 02, Q-11. From 0 at 70 the search passes 64 and 68, and 72 stops it; from 2 at 80 it passes 72, 76 and 80, and 84 stops it. From 5 at
-- 70 it is stopped at once by 84, passes 80 and 76, which are above 74, and 72 stops it; at 3 it is stopped by 76 and by 72. From 12 at 70
-- there is nothing upward: it passes 108 to 76, nine, and 72 stops it. 12 stays at 108; at 0 and 63 there is nothing downward. Nothing stops
-- it from 0 to 12 and back, where 59 and 4 are 63. Missing compares none. 13 and 255 are taken as 12
pub searches : (searched plain 0 (T (pos 70)) ≡ record { step = 2; compared = 3 }) × (searched plain 2 (T (pos 80)) ≡ record { step = 5; compared = 4 }) × (searched plain 5 (T (pos 70)) ≡ record { step = 3; compared = 4 }) × (searched plain 3 (T (pos 70)) ≡ record { step = 3; compared = 2 }) × (searched plain 12 (T (pos 70)) ≡ record { step = 3; compared = 10 }) × (searched plain 12 (T (pos 108)) ≡ record { step = 12; compared = 1 }) × (searched plain 0 (T (pos 63)) ≡ record { step = 0; compared = 1 }) × (searched plain 0 (T (pos 108)) ≡ record { step = 12; compared = 12 }) × (searched plain 12 (T (pos 59)) ≡ record { step = 0; compared = 12 }) × (searched plain 5 Missing ≡ record { step = 12; compared = 0 }) × (searched plain 13 (T (pos 70)) ≡ record { step = 3; compared = 10 }) × (searched plain 255 (T (pos 108)) ≡ record { step = 12; compared = 1 })
unfolding stated_reading searched walk walk_from upward downward new_step table_of unit_of is_set settled not_above count_to threshold_reached is_reached sum_to default_setup
searches = (refl, refl, refl, refl, refl, refl, refl, refl, refl, refl, refl, refl)

-- boost 40 degrees, hysteresis 3: on from 80 half degrees, kept from 74 up, off at 73; missing is on; -10 degrees with its sign
pub boosts : (is_boosted true (Some (pos 40)) 3 (T (pos 80)) false ≡ true) × (is_boosted true (Some (pos 40)) 3 (T (pos 79)) false ≡ false) × (is_boosted true (Some (pos 40)) 3 (T (pos 74)) true ≡ true) × (is_boosted true (Some (pos 40)) 3 (T (pos 73)) true ≡ false) × (is_boosted true (Some (pos 40)) 3 Missing false ≡ true) × (is_boosted true None 3 Missing true ≡ false) × (is_boosted false (Some (pos 40)) 3 Missing true ≡ false) × (is_boosted true (Some (negsuc 9)) 3 (T (negsuc 19)) false ≡ true) × (is_boosted true (Some (negsuc 9)) 3 (T (negsuc 26)) true ≡ false)
unfolding stated_reading is_boosted is_latched
boosts = (refl, refl, refl, refl, refl, refl, refl, refl, refl)

-- document 02, Q-7, in sixteenths: table 1 without a setup has thresholds at 512, 544, 576, .., and a hysteresis of 32. 543 plus 32 is one
-- below the third; a T of 67 is 536. In half degrees (LT12_RS) the thresholds are 496, 512, .. From 0 degrees with offsets of 0 one
-- sixteenth below is step 0
pub fine_steps : (new_step plain 0 (U (pos 511)) ≡ 0) × (new_step plain 0 (U (pos 512)) ≡ 1) × (new_step plain 0 (U (pos 543)) ≡ 1) × (new_step plain 0 (U (pos 544)) ≡ 2) × (new_step plain 12 (U (pos 543)) ≡ 2) × (new_step plain 12 (U (pos 544)) ≡ 3) × (new_step plain 12 (T (pos 67)) ≡ 2) × (new_step (table_of default_setup 0x10 0) 0 (U (pos 495)) ≡ 0) × (new_step (table_of default_setup 0x10 0) 0 (U (pos 496)) ≡ 1) × (new_step (table_from (pos 0) DEGREE (replicate 12 0) 0) 12 (U (negsuc 0)) ≡ 0) × (new_step (table_from (pos 0) DEGREE (replicate 12 0) 0) 0 (U (pos 0)) ≡ 12)
unfolding stated_reading new_step table_of unit_of is_set settled not_above count_to threshold_reached is_reached sum_to default_setup
fine_steps = (refl, refl, refl, refl, refl, refl, refl, refl, refl, refl, refl)

-- boost 40 degrees, hysteresis 3: on from 640 sixteenths, kept from 592 up, off at 591; -10 degrees are -160 and -208
pub fine_boosts : (is_boosted true (Some (pos 40)) 3 (U (pos 640)) false ≡ true) × (is_boosted true (Some (pos 40)) 3 (U (pos 639)) false ≡ false) × (is_boosted true (Some (pos 40)) 3 (U (pos 592)) true ≡ true) × (is_boosted true (Some (pos 40)) 3 (U (pos 591)) true ≡ false) × (is_boosted true (Some (negsuc 9)) 3 (U (negsuc 159)) false ≡ true) × (is_boosted true (Some (negsuc 9)) 3 (U (negsuc 160)) false ≡ false) × (is_boosted true (Some (negsuc 9)) 3 (U (negsuc 207)) true ≡ true) × (is_boosted true (Some (negsuc 9)) 3 (U (negsuc 208)) true ≡ false)
unfolding stated_reading is_boosted is_latched
fine_boosts = (refl, refl, refl, refl, refl, refl, refl, refl)

-- delay 0 goes at once; delay 2 moves at every second tick; levels stay within 0 to 256; PROCHOT has the high half of BFh
pub ramps : (ramped_on (record { level = 0; wait = 7 }) true 0 ≡ record { level = 256; wait = 0 }) × (ramped_on (record { level = 256; wait = 0 }) false 0 ≡ record { level = 0; wait = 0 }) × (ramped_on (record { level = 32; wait = 0 }) true 2 ≡ record { level = 32; wait = 1 }) × (ramped_on (record { level = 32; wait = 1 }) true 2 ≡ record { level = 48; wait = 0 }) × (ramped_on (record { level = 250; wait = 1 }) true 2 ≡ record { level = 256; wait = 0 }) × (ramped_on (record { level = 10; wait = 9 }) false 1 ≡ record { level = 0; wait = 0 }) × (delay_of 0x21 1 ≡ 1) × (delay_of 0x21 2 ≡ 2)
unfolding ramped_on moved_level delay_of
ramps = (refl, refl, refl, refl, refl, refl, refl, refl)

-- binding 17 is table 1 and VRD1; an override stands in place of the tables only; nothing bound asks 0
pub duties : (fan_duty 17 None (96 ∷ 240 ∷ 240 ∷ 240 ∷ []) (16 ∷ 256 ∷ 256 ∷ 256 ∷ []) false ≡ 96) × (fan_duty 17 (Some 10) (96 ∷ 240 ∷ 240 ∷ 240 ∷ []) (16 ∷ 256 ∷ 256 ∷ 256 ∷ []) false ≡ 16) × (fan_duty 17 (Some 10) (96 ∷ 240 ∷ 240 ∷ 240 ∷ []) (16 ∷ 256 ∷ 256 ∷ 256 ∷ []) true ≡ 256) × (fan_duty 0 None (96 ∷ 240 ∷ 240 ∷ 240 ∷ []) (16 ∷ 256 ∷ 256 ∷ 256 ∷ []) false ≡ 0)
unfolding fan_duty tables_ask bound_largest is_set
duties = (refl, refl, refl, refl)

-- loaded only where the duty was 0; the count falls even where the duty fell back to 0
pub kicks : (kicked_fan 0 96 0 128 2 ≡ record { output = 128; start = 1 }) × (kicked_fan 96 96 1 128 2 ≡ record { output = 128; start = 0 }) × (kicked_fan 96 96 0 128 2 ≡ record { output = 96; start = 0 }) × (kicked_fan 96 0 1 128 2 ≡ record { output = 128; start = 0 }) × (kicked_fan 0 0 0 128 2 ≡ record { output = 0; start = 0 }) × (kicked_fan 0 200 0 128 0 ≡ record { output = 200; start = 0 })
unfolding kicked_fan loaded_start
kicks = (refl, refl, refl, refl, refl, refl)
