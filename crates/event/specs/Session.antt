-- The session of document 01, "Lines and refusals", computed on the definitions, event after event: the chip that each leaves and its
-- answer. Assumes nothing.
use Rattle.std.specs.Prelude.{◌≡◌, refl, true, false, List, [], ◌∷◌, map, ℕ, pos, replicate, Some, None}
use Rattle.std.proofs.Common.{sym, ap, ◌∙◌}
use Rattle.laws.specs.Count.{count_to}
use Rattle.map.specs.Tables.{defaults, writables, lock_marks, homes}
use Rattle.map.specs.Map.{writable_of, lock_marked, home_of}
use Rattle.map.specs.Bits.{is_set}
use Rattle.map.specs.Kind.{kind_of}
use Rattle.map.specs.FanBytes.{byte_of_kind, fan_byte_at}
use Rattle.map.specs.Slave.{slave_address}
use Rattle.masks.specs.Masks.{state_by, sleep_state, is_masked, fan_masking, fan_masked}
use Rattle.temperature.specs.declared.Reading.TheVariants as reading
use Rattle.temperature.specs.declared.Stated.TheVariants.{Halves}
use Rattle.temperature.specs.Temperature.{stated_reading, byte_of, whole_of, whole_byte, hotter_of}
use Rattle.state.specs.declared.Chip.{Chip}
use Rattle.state.specs.declared.Ramp.{Ramp}
use Rattle.state.specs.declared.Refusal.TheVariants as refusal
use Rattle.state.specs.Parts.{no_ramp, register_at, zone_at, zone_enabled, hot_at}
use Rattle.state.specs.With.{with_registers, with_pin, with_drive, with_register, with_zone, with_hot_input}
use Rattle.state.specs.PowerOn.{default_setup, power_on, at_rest}
use Rattle.state.specs.Made.{fresh}
use Rattle.sense.specs.Errors.{with_bit, marked, marked_fan, low_limit, high_limit, fan_limit, fan_limit_at}
use Rattle.sense.specs.ZoneLimits.{zone_number, low_temp, high_temp, temps_watched, zone_watched, compared_zone, zone_file}
use Rattle.sense.specs.Missing.{volt_watched, fan_watched, missed_volt, missed_fan, missed_zone, missed_volts, missed_fans, missed_zones, missed_file}
use Rattle.sense.specs.Standing.{zone_counts, volt_counts, fan_counts, errors_standing, alert_active}
use Rattle.sense.specs.Events.{read_zone, zone_three_fed, zone_heard, took_temperature, took_hot}
use Rattle.bus.specs.Latch.{latch_by, latch_after, transacted_pin, is_ours, transacted}
use Rattle.bus.specs.Write.{stored_byte, stored, change_kind, is_shut, change_home, change_of, changed, wrote_register, wrote_byte}
use Rattle.bus.specs.Read.{shown_kind, shown_home, shown_register, given_at, given_register, kept_as, kept_after, read_byte}
use Rattle.drive.specs.declared.Driven.{Driven}
use Rattle.drive.specs.Tables.{joined_zone, zone_one, zone_two, followed_zone, unit_of, table_of, sum_to, is_reached, threshold_reached, not_above, settled, new_step, asked_duty}
use Rattle.drive.specs.Boosts.{is_boosted}
use Rattle.drive.specs.Ramps.{delay_of, moved_level, ramped_on}
use Rattle.drive.specs.Duties.{bound_largest, tables_ask, fan_duty, loaded_start, kicked_fan}
use Rattle.drive.specs.Tick.{followed, step_after, ask_after, steps_after, asks_after, boost_after, boosts_after, any_on, ramp_after, ramps_after, levels_of, duty_after, duty_of, kick_after, drive_after, outputs_after, driven, driven_by_parts}
use Rattle.event.specs.declared.Event.{Event}
use Rattle.event.specs.declared.Event.TheVariants.{Temperature, Hot, Tick, Write, Read}
use Rattle.event.specs.declared.Answer.{Answer}
use Rattle.event.specs.declared.Answer.TheVariants.{Nothing, Refused, Acknowledged, Byte, Ticked}
use Rattle.event.specs.Event.{index_in, reading_within, stated_in, level_in, level_of, quiet_step, refused_step, event_in, refusal_of, tick_answer, written_answer, seen_answer, read_answer, taken_step, stepped_chip}
use Rattle.event.specs.Run.{Given, alone, answers_to}
use Rattle.event.specs.Ticking.{tick_from, tick_by_parts}

-- K, T 1 70, T 5 66, K, W 2C BF 01, H 1 1, K, W 2C B5 80, K, R 2C 52, R 2D 52, T 6 10
unfoldable pub session : List Given
session =
    map alone
    (Tick ∷ Temperature 1 (Halves (pos 70)) ∷ Temperature 5 (Halves (pos 66)) ∷ Tick ∷ Write 0x2C 0xBF 0x01 ∷ Hot 1 (Some 1) ∷ Tick ∷ Write 0x2C 0xB5 0x80 ∷ Tick ∷ Read 0x2C 0x52 ∷ Read 0x2D 0x52 ∷ Temperature 6 (Halves (pos 10)) ∷ [])

unfoldable pub answers : List Answer
answers =
    Ticked (record { alert = false; duty1 = 256; duty2 = 256; output1 = 256; output2 = 256; errors = 0 })
    ∷ Nothing
    ∷ Nothing
    ∷ Ticked (record { alert = false; duty1 = 96; duty2 = 80; output1 = 128; output2 = 128; errors = 0 })
    ∷ Acknowledged true
    ∷ Nothing
    ∷ Ticked (record { alert = false; duty1 = 96; duty2 = 80; output1 = 96; output2 = 80; errors = 0 })
    ∷ Acknowledged true
    ∷ Ticked (record { alert = true; duty1 = 96; duty2 = 80; output1 = 96; output2 = 80; errors = 1 })
    ∷ Byte (Some 0x21)
    ∷ Byte None
    ∷ Refused refusal.Event
    ∷ []

-- ---- the chips between the events

-- from T 5 66 on: tables 1 and 3 follow zones 1a and 3, the others follow zones that are missing
abbrev steps : List ℕ
steps = 3 ∷ 12 ∷ 2 ∷ 12 ∷ []

abbrev asks : List ℕ
asks = 96 ∷ 256 ∷ 80 ∷ 256 ∷ []

-- what a tick makes of the fans; no zone has a boost
abbrev turned : List ℕ → List Ramp → List ℕ → List ℕ → List ℕ → Driven
turned reached ramps duties starts outputs =
    record { drive = record { steps = reached; boosts = replicate 6 false; ramps = ramps; duties = duties; starts = starts }; outputs = outputs }

-- the ramps, VRD1's at a level
abbrev level_one : ℕ → List Ramp
level_one level = record { level = level; wait = 0 } ∷ replicate 3 no_ramp

-- the first tick: every reading is missing
abbrev driven1 : Driven
driven1 = turned (replicate 4 12) (level_one 0) (256 ∷ 256 ∷ []) (1 ∷ 1 ∷ []) (256 ∷ 256 ∷ [])

-- the second: zones 1a and 3 have readings
abbrev driven2 : Driven
driven2 = turned steps (level_one 0) (96 ∷ 80 ∷ []) (0 ∷ 0 ∷ []) (128 ∷ 128 ∷ [])

-- the third and the fourth: VRD1 is hot
abbrev driven3 : Driven
driven3 = turned steps (level_one 16) (96 ∷ 80 ∷ []) (0 ∷ 0 ∷ []) (96 ∷ 80 ∷ [])

abbrev driven4 : Driven
driven4 = turned steps (level_one 32) (96 ∷ 80 ∷ []) (0 ∷ 0 ∷ []) (96 ∷ 80 ∷ [])

-- after K
abbrev chip1 : Chip
chip1 = with_drive fresh driven1.drive

-- after T 1 70
abbrev chip2 : Chip
chip2 = with_zone chip1 0 (reading.Taken (pos 560))

-- after T 5 66
abbrev chip3 : Chip
chip3 = with_zone chip2 4 (reading.Taken (pos 528))

-- after K
abbrev chip4 : Chip
chip4 = with_drive chip3 driven2.drive

-- after W 2C BF 01, which latches the address
abbrev chip5 : Chip
chip5 = with_register (with_pin chip4 (record { level = 0; latch = Some 0x2C })) 0xBF 0x01

-- after H 1 1
abbrev chip6 : Chip
chip6 = with_hot_input chip5 0 true

-- after K
abbrev chip7 : Chip
chip7 = with_drive chip6 driven3.drive

-- after W 2C B5 80
abbrev chip8 : Chip
chip8 = with_register chip7 0xB5 0x80

-- with the marks of K: fan 1, in both groups
abbrev chip9 : Chip
chip9 = with_register (with_register chip8 0x47 0x01) 0x4F 0x01

-- after K, and after all that follows
abbrev chip10 : Chip
chip10 = with_drive chip9 driven4.drive

-- ---- the events

-- the chip c answers a to the event e, and is d then
record Answered (c : Chip) (e : Event) (a : Answer) (d : Chip) : Type 0 where
  step : stepped_chip c e [] ≡ record { chip = d; answer = a }

-- the chip c answers xs to the events gs, one after the other
data AllAnswered : Chip → List Given → List Answer → Type 0 where
  done : {c : Chip} → AllAnswered c [] []
  next : {c d : Chip} {e : Event} {a : Answer} {gs : List Given} {xs : List Answer} → Answered c e a d → AllAnswered d gs xs → AllAnswered c (alone e ∷ gs) (a ∷ xs)

all_answered : {c : Chip} {gs : List Given} {xs : List Answer} → AllAnswered c gs xs → answers_to c gs ≡ xs
unfolding answers_to
all_answered done = refl
all_answered (next {a = a} g h) = rw g.step (ap (λ (xs : List Answer). a ∷ xs) (all_answered h))

-- T 1 70, T 5 66, and T 6 10, which is refused
temperatures : Answered chip1 (Temperature 1 (Halves (pos 70))) Nothing chip2 × Answered chip2 (Temperature 5 (Halves (pos 66))) Nothing chip3 × Answered chip10 (Temperature 6 (Halves (pos 10))) (Refused refusal.Event) chip10
unfolding stepped_chip refusal_of event_in index_in stated_in reading_within stated_reading taken_step quiet_step refused_step took_temperature zone_heard zone_three_fed read_zone zone_file compared_zone zone_watched temps_watched low_temp high_temp zone_number is_set register_at with_zone power_on defaults
temperatures = (record { step = refl }, record { step = refl }, record { step = refl })

-- W 2C BF 01, W 2C B5 80
writes : Answered chip4 (Write 0x2C 0xBF 0x01) (Acknowledged true) chip5 × Answered chip7 (Write 0x2C 0xB5 0x80) (Acknowledged true) chip8
unfolding stepped_chip refusal_of event_in taken_step written_answer wrote_byte transacted transacted_pin latch_after latch_by is_ours slave_address wrote_register changed change_of change_home change_kind is_shut stored stored_byte register_at with_register with_zone with_hot_input home_of homes kind_of writable_of writables lock_marked lock_marks is_set power_on default_setup defaults
writes = (record { step = refl }, record { step = refl })

-- H 1 1
hot : Answered chip5 (Hot 1 (Some 1)) Nothing chip6
unfolding stepped_chip refusal_of event_in index_in level_in level_of taken_step quiet_step took_hot
hot = record { step = refl }

-- R 2C 52, R 2D 52
reads : Answered chip10 (Read 0x2C 0x52) (Byte (Some 0x21)) chip10 × Answered chip10 (Read 0x2D 0x52) (Byte None) chip10
unfolding stepped_chip refusal_of event_in taken_step read_answer seen_answer read_byte transacted transacted_pin latch_after latch_by is_ours given_register given_at kept_after kept_as fan_byte_at byte_of_kind shown_register shown_home shown_kind whole_byte whole_of byte_of zone_at with_register with_zone with_hot_input home_of homes kind_of power_on
reads = (record { step = refl }, record { step = refl })

-- ---- K

-- a tick by its two parts, the missing marks and the fans, and what it then shows
tick : (c : Chip) {file : List ℕ} {d : Driven} {a : Answer} → file ≡ missed_file c.registers c.zones c.volts c.fans → d ≡ driven (with_registers c file) → (tick_from c file d).answer ≡ a → Answered c Tick a (with_drive (with_registers c file) d.drive)
unfolding stepped_chip refusal_of event_in tick_answer
tick c {file} {d} marked turned shown = record {
  step = sym (tick_by_parts c [] marked (turned ∙ sym (driven_by_parts (with_registers c file))))
      ∙ ap (λ (a : Answer). record { chip = with_drive (with_registers c file) d.drive; answer = a }) shown;
}

-- no channel, fan or zone is watched, until the last write gives fan 1 a limit
marks : (fresh.registers ≡ missed_file fresh.registers fresh.zones fresh.volts fresh.fans) × (chip3.registers ≡ missed_file chip3.registers chip3.zones chip3.volts chip3.fans) × (chip6.registers ≡ missed_file chip6.registers chip6.zones chip6.volts chip6.fans) × (chip9.registers ≡ missed_file chip8.registers chip8.zones chip8.volts chip8.fans)
unfolding missed_file missed_volts missed_fans missed_zones missed_volt missed_fan missed_zone volt_watched fan_watched zone_watched temps_watched low_limit high_limit fan_limit fan_limit_at low_temp high_temp zone_number marked_fan marked fan_masked fan_masking is_masked sleep_state state_by is_set with_bit with_register with_zone with_hot_input power_on defaults
marks = (refl, refl, refl, refl)

-- the steps of the four tables, and what they ask for
abbrev Asks : Chip → List ℕ → List ℕ → Type 0
Asks c reached duties = (steps_after c ≡ reached) × (asks_after c ≡ duties)

tables : Asks fresh (replicate 4 12) (replicate 4 256) × Asks chip3 steps asks × Asks chip6 steps asks × Asks chip9 steps asks
unfolding asks_after steps_after ask_after step_after followed asked_duty new_step settled not_above threshold_reached is_reached sum_to table_of unit_of followed_zone zone_one zone_two joined_zone hotter_of count_to register_at with_register with_zone with_hot_input is_set power_on at_rest default_setup defaults
tables = ((refl, refl), (refl, refl), (refl, refl), (refl, refl))

-- boosts, ramps, duties and the kick
fans : (driven1 ≡ driven fresh) × (driven2 ≡ driven chip3) × (driven3 ≡ driven chip6) × (driven4 ≡ driven chip9)
unfolding driven drive_after outputs_after kick_after duty_of duty_after levels_of ramps_after ramp_after any_on boosts_after boost_after kicked_fan loaded_start fan_duty tables_ask bound_largest ramped_on moved_level delay_of is_boosted zone_enabled register_at zone_at hot_at with_register with_zone with_hot_input is_set power_on at_rest default_setup defaults
fans = (
  rw (tables.0.0, tables.0.1),
  rw (tables.1.0, tables.1.1),
  rw (tables.2.0, tables.2.1),
  rw (tables.3.0, tables.3.1),
)

pub session_answers : answers_to (power_on default_setup) session ≡ answers
unfolding session answers tick_answer alert_active errors_standing zone_counts volt_counts fan_counts count_to fan_masked fan_masking is_masked sleep_state state_by is_set with_register with_zone with_hot_input power_on defaults
session_answers =
    all_answered
    (next (tick fresh marks.0 fans.0 refl)
    (next temperatures.0
    (next temperatures.1
    (next (tick chip3 marks.1 fans.1 refl)
    (next writes.0
    (next hot
    (next (tick chip6 marks.2 fans.2 refl)
    (next writes.1
    (next (tick chip8 marks.3 fans.3 refl)
    (next reads.0
    (next reads.1
    (next temperatures.2
    done))))))))))))
