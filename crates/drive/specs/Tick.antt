-- Document 01, "Fan duties": "Only a tick changes them, in this order." Assumes nothing.
use Rattle.std.specs.Prelude.{◌≡◌, Bool, true, false, List, [], ◌∷◌, ℕ, ltb, ℤ, pos, get_or}
use Rattle.std.proofs.Math.Path.{refl}
use Rattle.laws.specs.Pick.{either}
use Rattle.map.specs.Bits.{is_set}
use Rattle.map.specs.Names.{TEMPERATURE_SOURCE_SELECT, FAN_CONTROL_BINDINGS, SPECIAL_FUNCTION_CONTROL_2, PWM_RAMP_CONTROL, LT12_RS, LT34_RS}
use Rattle.temperature.specs.declared.Reading.{Reading}
use Rattle.state.specs.declared.Chip.{Chip}
use Rattle.state.specs.declared.Drive.{Drive}
use Rattle.state.specs.declared.Setup.{Setup}
use Rattle.state.specs.declared.Ramp.{Ramp}
use Rattle.state.specs.Parts.{no_ramp, no_boost, no_override, register_at, zone_at, zone_enabled, hot_at}
use Rattle.state.specs.With.{with_drive}
use Rattle.state.specs.Made.{of_registers, of_zones, of_drive, of_boosts, of_ramps, of_kick}
use Rattle.drive.specs.declared.Ask.{Ask}
use Rattle.drive.specs.declared.Before.{Before}
use Rattle.drive.specs.declared.Kick.{Kick}
use Rattle.drive.specs.declared.Driven.{Driven}
use Rattle.drive.specs.Tables.{followed_zone, unit_of, table_from, table_of, new_step, asked_duty}
use Rattle.drive.specs.Boosts.{is_boosted}
use Rattle.drive.specs.Ramps.{delay_of, ramped_on}
use Rattle.drive.specs.Duties.{fan_duty, kicked_fan}

-- ---- 1. tables

-- the reading that a table follows
unfoldable pub followed : Chip → ℕ → Reading
followed c table = followed_zone c.zones (register_at c TEMPERATURE_SOURCE_SELECT) (register_at c FAN_CONTROL_BINDINGS) table

-- how many sixteenths a count of offsets or hysteresis is, by a bit of BDh
abbrev pub unit_by : Chip → ℕ → ℕ
unit_by c bit = unit_of (is_set (register_at c SPECIAL_FUNCTION_CONTROL_2) bit)

unfoldable pub step_after : Chip → ℕ → ℕ
step_after c table = new_step (table_of c.setup (register_at c SPECIAL_FUNCTION_CONTROL_2) table) (get_or c.drive.steps table 0) (followed c table)

-- a table's step and the duty it asks for
unfoldable pub ask_after : Chip → ℕ → Ask
ask_after c table = record { step = step_after c table; duty = asked_duty c.setup.duties (step_after c table) (followed c table) }

unfoldable pub steps_after : Chip → List ℕ
steps_after c = (ask_after c 0).step ∷ (ask_after c 1).step ∷ (ask_after c 2).step ∷ (ask_after c 3).step ∷ []

unfoldable pub asks_after : Chip → List ℕ
asks_after c = (ask_after c 0).duty ∷ (ask_after c 1).duty ∷ (ask_after c 2).duty ∷ (ask_after c 3).duty ∷ []

-- ---- 2. boost

-- "for zones 1a, 2a, 3, 4, and 1b, 2b while enabled"
unfoldable pub boost_after : Chip → ℕ → Bool
boost_after c zone =
    is_boosted (zone_enabled (register_at c TEMPERATURE_SOURCE_SELECT) zone) (get_or c.setup.boosts zone no_boost) c.setup.boost_hysteresis (zone_at c zone) (get_or c.drive.boosts zone false)

unfoldable pub boosts_after : Chip → List Bool
boosts_after c =
    boost_after c 0 ∷ boost_after c 1 ∷ boost_after c 2 ∷ boost_after c 3 ∷ boost_after c 4 ∷ boost_after c 5 ∷ []

unfoldable pub any_on : List Bool → Bool
any_on [] = false
any_on (b ∷ bs) = either b (any_on bs)

-- ---- 3. ramps

unfoldable pub ramp_after : Chip → ℕ → Ramp
ramp_after c input = ramped_on (get_or c.drive.ramps input no_ramp) (hot_at c input) (delay_of (register_at c PWM_RAMP_CONTROL) input)

unfoldable pub ramps_after : Chip → List Ramp
ramps_after c = ramp_after c 0 ∷ ramp_after c 1 ∷ ramp_after c 2 ∷ ramp_after c 3 ∷ []

unfoldable pub levels_of : List Ramp → List ℕ
levels_of ramps =
    (get_or ramps 0 no_ramp).level ∷ (get_or ramps 1 no_ramp).level ∷ (get_or ramps 2 no_ramp).level ∷ (get_or ramps 3 no_ramp).level ∷ []

-- ---- 4. duties

unfoldable pub duty_after : Setup → ℕ → List ℕ → List ℕ → Bool → ℕ
duty_after s fan asks levels boosted =
    fan_duty (get_or s.bindings fan 0) (get_or s.overrides fan no_override) asks levels boosted

-- a fan's duty after a tick, before the start-up kick; fans count from 0
unfoldable pub duty_of : Chip → ℕ → ℕ
duty_of c fan = duty_after c.setup fan (asks_after c) (levels_of (ramps_after c)) (any_on (boosts_after c))

-- ---- 5. kick

unfoldable pub kick_after : Chip → ℕ → ℕ → Kick
kick_after c fan duty =
    kicked_fan (get_or c.drive.duties fan 0) duty (get_or c.drive.starts fan 0) (get_or c.setup.start_duties fan 0) (get_or c.setup.start_counts fan 0)

-- ---- the tick

unfoldable pub drive_after : Chip → Drive
drive_after c = record {
  steps = steps_after c;
  boosts = boosts_after c;
  ramps = ramps_after c;
  duties = duty_of c 0 ∷ duty_of c 1 ∷ [];
  starts = (kick_after c 0 (duty_of c 0)).start ∷ (kick_after c 1 (duty_of c 1)).start ∷ [];
}

unfoldable pub outputs_after : Chip → List ℕ
outputs_after c = (kick_after c 0 (duty_of c 0)).output ∷ (kick_after c 1 (duty_of c 1)).output ∷ []

-- what only a tick changes, as the tick leaves it, and its two outputs
unfoldable pub driven : Chip → Driven
driven c = record { drive = drive_after c; outputs = outputs_after c }

-- the chip after a tick, and its two outputs
pub record Ticked : Type 0 where
  pub chip : Chip
  pub outputs : List ℕ

unfoldable pub ticked_chip : Chip → Ticked
ticked_chip c = record { chip = with_drive c (drive_after c); outputs = outputs_after c }

-- ---- the parts that a tick looks at

-- a chip made of them
abbrev pub seen : Before → Chip
seen b = of_drive b.setup.now b.file.now b.zones.now b.hot.now b.old.now

-- a table's step: base, unit, offsets and hysteresis, which two tables share, the old step, and the reading that it follows
module _ (c : Chip) (table : ℕ) {base : ℤ} {unit : ℕ} {reading : Reading} (b : base ≡ get_or c.setup.bases table (pos 0)) (r : reading ≡ followed (of_zones c.registers c.zones) table) where
  pub step_by_parts12 : ltb table 2 ≡ true → unit ≡ unit_by (of_registers c.registers) LT12_RS → new_step (table_from base unit c.setup.offsets12 (get_or c.setup.hystereses 0 0)) (get_or c.drive.steps table 0) reading ≡ (ask_after c table).step
  unfolding ask_after step_after table_of followed register_at
  step_by_parts12 p u = rw (p, b, u, r)

  pub step_by_parts34 : ltb table 2 ≡ false → unit ≡ unit_by (of_registers c.registers) LT34_RS → new_step (table_from base unit c.setup.offsets34 (get_or c.setup.hystereses 1 0)) (get_or c.drive.steps table 0) reading ≡ (ask_after c table).step
  unfolding ask_after step_after table_of followed register_at
  step_by_parts34 p u = rw (p, b, u, r)

module _ (c : Chip) where
  -- what a table asks: duties, its new step, and the reading that it follows
  pub ask_by_parts : (table : ℕ) {step : ℕ} {reading : Reading} → step ≡ (ask_after c table).step → reading ≡ followed (of_zones c.registers c.zones) table → asked_duty c.setup.duties step reading ≡ (ask_after c table).duty
  unfolding ask_after followed register_at
  ask_by_parts table s r = rw (s, r)

  -- boosts: setup, registers, zones and old boosts
  pub boosts_by_parts : boosts_after (of_boosts c.setup c.registers c.zones c.drive.boosts) ≡ boosts_after c
  unfolding boosts_after boost_after register_at zone_at
  boosts_by_parts = refl

  -- ramps: registers, hot inputs and old ramps
  pub ramps_by_parts : ramps_after (of_ramps c.registers c.hot c.drive.ramps) ≡ ramps_after c
  unfolding ramps_after ramp_after register_at hot_at
  ramps_by_parts = refl

  -- a fan's duty: setup, what the four tables ask, the ramps' levels and whether any boost is on
  pub duty_of_by_parts : (fan : ℕ) {a0 a1 a2 a3 : ℕ} {levels : List ℕ} {boosted : Bool} → a0 ≡ (ask_after c 0).duty → a1 ≡ (ask_after c 1).duty → a2 ≡ (ask_after c 2).duty → a3 ≡ (ask_after c 3).duty → levels ≡ levels_of (ramps_after c) → boosted ≡ any_on (boosts_after c) → duty_after c.setup fan (a0 ∷ a1 ∷ a2 ∷ a3 ∷ []) levels boosted ≡ duty_of c fan
  unfolding duty_of asks_after
  duty_of_by_parts fan p0 p1 p2 p3 l b = rw (p0, p1, p2, p3, l, b)

  -- the kick: setup, old duties and old start counts
  pub kick_by_parts : (fan duty : ℕ) → kick_after (of_kick c.setup c.drive.duties c.drive.starts) fan duty ≡ kick_after c fan duty
  unfolding kick_after
  kick_by_parts fan duty = refl

  -- a tick: setup, registers, zones, hot inputs and what the last tick left
  pub driven_by_parts : driven (of_drive c.setup c.registers c.zones c.hot c.drive) ≡ driven c
  unfolding driven drive_after outputs_after kick_after duty_of ramps_after ramp_after boosts_after boost_after asks_after steps_after ask_after step_after followed register_at zone_at hot_at
  driven_by_parts = refl
