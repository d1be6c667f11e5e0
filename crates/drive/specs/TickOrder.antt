-- Of two chips, one no hotter than the other, a tick gives the cooler one duties no higher, and leaves it no hotter. A tick changes nothing
-- but what turns the fans. Assumes nothing.
use Rattle.std.specs.Prelude.{◌≡◌, refl, ◌≢◌, Bool, false, get_or}
use Rattle.std.proofs.Math.Path.{subst₂}
use mathlib.Core.List.{List}
use Prim.Native.Nat.{ℕ, ◌≤◌, ◌<◌}
use Rattle.std.proofs.Common.{arith}
use Rattle.std.proofs.Math.Dec.{T}
use Rattle.laws.specs.Pointwise.{firsts_at, firsts_related}
use Rattle.map.specs.Names.{TEMPERATURE_SOURCE_SELECT, FAN_CONTROL_BINDINGS, B_ERROR_STATUS_1, H_ERROR_STATUS_1, SPECIAL_FUNCTION_CONTROL_2, PWM_RAMP_CONTROL}
use Rattle.temperature.specs.Order.{NoHotter}
use Rattle.state.specs.declared.Chip.{Chip}
use Rattle.state.specs.declared.Ramp.{Ramp}
use Rattle.state.specs.declared.Setup.{Setup}
use Rattle.state.specs.Parts.{register_at, zone_at, hot_at}
use Rattle.state.specs.Valid.{Valid, valid_duties}
use Rattle.state.specs.Order.{Cooler}
use Rattle.drive.specs.Tables.{table_of}
use Rattle.drive.specs.Tick.{followed, step_after, ask_after, steps_after, asks_after, boost_after, boosts_after, any_on, ramp_after, ramps_after, levels_of, duty_after, duty_of, drive_after, ticked_chip}
use Rattle.drive.specs.Rising.{step_mono, asked_mono, followed_mono, boost_mono, any_mono, duty_mono}

-- ---- what a tick keeps

-- one chip is another but for what turns the fans
pub record SameButDrive (c d : Chip) : Type 0 where
  pub setup : c.setup ≡ d.setup
  pub registers : c.registers ≡ d.registers
  pub zones : c.zones ≡ d.zones
  pub volts : c.volts ≡ d.volts
  pub erring : c.erring ≡ d.erring
  pub fans : c.fans ≡ d.fans
  pub kept : c.kept ≡ d.kept
  pub hot : c.hot ≡ d.hot
  pub pin : c.pin ≡ d.pin

-- a tick changes nothing but the drive
pub tick_keeps : (c : Chip) → SameButDrive (ticked_chip c).chip c
unfolding ticked_chip
tick_keeps c = record { setup = refl; registers = refl; zones = refl; volts = refl; erring = refl; fans = refl; kept = refl; hot = refl; pin = refl }

-- the duties that a tick leaves are the two fans' duties
pub tick_duties : (c : Chip) (fan : ℕ) → fan < 2 → get_or (ticked_chip c).chip.drive.duties fan 0 ≡ duty_of c fan
unfolding ticked_chip drive_after
tick_duties c fan l = firsts_at (duty_of c) 2 fan 0 l

-- ---- a cooler chip, c, beside a hotter one, d

module _ {c d : Chip} (k : Cooler c d) where
  -- the registers that a tick goes by are the same: none of them has an error bit of a zone
  register_same : (a : ℕ) → a ≢ B_ERROR_STATUS_1 → a ≢ H_ERROR_STATUS_1 → register_at c a ≡ register_at d a
  unfolding register_at
  register_same = k.registers.each

  source_same : register_at c TEMPERATURE_SOURCE_SELECT ≡ register_at d TEMPERATURE_SOURCE_SELECT
  source_same = register_same TEMPERATURE_SOURCE_SELECT (λ e. omega arith) (λ e. omega arith)

  bindings_same : register_at c FAN_CONTROL_BINDINGS ≡ register_at d FAN_CONTROL_BINDINGS
  bindings_same = register_same FAN_CONTROL_BINDINGS (λ e. omega arith) (λ e. omega arith)

  units_same : register_at c SPECIAL_FUNCTION_CONTROL_2 ≡ register_at d SPECIAL_FUNCTION_CONTROL_2
  units_same = register_same SPECIAL_FUNCTION_CONTROL_2 (λ e. omega arith) (λ e. omega arith)

  delays_same : register_at c PWM_RAMP_CONTROL ≡ register_at d PWM_RAMP_CONTROL
  delays_same = register_same PWM_RAMP_CONTROL (λ e. omega arith) (λ e. omega arith)

  -- a table is the same
  pub table_same : (table : ℕ) → table_of c.setup (register_at c SPECIAL_FUNCTION_CONTROL_2) table ≡ table_of d.setup (register_at d SPECIAL_FUNCTION_CONTROL_2) table
  table_same table = cc (k.setup, units_same)

  -- a ramp is the same
  pub ramp_same : (input : ℕ) → ramp_after c input ≡ ramp_after d input
  unfolding ramp_after hot_at
  ramp_same input = cc (k.drive.ramps, k.hot, delays_same)

  -- what a table follows is no hotter
  pub followed_rises : (table : ℕ) → NoHotter (followed c table) (followed d table)
  unfolding followed zone_at
  followed_rises table = rw (← source_same, ← bindings_same) (followed_mono c.zones d.zones k.zones _ _ table)

  -- a table's step is no higher
  pub step_rises : (table : ℕ) → step_after c table ≤ step_after d table
  unfolding step_after
  step_rises table = rw (← table_same table) (step_mono _ (k.drive.steps table) (followed_rises table))

  -- a zone's boost that is on is on in the hotter chip
  pub boost_rises : (zone : ℕ) → T (boost_after c zone) → T (boost_after d zone)
  unfolding boost_after zone_at
  boost_rises zone = rw (← source_same, ← k.setup) (boost_mono _ _ _ _ _ (k.zones zone) (k.drive.boosts zone))

  -- the tables' steps are no higher
  pub table_steps_rise : (i : ℕ) → get_or (steps_after c) i 0 ≤ get_or (steps_after d) i 0
  unfolding steps_after ask_after
  table_steps_rise = firsts_related ◌≤◌ (step_after c) (step_after d) 4 step_rises (omega arith)

  -- the boosts that are on are on in the hotter chip
  pub boosts_rise : (i : ℕ) → T (get_or (boosts_after c) i false) → T (get_or (boosts_after d) i false)
  unfolding boosts_after
  boosts_rise = firsts_related (λ (v w : Bool). T v → T w) (boost_after c) (boost_after d) 6 boost_rises (λ t. t)

  -- the ramps are the same
  pub ramps_same : ramps_after c ≡ ramps_after d
  unfolding ramps_after
  ramps_same = cc (ramp_same 0, ramp_same 1, ramp_same 2, ramp_same 3)

module _ {c d : Chip} (v : Valid c.setup) (k : Cooler c d) where
  -- what a table asks is no higher
  pub ask_rises : (table : ℕ) → (ask_after c table).duty ≤ (ask_after d table).duty
  unfolding ask_after step_after followed register_at
  ask_rises table = rw (← table_same k table, ← k.setup) (asked_mono _ (valid_duties _ v) _ (k.drive.steps table) (followed_rises k table))

  -- what the four tables ask is no higher
  pub asks_rise : (i : ℕ) → get_or (asks_after c) i 0 ≤ get_or (asks_after d) i 0
  unfolding asks_after
  asks_rise = firsts_related ◌≤◌ (λ i. (ask_after c i).duty) (λ i. (ask_after d i).duty) 4 ask_rises (omega arith)

  -- a fan's duty after a tick is no higher
  pub duty_rises : (fan : ℕ) → duty_of c fan ≤ duty_of d fan
  unfolding duty_of duty_after
  duty_rises fan =
      subst₂ (λ (s : Setup) (rs : List Ramp). duty_of c fan ≤ duty_after s fan (asks_after d) (levels_of rs) (any_on (boosts_after d))) k.setup (ramps_same k)
      (duty_mono _ _ (asks_after c) (asks_after d) _ (any_on (boosts_after c)) (any_on (boosts_after d)) asks_rise
      (any_mono (boosts_after c) (boosts_after d) (boosts_rise k)))

  -- after a tick the cooler chip is no hotter
  pub tick_cooler : Cooler (ticked_chip c).chip (ticked_chip d).chip
  unfolding ticked_chip drive_after zone_at
  tick_cooler = record {
    setup = k.setup;
    registers = k.registers;
    zones = k.zones;
    volts = k.volts;
    erring = k.erring;
    fans = k.fans;
    kept = k.kept;
    hot = k.hot;
    pin = k.pin;
    drive = record {
      steps = table_steps_rise k;
      boosts = boosts_rise k;
      ramps = ramps_same k;
      duties = firsts_related ◌≤◌ (duty_of c) (duty_of d) 2 duty_rises (omega arith);
    };
  }
