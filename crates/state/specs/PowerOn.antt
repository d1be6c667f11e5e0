-- The setup without a setup, and the chip at power-on (document 01, "Setup" and "Events"; document 02, Q-2 and Q-4). Assumes nothing.
use Rattle.std.specs.Prelude.{false, [], ◌∷◌, pos, replicate, None}
use Rattle.map.specs.Tables.{defaults}
use Rattle.state.specs.declared.Chip.{Chip}
use Rattle.state.specs.declared.Drive.{Drive}
use Rattle.state.specs.declared.Setup.{Setup}
use Rattle.state.specs.Parts.{no_zone, no_gauge, no_kept, no_ramp, no_boost, no_override}

-- "Without a setup: level 0; bases 30; offsets 2; hystereses 2; duties 0, 64, 80 and so on by 16 to 240; no boost; boost hysteresis 3;
-- bindings 17 and 4; no override; start duties 128; start counts 2."
unfoldable pub default_setup : Setup
default_setup = record {
  level = 0;
  bases = replicate 4 (pos 30);
  offsets12 = replicate 12 2;
  offsets34 = replicate 12 2;
  hystereses = replicate 2 2;
  duties = 0 ∷ 64 ∷ 80 ∷ 96 ∷ 112 ∷ 128 ∷ 144 ∷ 160 ∷ 176 ∷ 192 ∷ 208 ∷ 224 ∷ 240 ∷ [];
  boosts = replicate 6 no_boost;
  boost_hysteresis = 3;
  bindings = 17 ∷ 4 ∷ [];
  overrides = replicate 2 no_override;
  start_duties = replicate 2 128;
  start_counts = replicate 2 2;
}

-- "duties, ramp levels, wait and start counts 0, boosts off"; "Steps start at 0."
unfoldable pub at_rest : Drive
at_rest = record {
  steps = replicate 4 0;
  boosts = replicate 6 false;
  ramps = replicate 4 no_ramp;
  duties = replicate 2 0;
  starts = replicate 2 0;
}

-- "The state holds a register file of 256 bytes, filled at power-on from the defaults." "At power-on all readings are missing, hot
-- inputs 0, duties, ramp levels, wait and start counts 0, boosts off, LOCK and GMSK clear, nothing latched."
-- 02, Q-2: "a channel is in error from a taken reading outside its limits": at power-on none has been taken.
-- 02, Q-4: "One kept byte per fan joins the chip's state, power-on starts with none"
unfoldable pub power_on : Setup → Chip
power_on s = record {
  setup = s;
  registers = defaults;
  zones = replicate 6 no_zone;
  volts = replicate 16 no_gauge;
  erring = replicate 16 false;
  fans = replicate 4 no_gauge;
  kept = replicate 4 no_kept;
  hot = replicate 4 false;
  pin = record { level = s.level; latch = None };
  drive = at_rest;
}
