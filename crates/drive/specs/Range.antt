-- Steps are 0 to 12, ramp levels, duties and outputs 0 to 256: a law for each stage of a tick, and the ranges as what every tick keeps.
-- Assumes nothing.
use Rattle.std.specs.Prelude.{Bool, List, ℕ, zero, suc, ◌+◌, ◌/◌, ◌%◌, ◌^◌, ◌≤◌, eqb, ltb, get_or, Option}
use Rattle.std.proofs.Common.{arith}
use Rattle.laws.specs.Pointwise.{pick_each, firsts_each, replicate_each}
use Rattle.map.specs.Bits.{is_set}
use Rattle.state.specs.declared.Chip.{Chip}
use Rattle.state.specs.declared.Drive.{Drive}
use Rattle.state.specs.declared.Ramp.{Ramp}
use Rattle.state.specs.Parts.{no_ramp}
use Rattle.state.specs.PowerOn.{at_rest}
use Rattle.state.specs.Valid.{Valid, OverrideRange, none, some, valid_duties, valid_overrides, valid_start_duties}
use Rattle.drive.specs.declared.Kick.{Kick}
use Rattle.drive.specs.Ramps.{moved_level, ramped_on}
use Rattle.drive.specs.Duties.{bound_largest, tables_ask, fan_duty, loaded_start, kicked_fan}
use Rattle.drive.specs.Tick.{step_after, ask_after, steps_after, asks_after, ramp_after, ramps_after, levels_of, duty_after, duty_of, kick_after, drive_after, outputs_after, ticked_chip}
use Rattle.drive.specs.Rising.{step_le, asked_le}

-- ---- the stages

-- a level that moves is at most 256
pub moved_le : (level : ℕ) (hot : Bool) → moved_level level hot ≤ 256
unfolding moved_level
moved_le level hot = omega arith

-- a ramp's level stays at most 256
pub ramped_le : (r : Ramp) (hot : Bool) (n : ℕ) → r.level ≤ 256 → (ramped_on r hot n).level ≤ 256
unfolding ramped_on
ramped_le r hot n h =
    pick_each Small (eqb n 0) (pick_each (λ k. k ≤ 256) hot (omega arith) (omega arith)) (pick_each Small (ltb (r.wait + 1) n) h (moved_le r.level hot))
  where
    Small : Ramp → Type 0
    Small s = s.level ≤ 256

-- the largest bound value is at most what all values are
pub bound_le : (bound n : ℕ) (xs : List ℕ) {m : ℕ} → ((i : ℕ) → get_or xs i 0 ≤ m) → bound_largest bound xs n ≤ m
unfolding bound_largest
bound_le bound zero xs h = omega arith
bound_le bound (suc n) xs {m} h =
    omega (arith, bound_le bound n xs h, pick_each (λ k. k ≤ m) (is_set bound (2 ^ n)) {b = 0} (h n) (omega arith))

-- the tables, or the override, ask at most 256
pub tables_le : (binding : ℕ) {manual : Option ℕ} (asks : List ℕ) → OverrideRange manual → ((i : ℕ) → get_or asks i 0 ≤ 256) → tables_ask binding manual asks ≤ 256
unfolding tables_ask
tables_le binding asks none h = bound_le (binding % 16) 4 asks h
tables_le binding asks (some p) h = p

-- a fan's duty is at most 256
pub duty_le : (binding : ℕ) {manual : Option ℕ} (asks levels : List ℕ) (boosted : Bool) → OverrideRange manual → ((i : ℕ) → get_or asks i 0 ≤ 256) → ((i : ℕ) → get_or levels i 0 ≤ 256) → fan_duty binding manual asks levels boosted ≤ 256
unfolding fan_duty
duty_le binding asks levels boosted o h l =
    omega (arith, tables_le binding asks o h, bound_le (binding / 16) 4 levels l, pick_each (λ k. k ≤ 256) boosted {a = 256} {b = 0} (omega arith) (omega arith))

-- a fan's output is at most 256
pub kick_le : (was duty start startDuty startCount : ℕ) → duty ≤ 256 → startDuty ≤ 256 → (kicked_fan was duty start startDuty startCount).output ≤ 256
unfolding kicked_fan
kick_le was duty start startDuty startCount d s =
    pick_each (λ (k : Kick). k.output ≤ 256) (eqb (loaded_start was duty start startCount) 0) d (omega arith)

-- ---- the tick

-- what is in range: steps are at most 12, levels and duties at most 256
pub record InRange (d : Drive) : Type 0 where
  pub steps : (i : ℕ) → get_or d.steps i 0 ≤ 12
  pub levels : (i : ℕ) → (get_or d.ramps i no_ramp).level ≤ 256
  pub duties : (i : ℕ) → get_or d.duties i 0 ≤ 256

-- at power-on all is in range
pub rest_in_range : InRange at_rest
unfolding at_rest
rest_in_range = record {
  steps = replicate_each (λ s. s ≤ 12) 4 0 (omega arith) (omega arith);
  levels = replicate_each (λ (r : Ramp). r.level ≤ 256) 4 no_ramp (omega arith) (omega arith);
  duties = replicate_each (λ d. d ≤ 256) 2 0 (omega arith) (omega arith);
}

module _ (c : Chip) where
  -- the steps after a tick are at most 12
  pub steps_le : (i : ℕ) → get_or (steps_after c) i 0 ≤ 12
  unfolding steps_after ask_after step_after
  steps_le = firsts_each (λ s. s ≤ 12) (step_after c) 4 (λ i. step_le _ _ _) (omega arith)

  -- what the tables ask is at most 256
  pub asks_le : Valid c.setup → (i : ℕ) → get_or (asks_after c) i 0 ≤ 256
  unfolding asks_after ask_after step_after
  asks_le v = firsts_each (λ s. s ≤ 256) (λ i. (ask_after c i).duty) 4 (λ i. asked_le _ (valid_duties _ v) _ _ _) (omega arith)

  module _ (l : (i : ℕ) → (get_or c.drive.ramps i no_ramp).level ≤ 256) where
    -- the levels after a tick are at most 256 where they were
    pub levels_le : (i : ℕ) → (get_or (ramps_after c) i no_ramp).level ≤ 256
    unfolding ramps_after ramp_after
    levels_le = firsts_each (λ (r : Ramp). r.level ≤ 256) (ramp_after c) 4 (λ i. ramped_le _ _ _ (l i)) (omega arith)

    -- a fan's duty after a tick is at most 256
    pub duty_of_le : Valid c.setup → (fan : ℕ) → duty_of c fan ≤ 256
    unfolding duty_of duty_after levels_of
    duty_of_le v fan =
        duty_le _ (asks_after c) _ _ (valid_overrides _ v fan) (asks_le v)
        (firsts_each (λ s. s ≤ 256) (λ i. (get_or (ramps_after c) i no_ramp).level) 4 levels_le (omega arith))

-- every tick keeps steps, levels and duties in range
pub tick_in_range : (c : Chip) → Valid c.setup → InRange c.drive → InRange (ticked_chip c).chip.drive
unfolding ticked_chip drive_after
tick_in_range c v r = record {
  steps = steps_le c;
  levels = levels_le c r.levels;
  duties = firsts_each (λ d. d ≤ 256) (duty_of c) 2 (duty_of_le c r.levels v) (omega arith);
}

-- the outputs are at most 256
pub outputs_le : (c : Chip) → Valid c.setup → InRange c.drive → (fan : ℕ) → get_or (outputs_after c) fan 0 ≤ 256
unfolding outputs_after kick_after
outputs_le c v r =
    firsts_each (λ d. d ≤ 256) (λ i. (kick_after c i (duty_of c i)).output) 2 (λ i. kick_le _ _ _ _ _ (duty_of_le c r.levels v i) (valid_start_duties _ v i)) (omega arith)
