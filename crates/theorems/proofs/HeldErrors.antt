-- Document 02, Q-2, "Voltage hysteresis as the chip has it", over lists of events: from when until when a channel is in error, and the bit
-- that its readings set. Channels count from 0. Assumes nothing.
use Rattle.std.specs.Prelude.{◌≡◌, true, false, List, [], ◌∷◌, ℕ, Some}
use Rattle.std.proofs.Common.{sym, ◌∙◌}
use Rattle.laws.specs.Never.{never}
use Rattle.masks.specs.Masks.{volt_masked}
use Rattle.state.specs.declared.Chip.{Chip}
use Rattle.state.specs.declared.Setup.{Setup}
use Rattle.state.specs.Parts.{in_error}
use Rattle.state.specs.PowerOn.{power_on}
use Rattle.event.specs.Run.{Given, given_step, chip_after}
use Rattle.event.specs.Lasting.{Sized, step_sized, power_sized}
use Rattle.event.specs.Reached.{reached_sized}
use Rattle.theorems.specs.VoltReadings.{GivesCount, Ends, within, From, now, before, ShowsError, in_range, started, ended, held, comes_from, reading_sets}
use Rattle.theorems.specs.HeldErrors.{NoneEnds, more, none, Started, here, later, NeverEnds, BoundsStay, power_sound}

-- ---- in error behind events

held_on : {i : ℕ} {c : Chip} {gs : List Given} → Sized c → NoneEnds i c gs → in_error c i ≡ true → in_error (chip_after c gs) i ≡ true
unfolding chip_after
held_on z none e = e
held_on {i} {c} z (more {g = g} o u) e = held_on (step_sized z g.event g.bytes) u (held i c z g o e)

is_held : {i : ℕ} {c : Chip} {gs : List Given} → Sized c → Started i c gs → in_error (chip_after c gs) i ≡ true
unfolding chip_after
is_held {i} {c} z (here {g = g} s u) = held_on (step_sized z g.event g.bytes) u (started i c z g s)
is_held z (later {g = g} s) = is_held (step_sized z g.event g.bytes) s

-- a channel that is in error behind events was started by one of them, or was in error before them and none of them ended it
data Since (i : ℕ) (c : Chip) (gs : List Given) : Type 0 where
  one : Started i c gs → Since i c gs
  first : in_error c i ≡ true → NoneEnds i c gs → Since i c gs

since : (i : ℕ) (c : Chip) (gs : List Given) → Sized c → in_error (chip_after c gs) i ≡ true → Since i c gs
unfolding chip_after
since i c [] z e = first e none
since i c (g ∷ gs) z e = go (since i (given_step c g).chip gs (step_sized z g.event g.bytes) e)
  where
    from : in_error (given_step c g).chip i ≡ true → NoneEnds i (given_step c g).chip gs → From i c g → Since i c (g ∷ gs)
    from h u (now s) = one (here s u)
    from h u (before b) = first b (more (λ d. let q = sym (ended i c z g d) ∙ h in never (cc)) u)

    go : Since i (given_step c g).chip gs → Since i c (g ∷ gs)
    go (one s) = one (later s)
    go (first h u) = from h u (comes_from i c z g h)

none_can_end : {i : ℕ} {c : Chip} {g : Given} → NeverEnds i c → Ends i c g → ⊥
none_can_end never_ends (within n r e) = let q = sym (never_ends n (in_range r)) ∙ e in never (cc)

bounds_end_none : {i : ℕ} {c : Chip} {gs : List Given} → NeverEnds i c → BoundsStay i c gs → NoneEnds i c gs
bounds_end_none f none = none
bounds_end_none f (more b u) = more (none_can_end f) (bounds_end_none (λ n l. rw (b.low, b.high, b.vh) (f n l)) u)

module _ (s : Setup) (gs : List Given) (i : ℕ) where
  -- "a channel is in error from a taken reading outside its limits until one that is at least low plus VH and at most high minus VH"
  pub from_reading : Started i (power_on s) gs → in_error (chip_after (power_on s) gs) i ≡ true
  from_reading = is_held (power_sized s)

  pub by_reading : in_error (chip_after (power_on s) gs) i ≡ true → Started i (power_on s) gs
  by_reading e = go (since i (power_on s) gs (power_sized s) e)
    where
      go : Since i (power_on s) gs → Started i (power_on s) gs
      go (one a) = a
      go (first h u) = let q = sym (power_sound s i) ∙ h in absurd (never (cc))

  -- "and each taken reading in between sets the bit again"; 02, Q-12: unless it is masked. What comes before may have been masked or not
  pub sets_again : Started i (power_on s) gs → (g : Given) (n : ℕ) → GivesCount i (Some n) g → (Ends i (chip_after (power_on s) gs) g → ⊥) → volt_masked (chip_after (power_on s) gs).registers i ≡ false → ShowsError i (given_step (chip_after (power_on s) gs) g).chip
  sets_again a g n r o u =
      let z = reached_sized s gs in
      reading_sets i _ z g n r u (held i _ z g o (from_reading a))

  -- under limits and VH of which no reading is within, it stays until they change
  pub held_while_bounded : in_error (chip_after (power_on s) gs) i ≡ true → NeverEnds i (chip_after (power_on s) gs) → (hs : List Given) → BoundsStay i (chip_after (power_on s) gs) hs → in_error (chip_after (chip_after (power_on s) gs) hs) i ≡ true
  held_while_bounded e f hs u = held_on (reached_sized s gs) (bounds_end_none f u) e
