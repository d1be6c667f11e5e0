-- Demand 3: "Of two lists of events, none refused, from one setup, alike but that temperatures in the second may be hotter (missing is
-- hottest), each fan's duty after every tick, before the start-up kick, is at least as high in the second." Assumes nothing.
use Rattle.std.specs.Prelude.{◌≡◌, List, None}
use Rattle.state.specs.declared.Chip.{Chip}
use Rattle.state.specs.declared.Setup.{Setup}
use Rattle.state.specs.PowerOn.{power_on}
use Rattle.state.specs.Valid.{Valid}
use Rattle.state.specs.Powered.{powered_on, powered_valid}
use Rattle.event.specs.Run.{Given, given_step, answers_to}
use Rattle.event.specs.Lasting.{setup_kept}
use Rattle.theorems.specs.Alike.{Alike, AllAlike, none, more, NoneRefused, AllNoHigher}
use Rattle.theorems.specs.Beside.{Under, under_self}
use Rattle.theorems.specs.Steps.{NotRefused, Rises}
use Rattle.theorems.proofs.Steps.{steps_rise}

-- what alike events keep of two chips: the setup is taken, and the first chip is no hotter
pub record Pair (c d : Chip) : Type 0 where
  valid : Valid c.setup
  under : Under c d

-- at power-on
pub power_pair : (s : Setup) → Valid s → Pair (power_on s) (power_on s)
unfolding power_on
power_pair s v = record { valid = v; under = under_self _ }

module _ {c d : Chip} {g h : Given} (p : Pair c d) (a : Alike g h) (t : NotRefused c g) (u : NotRefused d h) where
  -- the events keep the order
  pub step : Rises (given_step c g) (given_step d h)
  step = steps_rise p.valid p.under a t u

  -- after two alike events
  pub next : Pair (given_step c g).chip (given_step d h).chip
  next = record { valid = rw (setup_kept c g.event g.bytes) p.valid; under = step.chips }

-- from two such chips on, all duties are at least as high in the second
run : {c d : Chip} {gs hs : List Given} → Pair c d → AllAlike gs hs → NoneRefused c gs → NoneRefused d hs → AllNoHigher (answers_to c gs) (answers_to d hs)
unfolding answers_to
run p none t u = none
run {c = c} {d = d} p (more {g = g} {h = h} a rest) (more t ts) (more u us) =
    more (step p a t u).answers (run {c = (given_step c g).chip} {d = (given_step d h).chip} (next p a t u) rest ts us)

-- from one setup, which is taken: `state::power_on` and `port::power_on` answer 0
pub demand_3 : (s : Setup) → (powered_on s).refusal ≡ None → (gs hs : List Given) → AllAlike gs hs → NoneRefused (power_on s) gs → NoneRefused (power_on s) hs
    → AllNoHigher (answers_to (power_on s) gs) (answers_to (power_on s) hs)
demand_3 s t gs hs a p q = run (power_pair s (powered_valid s t)) a p q
