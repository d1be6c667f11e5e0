-- Document 02, Q-11, "Count the thresholds looked at". Assumes nothing.
use Rattle.std.specs.Prelude.{◌≡◌, Bool, List, ℕ, zero, suc, ◌-◌, ◌*◌, min, eqb, ℤ, pos, ◌+ℤ◌}
use Rattle.laws.specs.Pick.{pick}
use Rattle.temperature.specs.declared.Reading.{Reading}
use Rattle.temperature.specs.declared.Reading.TheVariants.{Taken, Missing}
use Rattle.drive.specs.declared.Look.{Look}
use Rattle.drive.specs.declared.Searched.{Searched}
use Rattle.drive.specs.Tables.{Table, sum_to, threshold_reached, new_step}

-- ---- the walk: a step, and how many thresholds were compared so far

-- passes k says that threshold k + 1 is not above what it is held against
module _ (passes : ℕ → Bool) where
  -- "looks upward .. and stops at the first threshold above the reading", with so many thresholds left above the step. "At either end there
  -- is nothing to look at."
  unfoldable pub upward : ℕ → ℕ → ℕ → Searched
  upward zero step compared = record { step = step; compared = compared }
  upward (suc left) step compared =
      pick (passes step) (upward left (suc step) (suc compared)) (record { step = step; compared = suc compared })

  -- "look downward, stopping at the first threshold not above reading plus hysteresis"
  unfoldable pub downward : ℕ → ℕ → Searched
  downward zero compared = record { step = 0; compared = compared }
  downward (suc step) compared =
      pick (passes step) (record { step = suc step; compared = suc compared }) (downward step (suc compared))

  -- the look upward from a step
  abbrev pub look_up : ℕ → Searched
  look_up start = upward (12 - start) start 0

-- "It looks upward first ..; only if it has not moved does it look downward"
unfoldable pub walk_from : Table → ℕ → ℤ → Searched
walk_from t start h =
    let up = look_up (threshold_reached t h) start in
    pick (eqb up.step start) (downward (threshold_reached t (h +ℤ pos (t.unit * t.hysteresis))) start up.compared) up

-- "The step search is to start from the old step"; one above 12, in a state that somebody made up, is taken as 12. "A missing reading
-- compares none."
unfoldable pub walk : Table → ℕ → Reading → Searched
walk t old Missing = record { step = 12; compared = 0 }
walk t old (Taken h) = walk_from t (min 12 old) h

-- ---- what the search answers

-- "and report how many thresholds it compared, as a number beside the step"; "The number equals that walk's own count". "Steps stay as they
-- are": the step is document 01's
unfoldable pub searched : Table → ℕ → Reading → Searched
searched t old reading = record { step = new_step t old reading; compared = (walk t old reading).compared }

-- ---- the running sum (Q-3)

-- where the look upward ends, with the offsets up to there added
pub record LooksUp (offsets : List ℕ) (up : Searched) (look : Look) : Type 0 where
  pub step : look.step ≡ up.step
  pub compared : look.compared ≡ up.compared
  pub sum : look.sum ≡ sum_to offsets look.step
