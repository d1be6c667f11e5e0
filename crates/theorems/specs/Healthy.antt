-- A sensor that was never read cannot look healthy. Assumes nothing.
use Rattle.std.specs.Prelude.{List, [], ◌∷◌}
use Rattle.state.specs.declared.Chip.{Chip}
use Rattle.event.specs.Run.{Given, given_step}
use Rattle.theorems.specs.Taken.{IsTaken}
use Rattle.theorems.specs.Sensors.{Sensor, GivesTaken}

-- no event of the list, from a chip on, gives the sensor a taken reading; one that is refused may say anything
pub data NeverRead (x : Sensor) : Chip → List Given → Type 0 where
  none : {c : Chip} → NeverRead x c []
  more : {c : Chip} {g : Given} {gs : List Given} → (IsTaken g → GivesTaken c g x → ⊥) → NeverRead x (given_step c g).chip gs → NeverRead x c (g ∷ gs)
