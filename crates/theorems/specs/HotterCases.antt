-- Lists of events that meet all that demand 3 asks, a T against a U: U 1 543 and K, T 1 68, which is 544 sixteenths, and K, and U 1 - and K;
-- each is hotter than the one before it, the second by one sixteenth. Assumes nothing.
use Rattle.std.specs.Prelude.{List, [], ◌∷◌}
use Rattle.temperature.specs.declared.Stated.{Stated}
use Rattle.event.specs.declared.Event.TheVariants.{Temperature, Tick}
use Rattle.event.specs.Run.{Given, alone}

-- a temperature of zone 1a, and a tick
abbrev pub ticked : Stated → List Given
ticked s = alone (Temperature 1 s) ∷ alone Tick ∷ []
