-- Document 02, Q-7: "Zone readings are held in sixteenths, -2032 to 2040": after any events from power-on each zone is missing or in that range,
-- where what is written on the bus are bytes. Assumes nothing.
use Rattle.std.specs.Prelude.{◌≡◌, ℕ, ◌<◌, get_or}
use mathlib.Core.List.{List, [], ◌∷◌}
use Rattle.event.specs.declared.Event.TheVariants.{Write}
use Rattle.event.specs.Run.{Given}

-- ---- from power-on

-- what an event writes on the bus are bytes
pub record Bytes (g : Given) : Type 0 where
  pub one : (address a byte : ℕ) → g.event ≡ Write address a byte → byte < 256
  pub block : (k : ℕ) → get_or g.bytes k 0 < 256

pub data AllBytes : List Given → Type 0 where
  none : AllBytes []
  more : {g : Given} {gs : List Given} → Bytes g → AllBytes gs → AllBytes (g ∷ gs)
