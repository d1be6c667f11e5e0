-- A zone that is missing: what it shows, what it asks of the fans, and until when it is missing. Zones count from 0 in the order 1a, 1b, 2a,
-- 2b, 3, 4, tables and fans from 0. Assumes nothing.
use Rattle.std.specs.Prelude.{◌≡◌, List, ℕ, ◌<◌}
use Rattle.temperature.specs.declared.Reading.TheVariants.{Missing}
use Rattle.state.specs.declared.Setup.{Setup}
use Rattle.state.specs.Parts.{zone_at}
use Rattle.state.specs.PowerOn.{power_on}
use Rattle.event.specs.Run.{Given, chip_after}
use Rattle.theorems.specs.Sensors.{zone, IsMissing}
use Rattle.theorems.specs.Healthy.{NeverRead}
use Rattle.theorems.proofs.Healthy.{unread_missing}

-- ---- until when it is missing

-- From power-on a zone is missing until a T or U that is heard, a V above 0 that feeds it, a whole-byte write other than 80h that takes effect,
-- or a block write one of whose bytes is such a write.
pub missing_until : (s : Setup) (z : ℕ) (l : z < 6) (gs : List Given) → NeverRead (zone z l) (power_on s) gs → zone_at (chip_after (power_on s) gs) z ≡ Missing
unfolding IsMissing
missing_until s z l gs u = unread_missing (zone z l) s gs u
