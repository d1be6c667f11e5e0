-- What events leave of a zone: what its reading has, P, it has until an event gives it a reading that has not. So one that is missing stays so
-- until it is given a taken one. Assumes nothing.
use Rattle.std.specs.Prelude.{◌≡◌, refl}
use Prim.Native.Nat.{ℕ}
use Rattle.laws.specs.Pointwise.{replicate_each}
use Rattle.temperature.specs.declared.Reading.{Reading}
use Rattle.temperature.specs.declared.Reading.TheVariants.{Missing}
use Rattle.state.specs.declared.Chip.{Chip}
use Rattle.state.specs.declared.Setup.{Setup}
use Rattle.state.specs.Parts.{no_zone, zone_at}
use Rattle.state.specs.PowerOn.{power_on}
use Rattle.theorems.specs.ZoneWrites.{Has}

-- at power-on every zone is missing
pub power_has : (P : Reading → Type 0) → P Missing → (s : Setup) (z : ℕ) → Has P z (power_on s)
unfolding power_on zone_at
power_has P m s z = replicate_each (P) 6 no_zone m m z

-- ---- missing

-- zone z of a chip is missing
abbrev pub Lost : ℕ → Chip → Type 0
Lost z d = zone_at d z ≡ Missing

pub power_lost : (s : Setup) (z : ℕ) → Lost z (power_on s)
power_lost s z = power_has (λ r. r ≡ Missing) refl s z
