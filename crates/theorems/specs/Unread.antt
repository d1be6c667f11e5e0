-- A sensor without a reading: it has none at power-on, it keeps none until it is given one, and watched it looks broken. Assumes nothing.
use Rattle.std.specs.Prelude.{◌≡◌, Option, None, ℕ}
use Rattle.std.proofs.Math.Path.{refl}
use Rattle.laws.specs.Pointwise.{replicate_each}
use Rattle.state.specs.declared.Setup.{Setup}
use Rattle.state.specs.Parts.{no_gauge, volt_at, fan_at}
use Rattle.state.specs.PowerOn.{power_on}
use Rattle.theorems.specs.ZoneReadings.{power_lost}
use Rattle.theorems.specs.Sensors.{Sensor, volt, fan, zone, IsMissing}

-- at power-on there is none
pub power_unread : (x : Sensor) (s : Setup) → IsMissing x (power_on s)
unfolding IsMissing power_on volt_at fan_at
power_unread (volt i l) s = replicate_each (λ (g : Option ℕ). g ≡ None) 16 no_gauge refl refl i
power_unread (fan i l) s = replicate_each (λ (g : Option ℕ). g ≡ None) 4 no_gauge refl refl i
power_unread (zone i l) s = power_lost s i
