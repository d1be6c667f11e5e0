-- A sensor that was never read cannot look healthy. Assumes nothing.
use Rattle.std.specs.Prelude.{◌≡◌, false, List, T}
use Rattle.state.specs.declared.Chip.{Chip}
use Rattle.state.specs.declared.Setup.{Setup}
use Rattle.state.specs.PowerOn.{power_on}
use Rattle.event.specs.Run.{Given, chip_after}
use Rattle.event.specs.Reached.{reached_sized}
use Rattle.theorems.specs.Sensors.{Sensor, IsMissing, is_watched, is_masked, LooksBroken}
use Rattle.theorems.specs.Unread.{power_unread}
use Rattle.theorems.proofs.Unread.{step_unread, unread_broken}
use Rattle.theorems.specs.Healthy.{NeverRead, more, none}

-- it still has none after them
stays_unread : {x : Sensor} {c : Chip} {gs : List Given} → NeverRead x c gs → IsMissing x c → IsMissing x (chip_after c gs)
unfolding chip_after
stays_unread none m = m
stays_unread {x} {c} (more {g = g} h u) m = stays_unread u (step_unread x c g h m)

module _ (x : Sensor) (s : Setup) (gs : List Given) where
  -- so from power-on it has none
  pub unread_missing : NeverRead x (power_on s) gs → IsMissing x (chip_after (power_on s) gs)
  unread_missing u = stays_unread u (power_unread x s)

  -- A sensor without a taken reading when a K comes, watched and not masked then, looks broken at that K. The list is any that can come before a
  -- tick, so this is said of each tick.
  pub missing_broken : IsMissing x (chip_after (power_on s) gs) → T (is_watched x (chip_after (power_on s) gs)) → is_masked x (chip_after (power_on s) gs).registers ≡ false → LooksBroken x (chip_after (power_on s) gs)
  missing_broken = unread_broken x (chip_after (power_on s) gs) (reached_sized s gs).registers

  -- and one that was never read is such a sensor
  pub never_read : NeverRead x (power_on s) gs → T (is_watched x (chip_after (power_on s) gs)) → is_masked x (chip_after (power_on s) gs).registers ≡ false → LooksBroken x (chip_after (power_on s) gs)
  never_read u = unread_broken x (chip_after (power_on s) gs) (reached_sized s gs).registers (unread_missing u)
