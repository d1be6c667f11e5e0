-- Power-on with a setup, which may be refused (document 01, "Lines and refusals"). Assumes nothing.
use Rattle.std.specs.Prelude.{◌≡◌, refl, Bool, true, false, Some, None}
use Rattle.std.proofs.Common.{sym}
use Rattle.std.proofs.lemmas.Option.{none-some}
use Rattle.laws.specs.Pick.{pick}
use Rattle.state.specs.declared.Chip.{Chip}
use Rattle.state.specs.declared.Setup.{Setup}
use Rattle.state.specs.declared.Powered.{Powered}
use Rattle.state.specs.declared.Refusal.TheVariants as refusal
use Rattle.state.specs.PowerOn.{default_setup, power_on}
use Rattle.state.specs.Valid.{setup_in, Valid}

-- the chip at power-on from the setup, and no refusal, or refusal 1, "a setup number out of range, or duties that fall": the chip stays
unfoldable pub powered : Chip → Setup → Powered
powered c s = pick (setup_in s) (record { chip = power_on s; refusal = None }) (record { chip = c; refusal = Some refusal.Setup })

-- where there is no chip yet, a refusal leaves the one without a setup
unfoldable pub powered_on : Setup → Powered
powered_on s = powered (power_on default_setup) s

-- a valid setup is taken
pub valid_powered : (c : Chip) (s : Setup) → Valid s → powered c s ≡ record { chip = power_on s; refusal = None }
unfolding powered
valid_powered c s v = rw v

-- and one that is taken is valid
pub powered_valid : (s : Setup) → (powered_on s).refusal ≡ None → Valid s
unfolding powered_on powered
powered_valid s = go (setup_in s)
  where
    go : (b : Bool) → (pick {A = Powered} b (record { chip = power_on s; refusal = None }) (record { chip = power_on default_setup; refusal = Some refusal.Setup })).refusal ≡ None → b ≡ true
    go true e = refl
    go false e = absurd (none-some _ (sym e))
