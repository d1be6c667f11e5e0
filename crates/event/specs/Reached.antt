-- Any state that events reach from power-on. Assumes nothing.
use Rattle.std.specs.Prelude.{◌≡◌, refl, List, [], ◌∷◌}
use Rattle.std.proofs.Common.{◌∙◌}
use Rattle.state.specs.declared.Chip.{Chip}
use Rattle.state.specs.declared.Setup.{Setup}
use Rattle.state.specs.PowerOn.{power_on}
use Rattle.state.specs.Valid.{Valid}
use Rattle.drive.specs.Range.{InRange, rest_in_range}
use Rattle.event.specs.Run.{Given, given_step, chip_after}
use Rattle.event.specs.Ticking.{ShownRange, tick_shown, shown_range}
use Rattle.event.specs.Lasting.{Sized, setup_kept, power_sized, step_sized, step_in_range}

-- what each event keeps, any list of events keeps
pub run_keeps : (P : Chip → Type 0) → ((c : Chip) (g : Given) → P c → P (given_step c g).chip) → (gs : List Given) (c : Chip) → P c → P (chip_after c gs)
unfolding chip_after
run_keeps P f [] c p = p
run_keeps P f (g ∷ gs) c p = run_keeps P f gs (given_step c g).chip (f c g p)

-- no list of events changes the setup
pub run_setup : (c : Chip) (gs : List Given) → (chip_after c gs).setup ≡ c.setup
run_setup c gs =
    run_keeps (λ (d : Chip). d.setup ≡ c.setup) (λ d g q. setup_kept d g.event g.bytes ∙ q) gs c refl

-- a setup that is taken, and what turns the fans in range
record Ranged (c : Chip) : Type 0 where
  valid : Valid c.setup
  drive : InRange c.drive

step_ranged : (c : Chip) (g : Given) → Ranged c → Ranged (given_step c g).chip
step_ranged c g p = record {
  valid = rw (setup_kept c g.event g.bytes) p.valid;
  drive = step_in_range c g.event g.bytes p.valid p.drive;
}

module _ (s : Setup) (gs : List Given) where
  -- in any state reached from power-on the lists have their lengths
  pub reached_sized : Sized (chip_after (power_on s) gs)
  reached_sized = run_keeps Sized (λ c g p. step_sized p g.event g.bytes) gs (power_on s) (power_sized s)

  ranged : Valid s → Ranged (chip_after (power_on s) gs)
  unfolding power_on
  ranged v = run_keeps Ranged step_ranged gs (power_on s) (record { valid = v; drive = rest_in_range })

  -- in any state reached from power-on with a setup that is taken, duties are 0 to 256, steps 0 to 12, levels 0 to 256
  pub reached_in_range : Valid s → InRange (chip_after (power_on s) gs).drive
  reached_in_range v = (ranged v).drive

  -- a tick in any such state shows duties and outputs of 0 to 256, and 0 to 20 errors
  pub reached_shows : Valid s → ShownRange (tick_shown (chip_after (power_on s) gs))
  reached_shows v = shown_range _ (ranged v).valid (ranged v).drive
