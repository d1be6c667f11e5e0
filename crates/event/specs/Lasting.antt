-- What lasts through any event: the setup, how long the lists are, and the ranges of steps, levels and duties. Only a tick changes the
-- drive. Assumes nothing.
use Rattle.std.specs.Prelude.{◌≡◌, refl, List, ℕ, length}
use Rattle.std.proofs.Common.{ap, ◌∙◌}
use Rattle.laws.specs.Tab.{tab_long}
use Rattle.map.specs.Map.{default_of}
use Rattle.map.specs.Laws.{defaults_tab}
use Rattle.state.specs.declared.Chip.{Chip}
use Rattle.state.specs.declared.Setup.{Setup}
use Rattle.state.specs.PowerOn.{power_on, at_rest}
use Rattle.state.specs.Valid.{Valid}
use Rattle.sense.specs.Missing.{missed}
use Rattle.laws.specs.Never.{never}
use Rattle.drive.specs.Tick.{steps_after, boosts_after, ramps_after, drive_after, ticked_chip}
use Rattle.drive.specs.Range.{InRange, tick_in_range}
use Rattle.drive.specs.TickOrder.{tick_keeps}
use Rattle.event.specs.declared.Event.{Event}
use Rattle.event.specs.declared.Event.TheVariants.{Temperature, Voltage, Fan, Hot, Pin, Tick, Reset, Write, Read, ReadBlock, WriteBlock}
use Rattle.event.specs.Event.{tick_answer, taken_step, stepped_chip}
use Rattle.event.specs.Refusal.{step_cases}
use Rattle.event.specs.SameShape.{SameShape, shape_self, missed_shape, event_shape}

-- ---- a tick, or another event

-- what a chip of the same shape has, and what a tick leaves, any event leaves: a refused one too
by_tick : (c : Chip) (P : Chip → Type 0) → ((d : Chip) → SameShape c d → P d) → P (ticked_chip (missed c)).chip → (e : Event) (bytes : List ℕ) → P (stepped_chip c e bytes).chip
unfolding taken_step tick_answer
by_tick c P f t (Temperature zone s) bytes = f _ (event_shape c _ bytes (λ q. never (cc)))
by_tick c P f t (Voltage channel n) bytes = f _ (event_shape c _ bytes (λ q. never (cc)))
by_tick c P f t (Fan fan n) bytes = f _ (event_shape c _ bytes (λ q. never (cc)))
by_tick c P f t (Hot input level) bytes = f _ (event_shape c _ bytes (λ q. never (cc)))
by_tick c P f t (Pin level) bytes = f _ (event_shape c _ bytes (λ q. never (cc)))
by_tick c P f t Tick bytes = step_cases c Tick bytes P (f c (shape_self c)) (λ z. t)
by_tick c P f t Reset bytes = f _ (event_shape c _ bytes (λ q. never (cc)))
by_tick c P f t (Write address a byte) bytes = f _ (event_shape c _ bytes (λ q. never (cc)))
by_tick c P f t (Read address a) bytes = f _ (event_shape c _ bytes (λ q. never (cc)))
by_tick c P f t (ReadBlock address command) bytes = f _ (event_shape c _ bytes (λ q. never (cc)))
by_tick c P f t (WriteBlock address command) bytes = f _ (event_shape c _ bytes (λ q. never (cc)))

-- ---- the setup and the drive

module _ (c : Chip) where
  -- only a tick changes the drive
  pub drive_kept : (e : Event) (bytes : List ℕ) → (e ≡ Tick → ⊥) → (stepped_chip c e bytes).chip.drive ≡ c.drive
  drive_kept e bytes h = (event_shape c e bytes h).drive

  -- no event changes the setup
  pub setup_kept : (e : Event) (bytes : List ℕ) → (stepped_chip c e bytes).chip.setup ≡ c.setup
  setup_kept =
      by_tick c (λ (d : Chip). d.setup ≡ c.setup) (λ d s. s.setup) ((tick_keeps (missed c)).setup ∙ (missed_shape c).setup)

-- ---- lengths

-- the lists are as long as the chip has parts
pub record Sized (c : Chip) : Type 0 where
  pub registers : length c.registers ≡ 256
  pub zones : length c.zones ≡ 6
  pub volts : length c.volts ≡ 16
  pub erring : length c.erring ≡ 16
  pub fans : length c.fans ≡ 4
  pub kept : length c.kept ≡ 4
  pub hot : length c.hot ≡ 4
  pub steps : length c.drive.steps ≡ 4
  pub boosts : length c.drive.boosts ≡ 6
  pub ramps : length c.drive.ramps ≡ 4
  pub duties : length c.drive.duties ≡ 2
  pub starts : length c.drive.starts ≡ 2

-- at power-on the lists have their lengths
pub power_sized : (s : Setup) → Sized (power_on s)
unfolding power_on at_rest
power_sized s = record {
  registers = ap length defaults_tab ∙ tab_long default_of 256;
  zones = refl;
  volts = refl;
  erring = refl;
  fans = refl;
  kept = refl;
  hot = refl;
  steps = refl;
  boosts = refl;
  ramps = refl;
  duties = refl;
  starts = refl;
}

module _ {c : Chip} (s : Sized c) where
  shape_sized : {d : Chip} → SameShape c d → Sized d
  shape_sized p = record {
    registers = p.registers ∙ s.registers;
    zones = p.zones ∙ s.zones;
    volts = p.volts ∙ s.volts;
    erring = p.erring ∙ s.erring;
    fans = p.fans ∙ s.fans;
    kept = p.kept ∙ s.kept;
    hot = p.hot ∙ s.hot;
    steps = rw p.drive s.steps;
    boosts = rw p.drive s.boosts;
    ramps = rw p.drive s.ramps;
    duties = rw p.drive s.duties;
    starts = rw p.drive s.starts;
  }

  ticked_sized : Sized (ticked_chip c).chip
  unfolding ticked_chip drive_after steps_after boosts_after ramps_after
  ticked_sized = record {
    registers = s.registers;
    zones = s.zones;
    volts = s.volts;
    erring = s.erring;
    fans = s.fans;
    kept = s.kept;
    hot = s.hot;
    steps = refl;
    boosts = refl;
    ramps = refl;
    duties = refl;
    starts = refl;
  }

-- every event keeps the lists' lengths
pub step_sized : {c : Chip} → Sized c → (e : Event) (bytes : List ℕ) → Sized (stepped_chip c e bytes).chip
step_sized {c} s = by_tick c Sized (λ d p. shape_sized s p) (ticked_sized (shape_sized s (missed_shape c)))

-- ---- ranges

-- every event keeps steps at 0 to 12, and ramp levels and duties at 0 to 256
pub step_in_range : (c : Chip) (e : Event) (bytes : List ℕ) → Valid c.setup → InRange c.drive → InRange (stepped_chip c e bytes).chip.drive
step_in_range c e bytes v r =
    by_tick c (λ (d : Chip). InRange d.drive) (λ d s. rw s.drive r) (tick_in_range (missed c) (rw (missed_shape c).setup v) (rw (missed_shape c).drive r)) e bytes
