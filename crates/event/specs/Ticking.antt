-- What a tick changes and answers. Assumes nothing.
use Rattle.std.specs.Prelude.{◌≡◌, List, [], ℕ, ◌≤◌, get_or}
use Rattle.std.proofs.Math.Path.{refl}
use Rattle.std.proofs.Common.{ap, ◌∙◌}
use Rattle.state.specs.declared.Chip.{Chip}
use Rattle.state.specs.Valid.{Valid}
use Rattle.state.specs.With.{with_registers, with_drive}
use Rattle.state.specs.Made.{of_drive}
use Rattle.sense.specs.Missing.{missed_file, missed}
use Rattle.sense.specs.Standing.{errors_standing, alert_active}
use Rattle.sense.specs.Alerts.{errors_le}
use Rattle.drive.specs.declared.Driven.{Driven}
use Rattle.drive.specs.Tick.{duty_of, drive_after, outputs_after, driven, ticked_chip, driven_by_parts}
use Rattle.drive.specs.Range.{InRange, duty_of_le, outputs_le}
use Rattle.drive.specs.TickOrder.{SameButDrive, tick_keeps}
use Rattle.event.specs.declared.Event.TheVariants.{Tick}
use Rattle.event.specs.declared.Tick.{Tick as Shown}
use Rattle.event.specs.declared.Answer.TheVariants.{Ticked}
use Rattle.event.specs.declared.Stepped.{Stepped}
use Rattle.event.specs.Event.{event_in, refusal_of, tick_answer, taken_step, stepped_chip}
use Rattle.event.specs.SameShape.{missed_shape}

-- what a tick shows is in range
pub record ShownRange (t : Shown) : Type 0 where
  pub duty1 : t.duty1 ≤ 256
  pub duty2 : t.duty2 ≤ 256
  pub output1 : t.output1 ≤ 256
  pub output2 : t.output2 ≤ 256
  pub errors : t.errors ≤ 24

-- ---- K on the parts

-- a tick from the registers with their marks and from what turns the fans
abbrev pub tick_from : Chip → List ℕ → Driven → Stepped
tick_from c file d = tick_answer (record { chip = with_drive (with_registers c file) d.drive; outputs = d.outputs })

pub tick_by_parts : (c : Chip) (bytes : List ℕ) {file : List ℕ} {d : Driven} → file ≡ missed_file c.registers c.zones c.volts c.fans → d ≡ driven (of_drive c.setup file c.zones c.hot c.drive) → tick_from c file d ≡ taken_step c Tick bytes
unfolding taken_step tick_answer ticked_chip missed driven
tick_by_parts c bytes {file} marked turned =
    ap (tick_from c file) turned
    ∙ ap (λ (f : List ℕ). tick_from c f (driven (of_drive c.setup f c.zones c.hot c.drive))) marked
    ∙ ap (tick_from c (missed c).registers) (driven_by_parts (missed c))

-- ---- what a tick leaves and shows

module _ (c : Chip) where
  -- the missing marks, then the fans
  pub tick_chip : (stepped_chip c Tick []).chip ≡ (ticked_chip (missed c)).chip
  unfolding stepped_chip refusal_of event_in taken_step tick_answer
  tick_chip = refl

  -- a tick sets the missing marks, then changes nothing but the drive
  pub tick_leaves : SameButDrive (stepped_chip c Tick []).chip (missed c)
  tick_leaves = rw tick_chip (tick_keeps (missed c))

  -- what a tick shows: ALERT and the errors of the chip that it leaves, its two duties, and their outputs
  unfoldable pub tick_shown : Shown
  tick_shown = record {
    alert = alert_active (stepped_chip c Tick []).chip.registers;
    duty1 = duty_of (missed c) 0;
    duty2 = duty_of (missed c) 1;
    output1 = get_or (outputs_after (missed c)) 0 0;
    output2 = get_or (outputs_after (missed c)) 1 0;
    errors = errors_standing (stepped_chip c Tick []).chip.registers;
  }

  -- a tick's answer speaks of the chip that it leaves
  pub tick_answers : (stepped_chip c Tick []).answer ≡ Ticked tick_shown
  unfolding stepped_chip refusal_of event_in taken_step tick_answer ticked_chip drive_after tick_shown
  tick_answers = refl

  -- a tick shows duties and outputs of 0 to 256, and 0 to 24 errors
  pub shown_range : Valid c.setup → InRange c.drive → ShownRange tick_shown
  unfolding tick_shown
  shown_range v r = record {
    duty1 = duty 0;
    duty2 = duty 1;
    output1 = output 0;
    output2 = output 1;
    errors = errors_le (stepped_chip c Tick []).chip.registers;
  }
    where
      valid : Valid (missed c).setup
      valid = rw (missed_shape c).setup v

      within : InRange (missed c).drive
      within = rw (missed_shape c).drive r

      duty : (fan : ℕ) → duty_of (missed c) fan ≤ 256
      duty = duty_of_le (missed c) within.levels valid

      output : (fan : ℕ) → get_or (outputs_after (missed c)) fan 0 ≤ 256
      output = outputs_le (missed c) valid within
