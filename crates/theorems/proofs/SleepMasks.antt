-- Document 02, Q-12: what is masked gets no bit from any event, and neither ALERT nor the count depends on its bits. In S0 nothing is masked;
-- in S3 the channels 1 to 11 and 15 are, and those of 12 to 14 whose bit of E9h is set. Channels count from 0 here. Assumes nothing.
use Rattle.std.specs.Prelude.{◌≡◌, true, false, List, ℕ, ◌<◌}
use Rattle.std.proofs.Common.{sym, ◌∙◌, arith}
use Rattle.std.specs.Float.Ieee.Bits.{is_true}
use Rattle.laws.specs.Never.{never}
use Rattle.map.specs.Names.{B_ERROR_STATUS_1, B_FAN_ERROR_STATUS, CONFIGURATION}
use Rattle.masks.specs.declared.SleepState.TheVariants.{S3}
use Rattle.masks.specs.Table.{in_S3}
use Rattle.masks.specs.Masks.{sleep_state, volt_masked}
use Rattle.state.specs.declared.Chip.{Chip}
use Rattle.sense.specs.Standing.{errors_standing, alert_active}
use Rattle.sense.specs.MaskedBits.{SameUnmasked}
use Rattle.sense.proofs.MaskedBits.{errors_same, alert_same}
use Rattle.event.specs.Run.{Given, given_step}
use Rattle.theorems.specs.Sensors.{volt, is_masked}
use Rattle.theorems.specs.SleepMasks.{GetsNone, masked_gets_none, Off, by_bit, fifteen, first, AlikeButOff}

off_masked : {file : List ℕ} {i : ℕ} → sleep_state file ≡ S3 → Off file i → volt_masked file i ≡ true
off_masked {file} {i} e (first l) = (in_S3 file e).0.first i l
off_masked {file} {i} e (by_bit l h t) = (in_S3 file e).0.by_bit i l h ∙ is_true _ t
off_masked {file} e fifteen = (in_S3 file e).0.fifteen

-- in S3 they get no bit from any event
pub off_gets_none : (c : Chip) → sleep_state c.registers ≡ S3 → {i : ℕ} (l : i < 16) → Off c.registers i → (g : Given) → GetsNone (volt i l) c (given_step c g).chip
unfolding is_masked
off_gets_none c e l o g = masked_gets_none (volt _ l) c (off_masked e o) g

pub off_not_counted : {f g : List ℕ} → AlikeButOff f g → (errors_standing f ≡ errors_standing g) × (alert_active f ≡ alert_active g)
off_not_counted {f} {g} s = (errors_same unmasked, alert_same unmasked)
  where
    -- one that is not masked is not off
    on : (i : ℕ) → volt_masked f i ≡ false → Off f i → ⊥
    on i u o = let q = sym (off_masked s.asleep o) ∙ u in never (cc)

    unmasked : SameUnmasked f g
    unmasked = record {
      masks = record { each = λ a l h. s.others a (λ e. omega arith) (λ e. omega arith) };
      configuration = s.others CONFIGURATION (λ e. omega arith) (λ e. omega arith);
      volts = λ i l u. s.bits i l (on i u);
      fans = λ i l u. rw (s.others B_FAN_ERROR_STATUS (λ e. omega arith) (λ e. omega arith));
      zones = λ i l u. rw (s.others B_ERROR_STATUS_1 (λ e. omega arith) (λ e. omega arith));
    }
