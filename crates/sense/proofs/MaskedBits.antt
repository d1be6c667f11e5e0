-- Document 02, Q-12: "A masked bit is neither set nor counted": a mark that sets no new bit, and a count and an ALERT that do not depend on
-- what is masked. Assumes nothing.
use Rattle.std.specs.Prelude.{◌≡◌, Bool, not, List, ℕ}
use Rattle.std.proofs.Math.Path.{refl}
use Rattle.std.proofs.Common.{sym, ◌∙◌}
use Rattle.std.proofs.Math.Bool.{true, false}
use Rattle.laws.specs.Both.{both_false}
use Rattle.laws.specs.Count.{count_same}
use Rattle.laws.specs.Pick.{both}
use Rattle.masks.specs.Table.{volt_same, fan_same, zone_same}
use Rattle.sense.specs.Standing.{zone_counts, volt_counts, fan_counts, errors_standing, alert_active}
use Rattle.sense.specs.MaskedBits.{SameUnmasked}

-- a bit counts in both or in neither
counts_same : (p q m n : Bool) → m ≡ n → (m ≡ false → p ≡ q) → both p (not m) ≡ both q (not n)
counts_same p q true n e f = rw (← e) (both_false p ∙ sym (both_false q))
counts_same p q false n e f = rw (← e, f refl)

module _ {f g : List ℕ} (s : SameUnmasked f g) where
  pub errors_same : errors_standing f ≡ errors_standing g
  unfolding errors_standing zone_counts volt_counts fan_counts
  errors_same =
      let zones = count_same (zone_counts f) (zone_counts g) 4 (λ i l. counts_same _ _ _ _ (zone_same s.masks i) (s.zones i l)) in
      let volts = count_same (volt_counts f) (volt_counts g) 16 (λ i l. counts_same _ _ _ _ (volt_same s.masks i) (s.volts i l)) in
      let fans = count_same (fan_counts f) (fan_counts g) 4 (λ i l. counts_same _ _ _ _ (fan_same s.masks i) (s.fans i l)) in
      rw (zones, volts, fans)

  pub alert_same : alert_active f ≡ alert_active g
  unfolding alert_active
  alert_same = rw (s.configuration, errors_same)
