-- Document 01, "Setup", as document 02, Q-6, amends it: the setups that are taken, each of the 59 numbers in its range and duties that never
-- fall. Bindings and start counts are bytes, and every byte is in range. Assumes nothing.
use Rattle.std.specs.Prelude.{◌≡◌, Bool, true, List, ℕ, suc, ◌≤◌, ◌<◌, ℤ, pos, neg_ℤ, get_or, Option, Some, None}
use Rattle.std.proofs.Math.Path.{refl}
use Rattle.std.proofs.Math.Dec.{leb}
use Rattle.std.specs.Int.Signed.{le_z}
use Rattle.std.proofs.Common.{arith}
use borrow.Author.Tests.{leb-true, le-leb}
use Rattle.laws.specs.Pick.{both}
use Rattle.laws.specs.Both.{both_left, both_right}
use Rattle.laws.specs.Every.{every, every_at}
use Rattle.laws.specs.AllPass.{all_pass, pass_at}
use Rattle.state.specs.declared.Setup.{Setup}
use Rattle.state.specs.Most.{LEVEL_MOST, DEGREES_MOST, OFFSET_MOST, HYSTERESIS_MOST, DUTY_MOST}
use Rattle.state.specs.Parts.{no_boost, no_override}
use Rattle.state.specs.PowerOn.{default_setup}

-- ---- one number

-- "-127 to 127 degrees"
unfoldable pub degrees_in : ℤ → Bool
degrees_in z = both (le_z (neg_ℤ (pos DEGREES_MOST)) z) (le_z z (pos DEGREES_MOST))

-- "-127 to 127 or none"
unfoldable pub boost_in : Option ℤ → Bool
boost_in None = true
boost_in (Some z) = degrees_in z

-- "0 to 256 or none"
unfoldable pub override_in : Option ℕ → Bool
override_in None = true
override_in (Some d) = leb d DUTY_MOST

-- ---- lists of numbers

-- "4 bases, -127 to 127 degrees"
unfoldable pub bases_in : List ℤ → Bool
bases_in = all_pass degrees_in (pos 0)

-- none is above the largest
unfoldable pub numbers_in : ℕ → List ℕ → Bool
numbers_in most = all_pass (λ n. leb n most) 0

-- "13 duties, that never fall"
unfoldable pub never_fall : List ℕ → Bool
never_fall duties = every 12 (λ k. leb (get_or duties k 0) (get_or duties (suc k) 0))

-- "6 boosts, -127 to 127 or none"
unfoldable pub boosts_in : List (Option ℤ) → Bool
boosts_in = all_pass boost_in no_boost

-- "2 overrides, 0 to 256 or none"
unfoldable pub overrides_in : List (Option ℕ) → Bool
overrides_in = all_pass override_in no_override

-- ---- a setup

-- what the tables go by: bases, offsets and hystereses
unfoldable pub tables_in : Setup → Bool
tables_in s =
    both (bases_in s.bases)
    (both (numbers_in OFFSET_MOST s.offsets12)
    (both (numbers_in OFFSET_MOST s.offsets34) (numbers_in HYSTERESIS_MOST s.hystereses)))

-- what the fans go by: duties, overrides and start duties
unfoldable pub fans_in : Setup → Bool
fans_in s =
    both (numbers_in DUTY_MOST s.duties)
    (both (never_fall s.duties)
    (both (overrides_in s.overrides) (numbers_in DUTY_MOST s.start_duties)))

-- refusal 1 is given exactly if this fails: "a setup number out of range, or duties that fall"
unfoldable pub setup_in : Setup → Bool
setup_in s =
    both (leb s.level LEVEL_MOST)
    (both (leb s.boost_hysteresis HYSTERESIS_MOST)
    (both (boosts_in s.boosts)
    (both (tables_in s) (fans_in s))))

abbrev pub Valid : Setup → Type 0
Valid s = setup_in s ≡ true

-- the setup without a setup is such
pub default_valid : Valid default_setup
unfolding setup_in fans_in tables_in boosts_in overrides_in bases_in numbers_in never_fall degrees_in boost_in override_in all_pass every default_setup
default_valid = refl

-- ---- what a valid setup has

-- duties that never fall, up to 256
pub record Rising (duties : ℕ → ℕ) : Type 0 where
  pub rises : (k : ℕ) → k < 12 → duties k ≤ duties (suc k)
  pub top : duties 12 ≤ DUTY_MOST

-- no override, or one up to 256
pub data OverrideRange : Option ℕ → Type 0 where
  none : OverrideRange None
  some : {d : ℕ} → d ≤ DUTY_MOST → OverrideRange (Some d)

override_range : (o : Option ℕ) → override_in o ≡ true → OverrideRange o
unfolding override_in
override_range None e = none
override_range (Some d) e = some (leb-true d DUTY_MOST e)

-- a number of a list in range
number_le : (most : ℕ) (xs : List ℕ) → numbers_in most xs ≡ true → (k : ℕ) → get_or xs k 0 ≤ most
unfolding numbers_in
number_le most xs e k = leb-true (get_or xs k 0) most (pass_at (λ n. leb n most) 0 xs e (le-leb 0 most (omega arith)) k)

module _ (s : Setup) (v : Valid s) where
  tables_and_fans_in : both (tables_in s) (fans_in s) ≡ true
  unfolding setup_in
  tables_and_fans_in = both_right (boosts_in s.boosts) _ (both_right (leb s.boost_hysteresis HYSTERESIS_MOST) _ (both_right (leb s.level LEVEL_MOST) _ v))

  -- what follows the bases
  offsets_in : both (numbers_in OFFSET_MOST s.offsets12) (both (numbers_in OFFSET_MOST s.offsets34) (numbers_in HYSTERESIS_MOST s.hystereses)) ≡ true
  unfolding tables_in
  offsets_in = both_right (bases_in s.bases) _ (both_left (tables_in s) _ tables_and_fans_in)

  fans_in_lem : fans_in s ≡ true
  fans_in_lem = both_right (tables_in s) _ tables_and_fans_in

  duties_in_lem : numbers_in DUTY_MOST s.duties ≡ true
  unfolding fans_in
  duties_in_lem = both_left (numbers_in DUTY_MOST s.duties) _ fans_in_lem

  never_fall_lem : both (never_fall s.duties) (both (overrides_in s.overrides) (numbers_in DUTY_MOST s.start_duties)) ≡ true
  unfolding fans_in
  never_fall_lem = both_right (numbers_in DUTY_MOST s.duties) _ fans_in_lem

  starts_in : both (overrides_in s.overrides) (numbers_in DUTY_MOST s.start_duties) ≡ true
  starts_in = both_right (never_fall s.duties) _ never_fall_lem

  pub valid_offsets12 : (k : ℕ) → get_or s.offsets12 k 0 ≤ OFFSET_MOST
  valid_offsets12 k = number_le OFFSET_MOST s.offsets12 (both_left (numbers_in OFFSET_MOST s.offsets12) _ offsets_in) k

  pub valid_offsets34 : (k : ℕ) → get_or s.offsets34 k 0 ≤ OFFSET_MOST
  valid_offsets34 k =
      number_le OFFSET_MOST s.offsets34 (both_left (numbers_in OFFSET_MOST s.offsets34) _ (both_right (numbers_in OFFSET_MOST s.offsets12) _ offsets_in)) k

  pub valid_duties : Rising (λ k. get_or s.duties k 0)
  unfolding never_fall
  valid_duties = record {
    rises = λ k l. leb-true _ _ (every_at (λ k. leb (get_or s.duties k 0) (get_or s.duties (suc k) 0)) 12 k (both_left (never_fall s.duties) _ never_fall_lem) l);
    top = number_le DUTY_MOST s.duties duties_in_lem 12;
  }

  pub valid_overrides : (f : ℕ) → OverrideRange (get_or s.overrides f no_override)
  unfolding overrides_in override_in
  valid_overrides f =
      override_range _ (pass_at override_in no_override s.overrides (both_left (overrides_in s.overrides) _ starts_in) refl f)

  pub valid_start_duties : (f : ℕ) → get_or s.start_duties f 0 ≤ DUTY_MOST
  valid_start_duties f = number_le DUTY_MOST s.start_duties (both_right (overrides_in s.overrides) _ starts_in) f
