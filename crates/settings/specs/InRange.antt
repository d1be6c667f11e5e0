-- The setup of an S line is one that is taken: each number in its range, and duties that never fall. Assumes nothing.
use Rattle.std.specs.Prelude.{◌≡◌, refl, Bool, true, false, List, Option, None, Some, leb}
use Prim.Native.Nat.{ℕ, zero, suc, ◌+◌, ◌≤◌, ◌<◌}
use native.Mathlib.Omega.{arith}
use Rattle.std.proofs.Common.{le-leb}
use Rattle.laws.specs.Both.{both_true}
use Rattle.laws.specs.Every.{every, every_at, every_of}
use Rattle.laws.specs.AllPass.{all_pass}
use Rattle.laws.specs.Tab.{tab, tab_at, tab_long}
use Rattle.text.specs.declared.Number.{Number}
use Rattle.text.specs.declared.Number.TheVariants.{Dash, Plus, Minus}
use Rattle.text.specs.Number.{is_spelt}
use Rattle.state.specs.declared.Setup.{Setup}
use Rattle.state.specs.Most.{DEGREES_MOST, OFFSET_MOST, HYSTERESIS_MOST, DUTY_MOST}
use Rattle.state.specs.Valid.{degrees_in, boost_in, override_in, bases_in, numbers_in, never_fall, boosts_in, overrides_in, tables_in, fans_in, setup_in, Valid, default_valid}
use Rattle.settings.specs.Places.{LEVEL, OFFSETS12, OFFSETS34, HYSTERESES, DUTIES, BOOST_HYSTERESIS, OVERRIDES, START_DUTIES, NUMBERS}
use Rattle.settings.specs.Settings.{setting_at, range_of, is_within, plain_of, signed_of, none_or, boost_of, override_of, setup_by, rises_by, answered, is_setup, settings_of, setup_or_default}
use Rattle.settings.specs.Ranges.{size_of, plain_most, Ranged, in_range}

-- ---- one number

-- a number up to 127 either way is in the range of degrees
degrees_in_lem : (n : Option Number) → size_of n ≤ DEGREES_MOST → degrees_in (signed_of n) ≡ true
unfolding degrees_in signed_of size_of
degrees_in_lem None h = refl
degrees_in_lem (Some Dash) h = refl
degrees_in_lem (Some (Plus v)) h = le-leb v DEGREES_MOST h
degrees_in_lem (Some (Minus zero)) h = refl
degrees_in_lem (Some (Minus (suc v))) h = both_true (le-leb v _ (omega arith)) refl

-- a number up to the largest passes the test for it
plain_in : (most : ℕ) (n : Option Number) → size_of n ≤ most → leb (plain_of n) most ≡ true
plain_in most n h = le-leb (plain_of n) most (plain_most n h)

-- so does a boost, where "-" is none
boost_in_lem : (n : Option Number) → size_of n ≤ DEGREES_MOST → boost_in (boost_of signed_of n) ≡ true
unfolding boost_in none_or
boost_in_lem None h = degrees_in_lem None h
boost_in_lem (Some Dash) h = refl
boost_in_lem (Some (Plus v)) h = degrees_in_lem (Some (Plus v)) h
boost_in_lem (Some (Minus v)) h = degrees_in_lem (Some (Minus v)) h

-- and an override
override_in_lem : (n : Option Number) → size_of n ≤ DUTY_MOST → override_in (override_of n) ≡ true
unfolding override_in none_or
override_in_lem None h = plain_in DUTY_MOST None h
override_in_lem (Some Dash) h = refl
override_in_lem (Some (Plus v)) h = plain_in DUTY_MOST (Some (Plus v)) h
override_in_lem (Some (Minus v)) h = plain_in DUTY_MOST (Some (Minus v)) h

-- ---- all of them

-- a table passes a test that each of its elements passes
tab_pass : {A : Type 0} (p : A → Bool) (d : A) (f : ℕ → A) (count : ℕ) → ((k : ℕ) → k < count → p (f k) ≡ true) → all_pass p d (tab f count) ≡ true
unfolding all_pass
tab_pass p d f count h = rw (tab_long f count) (every_of _ count (λ k l. rw (tab_at f count k d l) (h k l)))

module _ (n : ℕ → Option Number) (w : every NUMBERS (λ k. is_within (range_of k) (n k)) ≡ true) (up : every 12 (rises_by n) ≡ true) where
  -- the numbers are in their ranges
  r : Ranged n
  r = in_range n w

  -- a group of numbers up to the largest
  plain_each : (first count most : ℕ) → ((k : ℕ) → k < count → size_of (n (first + k)) ≤ most) → numbers_in most (tab (λ k. plain_of (n (first + k))) count) ≡ true
  unfolding numbers_in
  plain_each first count most h = tab_pass _ _ _ count (λ k l. plain_in most (n (first + k)) (h k l))

  -- the duties never fall
  rises : never_fall (tab (λ k. plain_of (n (DUTIES + k))) 13) ≡ true
  unfolding never_fall rises_by
  rises =
      every_of _ 12
      (λ k l.
      let e : DUTIES + suc k ≡ DUTIES + k + 1 = omega arith in
      rw (tab_at {A = ℕ} _ 13 k 0 (omega arith), tab_at {A = ℕ} _ 13 (suc k) 0 (omega arith), e) (every_at (rises_by n) 12 k up l))

  -- numbers in range make a setup in range
  pub setup_valid : Valid (setup_by plain_of signed_of n)
  unfolding setup_in tables_in fans_in bases_in boosts_in overrides_in setup_by
  setup_valid =
      both_true (plain_in _ (n LEVEL) r.level)
      (both_true (plain_in _ (n BOOST_HYSTERESIS) r.boost_hysteresis_lem)
      (both_true (tab_pass _ _ _ 6 (λ i l. boost_in_lem _ (r.boosts i l)))
      (both_true
      (both_true (tab_pass _ _ _ 4 (λ i l. degrees_in_lem _ (r.bases i l)))
      (both_true (plain_each OFFSETS12 12 OFFSET_MOST r.offsets12)
      (both_true (plain_each OFFSETS34 12 OFFSET_MOST r.offsets34) (plain_each HYSTERESES 2 HYSTERESIS_MOST r.hystereses))))
      (both_true (plain_each DUTIES 13 DUTY_MOST (λ k l. r.all (DUTIES + k) (omega arith)))
      (both_true rises
      (both_true (tab_pass _ _ _ 2 (λ f l. override_in_lem _ (r.all (OVERRIDES + f) (omega arith))))
      (plain_each START_DUTIES 2 DUTY_MOST (λ f l. r.all (START_DUTIES + f) (omega arith)))))))))

-- a line that passes all has its own setup, any other the one without a setup
answer_valid : (fits spelt within up : Bool) (x : Setup) → (within ≡ true → up ≡ true → Valid x) → Valid (setup_or_default (answered fits spelt within up x))
answer_valid true true true true x v = v refl refl
answer_valid true true true false x v = default_valid
answer_valid true true false up x v = default_valid
answer_valid true false within up x v = default_valid
answer_valid false spelt within up x v = default_valid

-- the setup of a line is one that is taken; in place of a refused one stands that without a setup
pub settings_valid : (s : List ℕ) → Valid (setup_or_default (settings_of s))
unfolding settings_of
settings_valid s = answer_valid (is_setup s) (every NUMBERS (λ k. is_spelt (setting_at s k))) _ _ _ (setup_valid (setting_at s))
