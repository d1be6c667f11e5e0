-- Laws of document 02, Q-2: which readings start and end a channel's error, which leave it, and the bit that they set; and that with VH 0
-- the error bits are those of document 01's rule. Channels count from 0. Assumes nothing.
use Rattle.std.specs.Prelude.{◌≡◌, Bool, List, ℕ, ◌+◌, ◌≤◌, ◌<◌, eqb, leb, length, Option, Some, None}
use Rattle.std.proofs.Math.Path.{refl}
use Rattle.std.proofs.Math.Bool.{true, false, not}
use Rattle.std.proofs.Common.{arith, get_or-set_same}
use borrow.Author.Tests.{lt-ltb, le-ltb, ltb-true, ltb-false, le-leb, lt-leb, leb-true, ne_eqb}
use Rattle.std.proofs.Math.Dec.{ltb}
use Rattle.laws.specs.Pick.{both, either}
use Rattle.laws.specs.Both.{both_false, both_with_true, both_left, both_right, both_true}
use Rattle.laws.specs.Pointwise.{pick_same}
use Rattle.state.specs.declared.Chip.{Chip}
use Rattle.state.specs.Parts.{in_error}
use Rattle.state.specs.With.{with_zone, with_volt, with_in_error}
use Rattle.sense.specs.Errors.{low_limit, high_limit, is_outside, compared_volt}
use Rattle.sense.specs.Hysteresis.{hysteresis_of, low_move, high_move, ends_error, erring_on, erring_after, erred_volt}
use Rattle.sense.specs.Events.{read_zone, fed_zone, fed_each, read_volt, took_voltage}

module _ (low high vh n : ℕ) where
  -- ---- a reading

  -- a reading that ends an error is not outside, so none both starts and ends one
  pub ending_inside : ends_error low high vh n ≡ true → is_outside low high n ≡ false
  unfolding ends_error is_outside
  ending_inside e =
      let above = leb-true (low + low_move low vh) n (both_left (leb (low + low_move low vh) n) _ e) in
      let below = leb-true (n + high_move high vh) high (both_right (leb (low + low_move low vh) n) _ e) in
      rw (le-ltb n low (omega arith), le-ltb high n (omega arith))

  -- one that is outside starts it, whether or not it was there before
  pub outside_starts : (before : Bool) → is_outside low high n ≡ true → erring_on low high vh before n ≡ true
  unfolding erring_on
  outside_starts before e = rw e

  -- one that is at least low plus VH and at most high minus VH ends it
  pub ended_by : (before : Bool) → ends_error low high vh n ≡ true → erring_on low high vh before n ≡ false
  unfolding erring_on
  ended_by before e = rw (ending_inside e, e) (both_false before)

  -- in between it stays as it was
  pub between_stays : (before : Bool) → is_outside low high n ≡ false → ends_error low high vh n ≡ false → erring_on low high vh before n ≡ before
  unfolding erring_on
  between_stays before e f = rw (e, f) (both_with_true before)

  -- so in error it stays where a reading does not end it
  pub unended_holds : (ends_error low high vh n ≡ true → ⊥) → erring_on low high vh true n ≡ true
  unended_holds o = go (is_outside low high n) (ends_error low high vh n) refl refl
    where
      go : (out end : Bool) → is_outside low high n ≡ out → ends_error low high vh n ≡ end → erring_on low high vh true n ≡ true
      go true end e f = outside_starts true e
      go false true e f = absurd (o f)
      go false false e f = between_stays true e f

  -- and after a reading inside the limits it is in error only if it was before
  pub inside_was : (before : Bool) → is_outside low high n ≡ false → erring_on low high vh before n ≡ true → before ≡ true
  unfolding erring_on
  inside_was before e f = both_left before (not (ends_error low high vh n)) (rw e at f)

  -- limits that are crossed: every reading is outside
  pub crossed_outside : high < low → is_outside low high n ≡ true
  unfolding is_outside
  crossed_outside l = go (ltb n low) refl
    where
      go : (t : Bool) → ltb n low ≡ t → either (ltb n low) (ltb high n) ≡ true
      go true e = rw e
      go false e = rw (e, lt-ltb high n (omega (arith, ltb-false n low e)))

  -- ---- limits and VH under which no reading ends it

  not_above_lem : n < low + low_move low vh → ends_error low high vh n ≡ false
  unfolding ends_error
  not_above_lem l = rw (lt-leb (low + low_move low vh) n l)

  not_below : high < n + high_move high vh → ends_error low high vh n ≡ false
  unfolding ends_error
  not_below l = rw (lt-leb (n + high_move high vh) high l) (both_false (leb (low + low_move low vh) n))

  -- where the sum is above 255, as with a low limit of FEh and VH 3
  pub sum_too_high : 255 < low + low_move low vh → n ≤ 255 → ends_error low high vh n ≡ false
  sum_too_high s l = not_above_lem (omega arith)

  -- where the difference is below 0, as with a high limit of 01h and VH 3
  pub difference_too_low : high < high_move high vh → ends_error low high vh n ≡ false
  difference_too_low d = not_below (omega arith)

  -- where the window is narrower than twice VH, and both limits are moved
  pub window_too_narrow : 0 < low → high < 0xFF → high < low + vh + vh → ends_error low high vh n ≡ false
  unfolding low_move high_move
  window_too_narrow above below narrow = go (ltb n (low + low_move low vh)) refl
    where
      low_moved : low_move low vh ≡ vh
      low_moved = rw (ne_eqb low 0x00 (λ e. omega arith))

      high_moved : high_move high vh ≡ vh
      high_moved = rw (ne_eqb high 0xFF (λ e. omega arith))

      go : (t : Bool) → ltb n (low + low_move low vh) ≡ t → ends_error low high vh n ≡ false
      go true e = not_above_lem (ltb-true n (low + low_move low vh) e)
      go false e = not_below (omega (arith, ltb-false n (low + low_move low vh) e, low_moved, high_moved))

-- limits of 00h and FFh: every reading ends it
pub unmoved_end : (vh n : ℕ) → n ≤ 255 → ends_error 0x00 0xFF vh n ≡ true
unfolding ends_error low_move high_move
unmoved_end vh n l = both_true (le-leb 0 n (omega arith)) (le-leb (n + 0) 255 (omega arith))

-- ---- with VH 0

module _ (low high n : ℕ) where
  -- a reading ends an error exactly if it is not outside
  zero_ends : ends_error low high 0 n ≡ not (is_outside low high n)
  unfolding ends_error is_outside low_move high_move
  zero_ends = rw (pick_same {A = ℕ} (eqb low 0x00) 0, pick_same {A = ℕ} (eqb high 0xFF) 0) (go (ltb n low) (ltb high n) refl refl)
    where
      go : (below above : Bool) → ltb n low ≡ below → ltb high n ≡ above → both (leb (low + 0) n) (leb (n + 0) high) ≡ not (either (ltb n low) (ltb high n))
      go true above e f = rw (e, lt-leb (low + 0) n (omega (arith, ltb-true n low e)))
      go false true e f = rw (e, f, lt-leb (n + 0) high (omega (arith, ltb-true high n f))) (both_false (leb (low + 0) n))
      go false false e f = rw (e, f, le-leb (low + 0) n (omega (arith, ltb-false n low e)), le-leb (n + 0) high (omega (arith, ltb-false high n f)))

  -- so a channel is in error after a reading exactly if the reading is outside, in error before or not
  pub zero_erring : (before : Bool) → erring_on low high 0 before n ≡ is_outside low high n
  unfolding erring_on
  zero_erring before = rw zero_ends (go (is_outside low high n) before)
    where
      go : (outside before : Bool) → either outside (both before (not (not outside))) ≡ outside
      go true before = refl
      go false before = both_false before

-- the error bits are those of document 01's rule, for every reading and every limit, whether or not the channel was in error before
pub zero_errors : (file : List ℕ) (i : ℕ) (before : Bool) (n : Option ℕ) → hysteresis_of file ≡ 0 → erred_volt file i before n ≡ compared_volt file i n
unfolding erred_volt erring_after compared_volt
zero_errors file i before None z = refl
zero_errors file i before (Some n) z = rw (z, zero_erring (low_limit file i) (high_limit file i) n before)

-- ---- the register file after a reading

module _ (file : List ℕ) (i : ℕ) (before : Bool) (n : ℕ) where
  -- and one that does not sets none
  pub sound_sets_none : erring_after file i before (Some n) ≡ false → erred_volt file i before (Some n) ≡ file
  unfolding erred_volt
  sound_sets_none e = rw e

fed_erring : (c : Chip) (channel : ℕ) (n : Option ℕ) → (fed_zone c channel n).erring ≡ c.erring
unfolding read_zone with_zone
fed_erring c channel n = fed_each (λ (d : Chip). d.erring ≡ c.erring) c channel n refl refl refl

module _ (c : Chip) (channel : ℕ) (n : Option ℕ) (l : channel < 16) where
  pub volt_erring : length c.erring ≡ 16 → in_error (took_voltage c channel n) channel ≡ erring_after c.registers channel (in_error c channel) n
  unfolding took_voltage read_volt with_volt with_in_error in_error
  volt_erring long = rw (lt-ltb channel 16 l, fed_erring _ channel n) (get_or-set_same c.erring channel _ false (omega (arith, long)))
