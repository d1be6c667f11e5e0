-- The walk (document 02, Q-11), one threshold after the other, as the code's loops go: a law for each way that a turn goes. Assumes nothing.
use Rattle.std.specs.Prelude.{◌≡◌, Bool, true, false, List, get_or}
use Prim.Native.Nat.{ℕ, zero, suc, ◌+◌, ◌-◌, ◌≤◌, ◌<◌, max}
use Rattle.std.proofs.Math.Numerals.{add-one}
use native.Mathlib.Omega.{arith}
use Rattle.drive.specs.declared.Searched.{Searched}
use Rattle.drive.specs.Tables.{sum_to}
use Rattle.drive.specs.Search.{upward, downward, look_up}

module _ (passes : ℕ → Bool) where
  -- ---- upward from a start, in a loop from 0 that passes over what is below the start

  module _ (start : ℕ) where
    -- what is left of the look upward at a step
    abbrev pub left_at : ℕ → ℕ → Searched
    left_at step compared = upward passes (12 - max start step) (max start step) compared

    pub left_first : look_up passes start ≡ left_at 0 0
    left_first = let e : max start 0 ≡ start = omega arith in rw e

    pub left_over : (step c : ℕ) → step < start → left_at step c ≡ left_at (step + 1) c
    left_over step c l =
        let e : max start step ≡ start = omega arith in
        let f : max start (step + 1) ≡ start = omega arith in
        rw (e, f)

    module _ (step c : ℕ) (from : start ≤ step) (inside : step < 12) where
      at_step : left_at step c ≡ upward passes (suc (12 - suc step)) step c
      at_step =
          let e : max start step ≡ step = omega arith in
          let f : 12 - step ≡ suc (12 - suc step) = omega arith in
          rw (e, f)

      pub left_more : passes step ≡ true → left_at step c ≡ left_at (step + 1) (c + 1)
      unfolding upward
      left_more t =
          let e : max start (step + 1) ≡ suc step = omega arith in
          rw (at_step, e, add-one, t)

      pub left_stop : passes step ≡ false → left_at step c ≡ record { step = step; compared = c + 1 }
      unfolding upward
      left_stop t = rw (at_step, add-one, t)

    pub left_none : (c : ℕ) → start ≤ 12 → left_at 12 c ≡ record { step = 12; compared = c }
    unfolding upward
    left_none c l = let e : max start 12 ≡ 12 = omega arith in rw e

  -- ---- downward

  pub down_more : (step c : ℕ) → 0 < step → passes (step - 1) ≡ false → downward passes step c ≡ downward passes (step - 1) (c + 1)
  unfolding downward
  down_more zero c l t = absurd (omega arith)
  down_more (suc step) c l t = let e : suc step - 1 ≡ step = omega arith in rw (e, add-one, rw e at t)

  pub down_stop : (step c : ℕ) → 0 < step → passes (step - 1) ≡ true → downward passes step c ≡ record { step = step; compared = c + 1 }
  unfolding downward
  down_stop zero c l t = absurd (omega arith)
  down_stop (suc step) c l t = let e : suc step - 1 ≡ step = omega arith in rw (add-one, rw e at t)

-- ---- the running sum

-- one offset less
pub sum_back : (offsets : List ℕ) (k : ℕ) → 0 < k → sum_to offsets k ≡ sum_to offsets (k - 1) + get_or offsets (k - 1) 0
unfolding sum_to
sum_back offsets zero l = absurd (omega arith)
sum_back offsets (suc k) l = let e : suc k - 1 ≡ k = omega arith in rw e
