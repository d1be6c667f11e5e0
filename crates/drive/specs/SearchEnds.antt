-- Document 02, Q-11: the walk ends at document 01's step, because thresholds never fall; "Steps stay as they are." Assumes nothing.
use Rattle.std.specs.Prelude.{◌≡◌, Bool, T, ℤ, ◌+ℤ◌, ◌*ℤ◌}
use Rattle.std.proofs.Math.Path.{refl}
use Rattle.std.proofs.Math.Bool.{true, false}
use Prim.Native.Nat.{ℕ, zero, suc, ◌+◌, ◌-◌, ◌*◌, ◌≤◌, ◌<◌, min, max}
use Rattle.std.proofs.Common.{mul-le-mul}
use native.Mathlib.Omega.{arith}
use borrow.Author.Tests.{eqb-true, eqb-false, eq-eqb, ne_eqb}
use Rattle.std.proofs.Math.Dec.{eqb}
use Rattle.std.proofs.Math.IntN.{pos}
use Rattle.laws.specs.Pick.{pick}
use Rattle.laws.specs.Count.{count_to, count_le, count_passed, count_failed}
use Rattle.laws.specs.Order.{le_z_trans, le_z_more, le_z_rise}
use Rattle.temperature.specs.declared.Reading.{Reading}
use Rattle.temperature.specs.declared.Reading.TheVariants.{Taken, Missing}
use Rattle.temperature.specs.Temperature.{DEGREE}
use Rattle.drive.specs.declared.Look.{Look}
use Rattle.drive.specs.declared.Searched.{Searched}
use Rattle.drive.specs.Tables.{Table, sum_to, is_reached, threshold_reached, not_above, new_step}
use Rattle.drive.specs.Search.{upward, downward, look_up, walk_from, walk, searched, LooksUp}
use Rattle.drive.specs.Rising.{warmer, not_above_le, not_above_mono, step_is}

-- ---- the walk over a test that nothing passes after one that fails

module _ (p : ℕ → Bool) (falls : (k : ℕ) → T (p (suc k)) → T (p k)) where
  -- upward it ends at the number of those that pass, if that is higher
  up_ends : (n left step c : ℕ) → step + left ≡ n → (upward p left step c).step ≡ max step (count_to p n)
  unfolding upward
  up_ends n zero step c l = omega (arith, count_le p n)
  up_ends n (suc left) step c l = go (p step) refl (up_ends n left (suc step) (suc c) (omega arith))
    where
      go : (b : Bool) → p step ≡ b → (upward p left (suc step) (suc c)).step ≡ max (suc step) (count_to p n) → (pick b (upward p left (suc step) (suc c)) (record { step = step; compared = suc c })).step ≡ max step (count_to p n)
      go true e h = omega (arith, count_passed p falls n step (omega arith) e)
      go false e h = omega (arith, count_failed p falls n step e)

  -- downward it ends there, if that is lower
  down_ends : (n step c : ℕ) → step ≤ n → (downward p step c).step ≡ min step (count_to p n)
  unfolding downward
  down_ends n zero c l = omega arith
  down_ends n (suc step) c l = go (p step) refl (down_ends n step (suc c) (omega arith))
    where
      go : (b : Bool) → p step ≡ b → (downward p step (suc c)).step ≡ min step (count_to p n) → (pick b (record { step = suc step; compared = suc c }) (downward p step (suc c))).step ≡ min (suc step) (count_to p n)
      go true e h = omega (arith, count_passed p falls n step l e)
      go false e h = omega (arith, count_failed p falls n step e)

-- ---- a table's walk

module _ (t : Table) where
  -- thresholds never fall: one that is not above the reading comes after others that are not
  reached_before : (h : ℤ) (k : ℕ) → T (threshold_reached t h (suc k)) → T (threshold_reached t h k)
  unfolding threshold_reached is_reached sum_to
  reached_before h k = le_z_trans (t.base *ℤ pos DEGREE +ℤ pos (t.unit * sum_to t.offsets (suc k))) (t.base *ℤ pos DEGREE +ℤ pos (t.unit * sum_to t.offsets (suc (suc k)))) h (le_z_more (t.base *ℤ pos DEGREE) _ _ (mul-le-mul {n₁ = t.unit} (omega arith) (omega arith)))

  module _ (old : ℕ) where
    -- where it starts
    abbrev pub start : ℕ
    start = min 12 old

    module _ (h : ℤ) where
      -- its look upward, and its look downward
      abbrev pub up : Searched
      up = look_up (threshold_reached t h) start

      abbrev pub down : Searched
      down = downward (threshold_reached t (warmer t h)) start up.compared

      pub up_is : up.step ≡ max start (not_above t h)
      unfolding not_above
      up_is = up_ends (threshold_reached t h) (reached_before h) 12 (12 - start) start 0 (omega arith)

      pub down_is : down.step ≡ min start (not_above t (warmer t h))
      unfolding not_above
      down_is = down_ends (threshold_reached t (warmer t h)) (reached_before (warmer t h)) 12 start up.compared (omega arith)

      ends_taken : (walk t old (Taken h)).step ≡ new_step t old (Taken h)
      unfolding walk walk_from
      ends_taken = go (eqb up.step start) refl
        where
          go : (b : Bool) → eqb up.step start ≡ b → (pick b down up).step ≡ new_step t old (Taken h)
          go true e =
              omega (arith, eqb-true up.step start e, up_is, down_is, step_is t old h, not_above_le t (warmer t h), not_above_mono t h (warmer t h) (le_z_rise h (t.unit * t.hysteresis)))
          go false e = omega (arith, eqb-false up.step start e, up_is, step_is t old h, not_above_le t h)

    -- the walk ends at document 01's step
    pub walk_ends : (r : Reading) → (walk t old r).step ≡ new_step t old r
    unfolding walk new_step
    walk_ends Missing = refl
    walk_ends (Taken h) = ends_taken h

    -- so what the search answers is how the walk ends
    pub walk_is : (r : Reading) → walk t old r ≡ searched t old r
    unfolding searched
    walk_is r i = record { step = walk_ends r i; compared = (walk t old r).compared }

-- ---- what the code makes of its look upward

module _ (t : Table) (old : ℕ) (h : ℤ) {look : Look} (l : LooksUp t.offsets (up t old h) look) where
  pub look_inside : look.step ≤ 12
  look_inside = omega (arith, l.step, up_is t old h, not_above_le t h)

  -- "only if it has not moved does it look downward"
  pub search_stayed : look.step ≤ old → downward (threshold_reached t (warmer t h)) look.step look.compared ≡ searched t old (Taken h)
  unfolding walk walk_from
  search_stayed s =
      let stayed : (up t old h).step ≡ start t old = omega (arith, l.step, look_inside, up_is t old h) in
      rw (l.step, l.compared, stayed) (rw (eq-eqb (up t old h).step (start t old) stayed) at (walk_is t old (Taken h)))

  pub search_moved : old < look.step → ◌≡◌ {A = Searched} (record { step = look.step; compared = look.compared }) (searched t old (Taken h))
  unfolding walk walk_from
  search_moved m =
      let moved = ne_eqb (up t old h).step (start t old) (λ e. omega (arith, l.step, e)) in
      rw (l.step, l.compared) (rw moved at (walk_is t old (Taken h)))
