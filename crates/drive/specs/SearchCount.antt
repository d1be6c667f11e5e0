-- Document 02, Q-11: how many thresholds a search compares. "The number .. is never more than the distance moved plus two." Assumes nothing.
use Rattle.std.specs.Prelude.{◌≡◌, Bool, ltb, ℤ}
use Rattle.std.proofs.Math.Path.{refl}
use Rattle.std.proofs.Math.Bool.{true, false}
use Prim.Native.Nat.{ℕ, zero, suc, ◌+◌, ◌-◌, ◌≤◌, min}
use native.Mathlib.Omega.{arith}
use borrow.Author.Tests.{eqb-true, eqb-false, ltb-true, ltb-false, lt-ltb, le-ltb}
use Rattle.std.proofs.Math.Dec.{eqb}
use Rattle.laws.specs.Pick.{pick}
use Rattle.laws.specs.Count.{one_if, one_one, one_below}
use Rattle.temperature.specs.declared.Reading.{Reading}
use Rattle.temperature.specs.declared.Reading.TheVariants.{Taken, Missing}
use Rattle.drive.specs.declared.Searched.{Searched}
use Rattle.drive.specs.Tables.{Table, threshold_reached, new_step}
use Rattle.drive.specs.Search.{upward, downward, walk_from, walk, searched}
use Rattle.drive.specs.Rising.{warmer, not_above_le, step_le}
use Rattle.drive.specs.SearchEnds.{up, down, up_is, down_is, walk_ends}

-- ---- a look compares the distance that it moves, and the threshold that stops it, where one does

module _ (p : ℕ → Bool) where
  up_compared : (n left step c : ℕ) → step + left ≡ n → (upward p left step c).compared + step ≡ c + (upward p left step c).step + one_if (ltb (upward p left step c).step n)
  unfolding upward
  up_compared n zero step c l = rw (le-ltb step n (omega arith)) (omega arith)
  up_compared n (suc left) step c l = go (p step) (upward p left (suc step) (suc c)) (up_compared n left (suc step) (suc c) (omega arith))
    where
      stop : Searched
      stop = record { step = step; compared = suc c }

      go : (b : Bool) (u : Searched) → u.compared + suc step ≡ suc c + u.step + one_if (ltb u.step n) → (pick b u stop).compared + step ≡ c + (pick b u stop).step + one_if (ltb (pick b u stop).step n)
      go true u h = omega arith
      go false u h = rw (lt-ltb step n (omega arith)) (omega arith)

  down_compared : (step c : ℕ) → (downward p step c).compared + (downward p step c).step ≡ c + step + one_if (ltb 0 (downward p step c).step)
  unfolding downward
  down_compared zero c = omega arith
  down_compared (suc step) c = go (p step) (downward p step (suc c)) (down_compared step (suc c))
    where
      stop : Searched
      stop = record { step = suc step; compared = suc c }

      go : (b : Bool) (d : Searched) → d.compared + d.step ≡ suc c + step + one_if (ltb 0 d.step) → (pick b stop d).compared + (pick b stop d).step ≡ c + suc step + one_if (ltb 0 (pick b stop d).step)
      go true d h = rw (lt-ltb 0 (suc step) (omega arith)) (omega arith)
      go false d h = omega arith

-- ---- by where a search starts and ends

-- the distance moved
abbrev pub distance : ℕ → ℕ → ℕ
distance from to = (from - to) + (to - from)

-- the distance moved, and one for each threshold that stops a look: of a search that moves up one, unless it runs to 12; of any other one
-- upward, unless it starts at 12, and one downward, unless it runs to 0
abbrev pub tally : ℕ → ℕ → ℕ
tally from to = pick (ltb from to) (to - from + one_if (ltb to 12)) (one_if (ltb from 12) + (from - to) + one_if (ltb 0 to))

-- what holds of both cases holds of the tally
tally_each : (P : ℕ → Type 0) (from to : ℕ) → (from ≤ to → P (to - from + one_if (ltb to 12))) → (to ≤ from → P (one_if (ltb from 12) + (from - to) + one_if (ltb 0 to))) → P (tally from to)
tally_each P from to more other = go (ltb from to) refl
  where
    go : (b : Bool) → ltb from to ≡ b → P (pick b (to - from + one_if (ltb to 12)) (one_if (ltb from 12) + (from - to) + one_if (ltb 0 to)))
    go true e = more (omega (arith, ltb-true from to e))
    go false e = other (ltb-false from to e)

module _ (from to : ℕ) where
  tally_most : tally from to ≤ distance from to + 2
  tally_most =
      tally_each (λ n. n ≤ distance from to + 2) from to (λ l. omega (arith, one_one (ltb to 12))) (λ l. omega (arith, one_one (ltb from 12), one_one (ltb 0 to)))

  tally_least : distance from to ≤ tally from to
  tally_least = tally_each (λ n. distance from to ≤ n) from to (λ l. omega arith) (λ l. omega arith)

  tally_within : from ≤ 12 → to ≤ 12 → tally from to ≤ 12
  tally_within f t =
      tally_each (λ n. n ≤ 12) from to (λ l. omega (arith, one_below to 12)) (λ l. omega (arith, one_below from 12, one_below 0 to))

-- ---- a table's search

module _ (t : Table) (old : ℕ) where
  module _ (h : ℤ) where
    up_count : (up t old h).compared + min 12 old ≡ (up t old h).step + one_if (ltb (up t old h).step 12)
    up_count = omega (arith, up_compared (threshold_reached t h) 12 (12 - min 12 old) (min 12 old) 0 (omega arith))

    -- a look upward compares no more than there are
    pub look_within : (up t old h).compared ≤ 12
    look_within = omega (arith, up_count, one_below (up t old h).step 12, up_is t old h, not_above_le t h)

    down_count : (down t old h).compared + (down t old h).step ≡ (up t old h).compared + min 12 old + one_if (ltb 0 (down t old h).step)
    down_count = down_compared (threshold_reached t (warmer t h)) (min 12 old) (up t old h).compared

    compared_taken : (walk t old (Taken h)).compared ≡ tally (min 12 old) (walk t old (Taken h)).step
    unfolding walk walk_from
    compared_taken = go (eqb (up t old h).step (min 12 old)) refl
      where
        go : (b : Bool) → eqb (up t old h).step (min 12 old) ≡ b → (pick b (down t old h) (up t old h)).compared ≡ tally (min 12 old) (pick b (down t old h) (up t old h)).step
        go true e =
            rw (le-ltb (min 12 old) (down t old h).step (omega (arith, down_is t old h))) (omega (arith, down_is t old h, rw (eqb-true (up t old h).step (min 12 old) e) at up_count, down_count))
        go false e =
            rw (lt-ltb (min 12 old) (up t old h).step (omega (arith, eqb-false (up t old h).step (min 12 old) e, up_is t old h))) (omega (arith, up_is t old h, up_count))

  -- how many it compares follows from where it starts and ends
  pub compared_is : (h : ℤ) → (searched t old (Taken h)).compared ≡ tally (min 12 old) (new_step t old (Taken h))
  unfolding searched
  compared_is h = rw (← walk_ends t old (Taken h)) (compared_taken h)

  -- "is never more than the distance moved plus two"
  pub compared_most : (r : Reading) → (searched t old r).compared ≤ distance (min 12 old) (new_step t old r) + 2
  unfolding searched walk
  compared_most Missing = omega arith
  compared_most (Taken h) = omega (arith, compared_is h, tally_most (min 12 old) (new_step t old (Taken h)))

  -- and, of a taken reading, never less than the distance
  pub compared_least : (h : ℤ) → distance (min 12 old) (new_step t old (Taken h)) ≤ (searched t old (Taken h)).compared
  compared_least h = omega (arith, compared_is h, tally_least (min 12 old) (new_step t old (Taken h)))

  -- no threshold is compared twice: there are twelve
  pub compared_within : (r : Reading) → (searched t old r).compared ≤ 12
  unfolding searched walk
  compared_within Missing = omega arith
  compared_within (Taken h) = omega (arith, compared_is h, tally_within (min 12 old) (new_step t old (Taken h)) (omega arith) (step_le t old (Taken h)))
