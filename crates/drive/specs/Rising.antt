-- Hotter readings never lower a step, what a table asks, a boost or a duty: a law for each stage of a tick. Assumes nothing.
use Rattle.std.specs.Prelude.{◌≡◌, Bool, List, [], ◌∷◌, T, eqb, ℤ, ◌+ℤ◌, ◌-ℤ◌, ◌*ℤ◌, Option, Some, None}
use Rattle.std.proofs.Math.Path.{refl}
use Rattle.std.proofs.Math.Bool.{true, false}
use Prim.Native.Nat.{ℕ, zero, suc, ◌*◌, ◌%◌, ◌^◌, ◌≤◌, min, max}
use native.Mathlib.Omega.{arith}
use borrow.Author.Tests.{ltb-true, ltb-false}
use Rattle.std.proofs.Math.Dec.{ltb}
use Rattle.std.proofs.Math.IntN.{pos}
use Rattle.std.proofs.Math.ListN.{get_or}
use Rattle.std.specs.Int.Signed.{le_z, lt_z}
use Rattle.laws.specs.Pick.{pick}
use Rattle.laws.specs.Pointwise.{pick_related, pick_rises}
use Rattle.laws.specs.Rises.{rises_far}
use Rattle.laws.specs.Count.{count_le, count_mono}
use Rattle.laws.specs.Order.{le_z_trans, le_lt, le_z_plus, le_z_rise}
use Rattle.map.specs.Bits.{is_set}
use Rattle.map.specs.Names.{Z1BE, Z2BE, LUT1_Z1, LUT2_Z2, LUT3_Z1, LUT4_Z2}
use Rattle.temperature.specs.declared.Reading.{Reading}
use Rattle.temperature.specs.declared.Reading.TheVariants.{Taken, Missing}
use Rattle.temperature.specs.Temperature.{DEGREE}
use Rattle.temperature.specs.Order.{NoHotter, missing, taken, hotter_mono}
use Rattle.state.specs.Valid.{Rising}
use Rattle.drive.specs.Tables.{Table, zone_in, joined_zone, zone_one, zone_two, followed_zone, sum_to, is_reached, threshold_reached, not_above, settled, new_step, asked_duty}
use Rattle.drive.specs.Boosts.{is_latched, is_boosted}
use Rattle.drive.specs.Duties.{bound_largest, tables_ask, fan_duty}
use Rattle.drive.specs.Tick.{any_on}

-- ---- the step

module _ (t : Table) where
  -- no more thresholds than there are
  pub not_above_le : (h : ℤ) → not_above t h ≤ 12
  unfolding not_above
  not_above_le h = count_le (threshold_reached t h) 12

  -- a hotter reading has no fewer thresholds at or below it
  pub not_above_mono : (x y : ℤ) → T (le_z x y) → not_above t x ≤ not_above t y
  unfolding not_above threshold_reached is_reached
  not_above_mono x y p =
      count_mono (threshold_reached t x) (threshold_reached t y)
      (λ k q. le_z_trans (t.base *ℤ pos DEGREE +ℤ pos (t.unit * sum_to t.offsets (suc k))) x y q p) 12

  -- a reading plus the hysteresis
  abbrev pub warmer : ℤ → ℤ
  warmer h = h +ℤ pos (t.unit * t.hysteresis)

  -- the step is the old one, held between the thresholds not above the reading and those not above reading plus hysteresis
  pub step_is : (old : ℕ) (h : ℤ) → new_step t old (Taken h) ≡ max (not_above t h) (min old (not_above t (h +ℤ pos (t.unit * t.hysteresis))))
  unfolding new_step settled
  step_is old h = go (ltb (not_above t h) old) refl
    where
      go : (b : Bool) → ltb (not_above t h) old ≡ b → pick b (min old (not_above t (warmer h))) (not_above t h) ≡ max (not_above t h) (min old (not_above t (warmer h)))
      go true e = omega (arith, ltb-true, not_above_mono h (warmer h) (le_z_rise h (t.unit * t.hysteresis)))
      go false e = omega (arith, ltb-false)

  -- a step is at most 12
  pub step_le : (old : ℕ) (r : Reading) → new_step t old r ≤ 12
  unfolding new_step
  step_le old Missing = omega arith
  step_le old (Taken h) = omega (arith, step_is old h, not_above_le h, not_above_le (warmer h))

  -- a hotter reading and an old step no lower give a step no lower
  pub step_mono : {o p : ℕ} {x y : Reading} → o ≤ p → NoHotter x y → new_step t o x ≤ new_step t p y
  unfolding new_step
  step_mono {o} l (missing {x}) = step_le o x
  step_mono {o} {p} l (taken {x} {y} h) =
      omega (arith, step_is o x, step_is p y, not_above_mono x y h, not_above_mono (warmer x) (warmer y) (le_z_plus x y (t.unit * t.hysteresis) h))

-- ---- the duty that a table asks

module _ (d : List ℕ) (r : Rising (λ k. get_or d k 0)) (t : Table) where
  -- a table asks at most 256
  pub asked_le : (o : ℕ) (x : Reading) → asked_duty d (new_step t o x) x ≤ 256
  unfolding asked_duty
  asked_le o Missing = omega arith
  asked_le o (Taken x) =
      omega (arith, rises_far (λ k. get_or d k 0) 12 r.rises (new_step t o (Taken x)) 12 (step_le t o (Taken x)) (omega arith), r.top)

  -- a hotter reading and an old step no lower ask no less
  pub asked_mono : {o p : ℕ} {x y : Reading} → o ≤ p → NoHotter x y → asked_duty d (new_step t o x) x ≤ asked_duty d (new_step t p y) y
  unfolding asked_duty
  asked_mono {o} l (missing {x}) = asked_le o x
  asked_mono {o} {p} l (taken {x} {y} h) =
      rises_far (λ k. get_or d k 0) 12 r.rises (new_step t o (Taken x)) (new_step t p (Taken y)) (step_mono t l (taken h)) (step_le t p (Taken y))

-- ---- the zone that a table follows

-- hotter readings make a zone of two no cooler
pub joined_mono : (enabled : Bool) {a b x y : Reading} → NoHotter a x → NoHotter b y → NoHotter (joined_zone enabled a b) (joined_zone enabled x y)
unfolding joined_zone
joined_mono enabled p q = pick_related NoHotter enabled (hotter_mono p q) p

-- hotter zones make what a table follows no cooler
pub followed_mono : (zs ws : List Reading) → ((i : ℕ) → NoHotter (zone_in zs i) (zone_in ws i)) → (source bindings table : ℕ) → NoHotter (followed_zone zs source bindings table) (followed_zone ws source bindings table)
unfolding followed_zone zone_one zone_two
followed_mono zs ws h source bindings table =
    pick_related NoHotter (eqb table 0) (one LUT1_Z1)
    (pick_related NoHotter (eqb table 1) (two LUT2_Z2) (pick_related NoHotter (eqb table 2) (one LUT3_Z1) (two LUT4_Z2)))
  where
    one : (bit : ℕ) → NoHotter (pick (is_set bindings bit) (zone_one zs source) (zone_in zs 4)) (pick (is_set bindings bit) (zone_one ws source) (zone_in ws 4))
    one bit = pick_related NoHotter (is_set bindings bit) (joined_mono (is_set source Z1BE) (h 0) (h 1)) (h 4)

    two : (bit : ℕ) → NoHotter (pick (is_set bindings bit) (zone_two zs source) (zone_in zs 5)) (pick (is_set bindings bit) (zone_two ws source) (zone_in ws 5))
    two bit = pick_related NoHotter (is_set bindings bit) (joined_mono (is_set source Z2BE) (h 2) (h 3)) (h 5)

-- ---- boosts

-- a latch that is on stays on at a hotter reading
latch_mono : (b : ℤ) (n : ℕ) (x y : ℤ) (v w : Bool) → T (le_z x y) → (T v → T w) → T (is_latched b n x v) → T (is_latched b n y w)
unfolding is_latched
latch_mono b n x y v w p k = go (le_z on x) (le_z on y) (lt_z x off) (lt_z y off) (λ t. le_z_trans on x y t p) (le_lt x y off p)
  where
    on : ℤ
    on = b *ℤ pos DEGREE

    off : ℤ
    off = b *ℤ pos DEGREE -ℤ pos (n * DEGREE)

    go : (s t e f : Bool) → (T s → T t) → (T f → T e) → T (pick s true (pick e false v)) → T (pick t true (pick f false w))
    go s true e f i j h = tt
    go true false e f i j h = absurd (i tt)
    go false false true f i j h = absurd h
    go false false false true i j h = absurd (j tt)
    go false false false false i j h = k h

-- a boost that is on stays on at a hotter reading
pub boost_mono : (e : Bool) (b : Option ℤ) (n : ℕ) {x y : Reading} (v w : Bool) → NoHotter x y → (T v → T w) → T (is_boosted e b n x v) → T (is_boosted e b n y w)
unfolding is_boosted
boost_mono false b n v w p k h = h
boost_mono true None n v w p k h = h
boost_mono true (Some b) n v w missing k h = tt
boost_mono true (Some b) n v w (taken {x} {y} p) k h = latch_mono b n x y v w p k h

-- one that is on is enough
pub any_at : (bs : List Bool) (i : ℕ) → T (get_or bs i false) → T (any_on bs)
unfolding any_on
any_at [] i t = t
any_at (true ∷ bs) i t = tt
any_at (false ∷ bs) zero t = absurd t
any_at (false ∷ bs) (suc i) t = any_at bs i t

-- where any is on, it is at some place
pub any_where : (bs : List Bool) → T (any_on bs) → (i : ℕ) × T (get_or bs i false)
unfolding any_on
any_where [] t = absurd t
any_where (true ∷ bs) t = (0, tt)
any_where (false ∷ bs) t = let (i, p) = any_where bs t in (suc i, p)

-- where each boost that is on stays on, any on stays on
pub any_mono : (bs cs : List Bool) → ((i : ℕ) → T (get_or bs i false) → T (get_or cs i false)) → T (any_on bs) → T (any_on cs)
any_mono bs cs h t = let (i, p) = any_where bs t in any_at cs i (h i p)

-- ---- duties

-- values no less have a largest bound one no less
pub bound_mono : (bound n : ℕ) (xs ys : List ℕ) → ((i : ℕ) → get_or xs i 0 ≤ get_or ys i 0) → bound_largest bound xs n ≤ bound_largest bound ys n
unfolding bound_largest
bound_mono bound zero xs ys h = omega arith
bound_mono bound (suc n) xs ys h =
    omega (arith, bound_mono bound n xs ys h, pick_related ◌≤◌ (is_set bound (2 ^ n)) {b = 0} {y = 0} (h n) (omega arith))

-- asks no less make the tables, or the override, ask no less
pub tables_mono : (binding : ℕ) (manual : Option ℕ) (asks more : List ℕ) → ((i : ℕ) → get_or asks i 0 ≤ get_or more i 0) → tables_ask binding manual asks ≤ tables_ask binding manual more
unfolding tables_ask
tables_mono binding None asks more h = bound_mono (binding % 16) 4 asks more h
tables_mono binding (Some duty) asks more h = omega arith

-- asks no less, and a boost that stays on, give a duty no less
pub duty_mono : (binding : ℕ) (manual : Option ℕ) (asks more levels : List ℕ) (v w : Bool) → ((i : ℕ) → get_or asks i 0 ≤ get_or more i 0) → (T v → T w) → fan_duty binding manual asks levels v ≤ fan_duty binding manual more levels w
unfolding fan_duty
duty_mono binding manual asks more levels v w h k =
    omega (arith, tables_mono binding manual asks more h, pick_rises v w {low = 0} {high = 256} k (omega arith))
