-- The ranges of the 59 numbers, group by group, for their size without sign: none may be further below 0 than above. Assumes nothing.
use Rattle.std.specs.Prelude.{◌≡◌, refl, true, Option, None, Some, ℕ, ◌+◌, ◌≤◌, ◌<◌, leb}
use Rattle.std.proofs.Common.{arith, leb-true, lt-ltb, le-ltb}
use Rattle.laws.specs.Every.{every, every_at}
use Rattle.text.specs.declared.Number.{Number}
use Rattle.text.specs.declared.Number.TheVariants.{Dash, Plus, Minus}
use Rattle.state.specs.Most.{LEVEL_MOST, DEGREES_MOST, OFFSET_MOST, HYSTERESIS_MOST, DUTY_MOST, BYTE_MOST}
use Rattle.settings.specs.Places.{LEVEL, BASES, OFFSETS12, OFFSETS34, HYSTERESES, BOOSTS, BOOST_HYSTERESIS, BINDINGS, START_COUNTS, NUMBERS}
use Rattle.settings.specs.Settings.{up_to, range_of, is_within, plain_of}

-- a number without its sign; 0 where it is none
unfoldable pub size_of : Option Number → ℕ
size_of None = 0
size_of (Some Dash) = 0
size_of (Some (Plus v)) = v
size_of (Some (Minus v)) = v

-- a number that is not below 0 is its size
pub plain_most : {m : ℕ} (n : Option Number) → size_of n ≤ m → plain_of n ≤ m
unfolding plain_of size_of
plain_most None h = h
plain_most (Some Dash) h = h
plain_most (Some (Plus v)) h = h
plain_most (Some (Minus v)) h = omega arith

-- no number may be above 256
pub most_small : (k : ℕ) → k < NUMBERS → (range_of k).most ≤ DUTY_MOST
unfolding every range_of
most_small k l = leb-true (range_of k).most DUTY_MOST (every_at (λ k. leb (range_of k).most DUTY_MOST) NUMBERS k refl l)

-- and none may be further below 0 than above
pub below_small : (k : ℕ) → k < NUMBERS → (range_of k).below ≤ (range_of k).most
unfolding every range_of
below_small k l =
    leb-true (range_of k).below (range_of k).most (every_at (λ k. leb (range_of k).below (range_of k).most) NUMBERS k refl l)

-- 02, Q-6: "Offsets now run from 0 to 63 in both tables."
pub offset_range : (k : ℕ) → OFFSETS12 ≤ k → k < HYSTERESES → range_of k ≡ up_to OFFSET_MOST
unfolding range_of
offset_range k p q = rw (le-ltb k BASES (omega arith), le-ltb k OFFSETS12 p, lt-ltb k HYSTERESES q)

-- a number in its range is no larger than the largest, whatever its sign
size_most : (k : ℕ) (n : Option Number) → k < NUMBERS → is_within (range_of k) n ≡ true → size_of n ≤ (range_of k).most
unfolding is_within size_of
size_most k None l e = omega arith
size_most k (Some Dash) l e = omega arith
size_most k (Some (Plus v)) l e = leb-true v (range_of k).most e
size_most k (Some (Minus v)) l e = omega (arith, leb-true v (range_of k).below e, below_small k l)

-- all numbers of the group that begins at `first` are at most `most`
abbrev GroupMost : ℕ → ℕ → ℕ → Type 0
GroupMost first count most = every count (λ k. leb (range_of (first + k)).most most) ≡ true

-- the ranges, without signs
pub record Ranged (n : ℕ → Option Number) : Type 0 where
  pub all : (k : ℕ) → k < NUMBERS → size_of (n k) ≤ DUTY_MOST
  pub level : size_of (n LEVEL) ≤ LEVEL_MOST
  pub bases : (i : ℕ) → i < 4 → size_of (n (BASES + i)) ≤ DEGREES_MOST
  pub offsets12 : (k : ℕ) → k < 12 → size_of (n (OFFSETS12 + k)) ≤ OFFSET_MOST
  pub offsets34 : (k : ℕ) → k < 12 → size_of (n (OFFSETS34 + k)) ≤ OFFSET_MOST
  pub hystereses : (i : ℕ) → i < 2 → size_of (n (HYSTERESES + i)) ≤ HYSTERESIS_MOST
  pub boosts : (i : ℕ) → i < 6 → size_of (n (BOOSTS + i)) ≤ DEGREES_MOST
  pub boost_hysteresis_lem : size_of (n BOOST_HYSTERESIS) ≤ HYSTERESIS_MOST
  pub bindings : (f : ℕ) → f < 2 → size_of (n (BINDINGS + f)) ≤ BYTE_MOST
  pub start_counts_lem : (f : ℕ) → f < 2 → size_of (n (START_COUNTS + f)) ≤ BYTE_MOST

module _ (n : ℕ → Option Number) (w : every NUMBERS (λ k. is_within (range_of k) (n k)) ≡ true) where
  -- number k is no larger than its largest
  size_at : (k : ℕ) → k < NUMBERS → size_of (n k) ≤ (range_of k).most
  size_at k l = size_most k (n k) l (every_at (λ k. is_within (range_of k) (n k)) NUMBERS k w l)

  -- the numbers of a group are no larger than the group's largest
  group : (first count most : ℕ) → first + count ≤ NUMBERS → GroupMost first count most → (k : ℕ) → k < count → size_of (n (first + k)) ≤ most
  group first count most p e k l =
      omega (arith, size_at (first + k) (omega arith), leb-true (range_of (first + k)).most most (every_at (λ k. leb (range_of (first + k)).most most) count k e l))

  -- numbers that pass the test are in range
  pub in_range : Ranged n
  unfolding every range_of
  in_range = record {
    all = λ k l. omega (arith, size_at k l, most_small k l);
    level = size_at LEVEL (omega arith);
    bases = group BASES 4 DEGREES_MOST (omega arith) refl;
    offsets12 = group OFFSETS12 12 OFFSET_MOST (omega arith) refl;
    offsets34 = group OFFSETS34 12 OFFSET_MOST (omega arith) refl;
    hystereses = group HYSTERESES 2 HYSTERESIS_MOST (omega arith) refl;
    boosts = group BOOSTS 6 DEGREES_MOST (omega arith) refl;
    boost_hysteresis_lem = size_at BOOST_HYSTERESIS (omega arith);
    bindings = group BINDINGS 2 BYTE_MOST (omega arith) refl;
    start_counts_lem = group START_COUNTS 2 BYTE_MOST (omega arith) refl;
  }
