-- Document 02, Q-4: a byte read and the present byte, and what a byte read keeps and drops. Fans count from 0. Assumes nothing.
use Rattle.std.specs.Prelude.{◌≡◌, ℕ, ◌*◌, ◌+◌, ◌/◌, ◌<◌, length, get_or, set, Option, Some, None}
use Rattle.std.proofs.Math.Path.{refl, ap}
use Rattle.std.proofs.Common.{sym, arith, get_or-set_same, get_or-set_other}
use Rattle.std.proofs.Math.ListN.{length-set}
use Rattle.map.specs.FanBytes.{FanByte, neither, low, high, fan_byte_at, low_place, high_place, low_kind, high_kind, low_there, high_there, low_only, high_only}
use Rattle.state.specs.declared.Chip.{Chip}
use Rattle.state.specs.Parts.{no_kept, fan_at, kept_at}
use Rattle.bus.specs.Read.{fan_word, low_byte, high_byte, shown_kind, shown_home, shown_register, given_byte, given_at, given_register, kept_as, kept_after, kept_chip}

-- the two bytes of a count of 14 bits are the count
pub count_bytes : (n : Option ℕ) → fan_word n < 0x4000 → high_byte n * 64 + low_byte n / 4 ≡ fan_word n
unfolding low_byte high_byte
count_bytes n h = omega arith

-- ---- what a byte read shows

-- a byte read of the fan's high byte shows the present one, which is this: none is kept, or the same
abbrev pub GivesPresent : Chip → ℕ → ℕ → Type 0
GivesPresent c fan present = given_byte (kept_at c fan) present ≡ present

given_same : (c : Chip) (b : FanByte) (present : ℕ) → ((fan : ℕ) → b ≡ high fan → GivesPresent c fan present) → given_at c b present ≡ present
unfolding given_at
given_same c neither present p = refl
given_same c (low fan) present p = refl
given_same c (high fan) present p = p fan refl

module _ (c : Chip) (a : ℕ) where
  -- a byte read shows the present byte wherever it is no high byte with another one kept
  pub read_same : ((fan : ℕ) → fan < 4 → a ≡ high_place fan → GivesPresent c fan (shown_register c a)) → given_register c a ≡ shown_register c a
  unfolding given_register
  read_same p =
      given_same c (fan_byte_at a) (shown_register c a) (λ fan e. let o = high_only a fan e in p fan o.0 o.1)

  -- so it differs from the present byte, which the dump and a block show, at the four high bytes alone
  pub read_present : ((fan : ℕ) → fan < 4 → a ≡ high_place fan → ⊥) → given_register c a ≡ shown_register c a
  read_present n = read_same (λ fan l e. absurd (n fan l e))

module _ (c : Chip) (fan : ℕ) (h : fan < 4) where
  -- the present bytes of a fan count
  pub shown_low : shown_register c (low_place fan) ≡ low_byte (fan_at c fan)
  unfolding shown_register shown_home shown_kind
  shown_low = rw (low_kind fan h)

  pub shown_high : shown_register c (high_place fan) ≡ high_byte (fan_at c fan)
  unfolding shown_register shown_home shown_kind
  shown_high = rw (high_kind fan h)

  -- a byte read of the low byte shows the present one
  pub read_low : given_register c (low_place fan) ≡ low_byte (fan_at c fan)
  unfolding given_register given_at
  read_low = rw (low_there fan h, shown_low)

  -- of the high byte the kept one, or the present one where none is kept
  pub read_high : given_register c (high_place fan) ≡ given_byte (kept_at c fan) (high_byte (fan_at c fan))
  unfolding given_register given_at
  read_high = rw (high_there fan h, shown_high)

-- ---- what it keeps and drops

module _ (c : Chip) where
  as_many : (b : FanByte) → length (kept_as c b) ≡ length c.kept
  unfolding kept_as
  as_many neither = refl
  as_many (low fan) = length-set c.kept fan _
  as_many (high fan) = length-set c.kept fan _

  -- there are as many kept bytes after it
  pub kept_many : (a : ℕ) → length (kept_after c a) ≡ length c.kept
  unfolding kept_after
  kept_many a = as_many (fan_byte_at a)

module _ (c : Chip) (fan : ℕ) where
  set_other : (i : ℕ) (k : Option ℕ) → (i ≡ fan → ⊥) → get_or (set c.kept i k) fan no_kept ≡ kept_at c fan
  unfolding kept_at
  set_other i k n = get_or-set_other c.kept i fan k no_kept (λ e. n (sym e))

  as_other : (b : FanByte) → (b ≡ low fan → ⊥) → (b ≡ high fan → ⊥) → get_or (kept_as c b) fan no_kept ≡ kept_at c fan
  unfolding kept_as kept_at
  as_other neither l h = refl
  as_other (low i) l h = set_other i _ (λ e. l (ap low e))
  as_other (high i) l h = set_other i _ (λ e. h (ap high e))

  -- a read of another fan's bytes, or of another register, leaves a fan's kept byte
  pub kept_other : (a : ℕ) → (a ≡ low_place fan → ⊥) → (a ≡ high_place fan → ⊥) → kept_at (kept_chip c a) fan ≡ kept_at c fan
  unfolding kept_at kept_after
  kept_other a l h = as_other (fan_byte_at a) (λ e. l (low_only a fan e).1) (λ e. h (high_only a fan e).1)

  module _ (h : fan < 4) (many : length c.kept ≡ 4) where
    -- a read of its low byte keeps the high byte of that moment, in place of an older one
    pub kept_low : kept_at (kept_chip c (low_place fan)) fan ≡ Some (high_byte (fan_at c fan))
    unfolding kept_at kept_after kept_as
    kept_low = rw (low_there fan h) (get_or-set_same c.kept fan _ no_kept (omega arith))

    -- a read of its high byte drops it
    pub kept_high : kept_at (kept_chip c (high_place fan)) fan ≡ None
    unfolding kept_at kept_after kept_as
    kept_high = rw (high_there fan h) (get_or-set_same c.kept fan _ no_kept (omega arith))
