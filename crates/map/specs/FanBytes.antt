-- Where the bytes of the fan counts stand: 6Eh to 75h and nowhere else, the low byte at the even address. Fans count from 0.
-- Assumes nothing.
use Rattle.std.specs.Prelude.{◌≡◌, refl, Bool, true, ℕ, zero, suc, ◌+◌, ◌*◌, ◌≤◌, ◌<◌, eqb, ltb, length}
use Rattle.std.proofs.Math.Decide.{dec_lt}
use Rattle.std.proofs.Common.{arith, eqb-true, ltb-true}
use Rattle.std.specs.Float.Ieee.Bits.{is_true}
use Rattle.std.proofs.Math.ListN.{get_or-eq_default}
use Rattle.laws.specs.Pick.{both}
use Rattle.laws.specs.Both.{both_left, both_right}
use Rattle.laws.specs.Table.{entry}
use Rattle.map.specs.declared.Kind.{Kind}
use Rattle.map.specs.declared.Kind.TheVariants.{Plain, Status, Whole, Half, Volt, FanLow, FanHigh, VoltLow, VoltHigh, FanLimitLow, FanLimitHigh}
use Rattle.map.specs.Names.{FAN_TACH_1_LSB, FAN_TACH_1_MSB}
use Rattle.map.specs.Tables.{homes}
use Rattle.map.specs.Map.{home_of}
use Rattle.map.specs.Kind.{kind_of}

-- which byte of a fan's count a register shows, if it shows one
pub data FanByte : Type 0 where
  neither : FanByte
  low : ℕ → FanByte
  high : ℕ → FanByte

unfoldable pub byte_of_kind : Kind → FanByte
byte_of_kind Plain = neither
byte_of_kind Status = neither
byte_of_kind (Whole i) = neither
byte_of_kind (Half i) = neither
byte_of_kind (Volt i) = neither
byte_of_kind (FanLow fan) = low fan
byte_of_kind (FanHigh fan) = high fan
byte_of_kind (VoltLow i) = neither
byte_of_kind (VoltHigh i) = neither
byte_of_kind (FanLimitLow i) = neither
byte_of_kind (FanLimitHigh i) = neither

unfoldable pub fan_byte_at : ℕ → FanByte
fan_byte_at a = byte_of_kind (kind_of (home_of a))

-- neither, by what the kind is not
pub neither_kind : (k : Kind) → ((fan : ℕ) → k ≡ FanLow fan → ⊥) → ((fan : ℕ) → k ≡ FanHigh fan → ⊥) → byte_of_kind k ≡ neither
unfolding byte_of_kind
neither_kind Plain l h = refl
neither_kind Status l h = refl
neither_kind (Whole i) l h = refl
neither_kind (Half i) l h = refl
neither_kind (Volt i) l h = refl
neither_kind (FanLow i) l h = absurd (l i refl)
neither_kind (FanHigh i) l h = absurd (h i refl)
neither_kind (VoltLow i) l h = refl
neither_kind (VoltHigh i) l h = refl
neither_kind (FanLimitLow i) l h = refl
neither_kind (FanLimitHigh i) l h = refl

-- ---- their places

abbrev pub low_place : ℕ → ℕ
low_place fan = FAN_TACH_1_LSB + fan * 2

abbrev pub high_place : ℕ → ℕ
high_place fan = FAN_TACH_1_MSB + fan * 2

-- there they stand
pub low_kind : (fan : ℕ) → fan < 4 → kind_of (home_of (low_place fan)) ≡ FanLow fan
unfolding kind_of home_of homes
low_kind zero h = refl
low_kind (suc zero) h = refl
low_kind (suc (suc zero)) h = refl
low_kind (suc (suc (suc zero))) h = refl
low_kind (suc (suc (suc (suc fan)))) h = absurd (omega arith)

pub high_kind : (fan : ℕ) → fan < 4 → kind_of (home_of (high_place fan)) ≡ FanHigh fan
unfolding kind_of home_of homes
high_kind zero h = refl
high_kind (suc zero) h = refl
high_kind (suc (suc zero)) h = refl
high_kind (suc (suc (suc zero))) h = refl
high_kind (suc (suc (suc (suc fan)))) h = absurd (omega arith)

pub low_there : (fan : ℕ) → fan < 4 → fan_byte_at (low_place fan) ≡ low fan
unfolding fan_byte_at byte_of_kind
low_there fan h = rw (low_kind fan h)

pub high_there : (fan : ℕ) → fan < 4 → fan_byte_at (high_place fan) ≡ high fan
unfolding fan_byte_at byte_of_kind
high_there fan h = rw (high_kind fan h)

-- a byte of a fan's count that address a shows is at its place
at_place : ℕ → FanByte → Bool
at_place a neither = true
at_place a (low fan) = both (ltb fan 4) (eqb a (low_place fan))
at_place a (high fan) = both (ltb fan 4) (eqb a (high_place fan))

all_at_place : (a : ℕ) → at_place a (fan_byte_at a) ≡ true
unfolding fan_byte_at byte_of_kind kind_of home_of homes at_place
all_at_place a = go (dec_lt a 256)
  where
    go : Dec (a < 256) → at_place a (fan_byte_at a) ≡ true
    go (yes l) = is_true _ (entry (λ k home. at_place k (byte_of_kind (kind_of home))) homes tt a l)
    go (no l) = let past : length homes ≤ a = omega arith in rw (get_or-eq_default homes 0 past)

placed : (a place fan : ℕ) → both (ltb fan 4) (eqb a place) ≡ true → (fan < 4) × (a ≡ place)
placed a place fan e = (ltb-true fan 4 (both_left _ _ e), eqb-true a place (both_right (ltb fan 4) _ e))

-- and nowhere else
module _ (a fan : ℕ) where
  pub low_only : fan_byte_at a ≡ low fan → (fan < 4) × (a ≡ low_place fan)
  unfolding at_place
  low_only e = placed a (low_place fan) fan (rw e at (all_at_place a))

  pub high_only : fan_byte_at a ≡ high fan → (fan < 4) × (a ≡ high_place fan)
  unfolding at_place
  high_only e = placed a (high_place fan) fan (rw e at (all_at_place a))
