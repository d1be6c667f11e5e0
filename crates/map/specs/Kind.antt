-- The kind of the register at an address, by a ladder of rising bounds, and one law for all its rungs. Zones count from 0 in the order
-- 1a, 1b, 2a, 2b, 3, 4; channels and fans count from 0. Assumes nothing.
use Rattle.std.specs.Prelude.{◌≡◌, refl, Bool, true, List, [], ◌∷◌, ℕ, zero, suc, ◌+◌, ◌-◌, ◌*◌, ◌/◌, ◌%◌, ◌≤◌, ◌<◌, eqb, leb, ltb}
use Rattle.std.proofs.Common.{arith, leb-true, lt-ltb, le-ltb}
use Rattle.laws.specs.Pick.{pick, both}
use Rattle.laws.specs.Both.{both_left, both_right}
use Rattle.map.specs.declared.Kind.{Kind}
use Rattle.map.specs.declared.Kind.TheVariants.{Plain, Status, Whole, Half, Volt, FanLow, FanHigh, VoltLow, VoltHigh, FanLimitLow, FanLimitHigh}

-- a rung: the addresses below its bound, from the bound of the rung before it on, and the kind of each
pub data Rung : Type 0 where
  below : ℕ → (ℕ → Kind) → Rung

-- on a rung of plain registers
abbrev pub plain : ℕ → Kind
plain a = Plain

-- of two registers side by side the first has the even address
abbrev pub even_odd : ℕ → Kind → Kind → Kind
even_odd a even odd = pick (eqb (a % 2) 0) even odd

-- the rungs in order; above the last all registers are plain
abbrev pub ladder : List Rung
ladder =
    below 0x06 plain
    -- 06h and 07h: zones 1b and 2b
    ∷ below 0x08 (λ a. Whole ((a - 0x06) * 2 + 1))
    ∷ below 0x10 plain
    -- 10h to 17h: zones 1a, 1b, 2a and 2b, the half bit at the even address
    ∷ below 0x18 (λ a. even_odd a (Half ((a - 0x10) / 2)) (Whole ((a - 0x10) / 2)))
    ∷ below 0x20 plain
    -- 20h to 23h: zones 3 and 4
    ∷ below 0x24 (λ a. even_odd a (Half ((a - 0x18) / 2)) (Whole ((a - 0x18) / 2)))
    ∷ below 0x40 plain
    -- 40h to 4Fh: error status
    ∷ below 0x50 (λ a. Status)
    -- 50h and 51h: zones 1a and 2a; 52h and 53h: zones 3 and 4
    ∷ below 0x52 (λ a. Whole ((a - 0x50) * 2))
    ∷ below 0x54 (λ a. Whole (a - 0x4E))
    ∷ below 0x56 plain
    -- 56h to 65h: voltages 1 to 16
    ∷ below 0x66 (λ a. Volt (a - 0x56))
    ∷ below 0x6E plain
    -- 6Eh to 75h: fans 1 to 4, the low byte at the even address
    ∷ below 0x76 (λ a. even_odd a (FanLow ((a - 0x6E) / 2)) (FanHigh ((a - 0x6E) / 2)))
    ∷ below 0x90 plain
    -- 90h to AFh: the limits of voltages 1 to 16
    ∷ below 0xB0 (λ a. even_odd a (VoltLow ((a - 0x90) / 2)) (VoltHigh ((a - 0x90) / 2)))
    ∷ below 0xB4 plain
    -- B4h to BBh: the limits of fans 1 to 4
    ∷ below 0xBC (λ a. even_odd a (FanLimitLow ((a - 0xB4) / 2)) (FanLimitHigh ((a - 0xB4) / 2)))
    ∷ []

-- the kind of an address on the first rung whose bound is above it
abbrev pub climbed : List Rung → ℕ → Kind
climbed [] a = Plain
climbed (below bound kind ∷ rungs) a = pick (ltb a bound) (kind a) (climbed rungs a)

unfoldable pub kind_of : ℕ → Kind
kind_of a = climbed ladder a

-- ---- the law of the rungs

-- whether the bounds rise, the first from b
abbrev rising : ℕ → List Rung → Bool
rising b [] = true
rising b (below bound kind ∷ rungs) = both (leb b bound) (rising bound rungs)

-- a is not below the bound before rung n, which is b before the first, and is below rung n's own
abbrev pub StandsOn : ℕ → List Rung → ℕ → ℕ → Type 0
StandsOn b [] n a = b ≤ a
StandsOn b (below bound kind ∷ rungs) zero a = (b ≤ a) × (a < bound)
StandsOn b (below bound kind ∷ rungs) (suc n) a = StandsOn bound rungs n a

-- the kind that rung n gives
abbrev pub kind_on : List Rung → ℕ → ℕ → Kind
kind_on [] n a = Plain
kind_on (below bound kind ∷ rungs) zero a = kind a
kind_on (below bound kind ∷ rungs) (suc n) a = kind_on rungs n a

-- where bounds rise, an address that stands on a rung is not below the first bound
above : (b : ℕ) (rungs : List Rung) (n a : ℕ) → rising b rungs ≡ true → StandsOn b rungs n a → b ≤ a
above b [] n a r s = s
above b (below bound kind ∷ rungs) zero a r s = s.0
above b (below bound kind ∷ rungs) (suc n) a r s =
    omega (arith, leb-true b bound (both_left _ _ r), above bound rungs n a (both_right (leb b bound) _ r) s)

-- where bounds rise, an address that stands on a rung has that rung's kind
on_rung : (b : ℕ) (rungs : List Rung) (n a : ℕ) → rising b rungs ≡ true → StandsOn b rungs n a → climbed rungs a ≡ kind_on rungs n a
on_rung b [] n a r s = refl
on_rung b (below bound kind ∷ rungs) zero a r s = rw (lt-ltb a bound s.1)
on_rung b (below bound kind ∷ rungs) (suc n) a r s =
    let t : rising bound rungs ≡ true = both_right (leb b bound) _ r in
    rw (le-ltb a bound (above bound rungs n a t s)) (on_rung bound rungs n a t s)

-- an address on rung n of the ladder, counted from 0, has that rung's kind
pub kind_on_lem : (n a : ℕ) → StandsOn 0 ladder n a → kind_of a ≡ kind_on ladder n a
unfolding kind_of
kind_on_lem n a = on_rung 0 ladder n a refl
