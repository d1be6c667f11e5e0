-- Two tests at once. Assumes nothing.
use Rattle.std.specs.Prelude.{◌≡◌, refl, Bool, true, false}
use Rattle.laws.specs.Pick.{both}
use Rattle.laws.specs.Never.{never}

pub both_false : (b : Bool) → both b false ≡ false
both_false true = refl
both_false false = refl

pub both_with_true : (b : Bool) → both b true ≡ b
both_with_true true = refl
both_with_true false = refl

pub both_left : (a b : Bool) → both a b ≡ true → a ≡ true
both_left true b e = refl
both_left false b e = e

pub both_right : (a b : Bool) → both a b ≡ true → b ≡ true
both_right true b e = e
both_right false b e = absurd (never (cc))

pub both_true : {a b : Bool} → a ≡ true → b ≡ true → both a b ≡ true
both_true p q = rw (p, q)
