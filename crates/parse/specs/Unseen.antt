-- A number held to a bound past a test's range: the test, and what is done with the number where it passes, cannot tell. Assumes nothing.
use Rattle.std.specs.Prelude.{◌≡◌, Bool, false, ℕ, ◌<◌, min, leb}
use Rattle.std.proofs.Common.{arith}
use Rattle.std.proofs.Math.Logic.{by_cases}
use Rattle.std.proofs.Math.Decide.{dec_le}
use Rattle.laws.specs.Pick.{pick, both}

-- x and y are the same, or the test fails at both
pub data Unseen {A : Type 0} (test : A → Bool) (x y : A) : Type 0 where
  same : x ≡ y → Unseen test x y
  out : test x ≡ false → test y ≡ false → Unseen test x y

-- a number held to `top` is not seen by a test for at most `most`, which is below
pub held_unseen : (n top most : ℕ) → most < top → Unseen (λ k. leb k most) (min n top) n
held_unseen n top most h = by_cases (dec_le n top) (λ l. same (omega arith)) (λ l. out (grind arith) (grind arith))

-- nor by a test of what holds the number, if that fails where the number's test does
pub within_unseen : {A B : Type 0} {p : A → Bool} {x y : A} (q : B → Bool) (f : A → B) → ((a : A) → p a ≡ false → q (f a) ≡ false) → Unseen p x y → Unseen q (f x) (f y)
within_unseen q f h u = grind arith

-- ---- a choice by a test

module _ {A X : Type 0} {p : A → Bool} {a b : A} where
  pub one_unseen : (f : A → X) (z : X) → Unseen p a b → pick (p a) (f a) z ≡ pick (p b) (f b) z
  one_unseen f z u = grind arith

  -- by two tests
  pub both_unseen : {B : Type 0} {q : B → Bool} {c d : B} (f : A → B → X) (z : X) → Unseen p a b → Unseen q c d → pick (both (p a) (q c)) (f a c) z ≡ pick (both (p b) (q d)) (f b d) z
  both_unseen f z u w = grind arith
