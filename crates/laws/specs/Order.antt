-- The order of signed numbers, by the tests `le_z` and `lt_z`. Assumes nothing.
use Rattle.std.specs.Prelude.{◌≡◌, refl, Bool, true, false, not, cond, ℕ, suc, ◌+◌, ◌-◌, ◌≤◌, T, ltb, ℤ, pos, negsuc, ◌+ℤ◌}
use Rattle.std.proofs.Common.{arith, ltb-true, ltb-false, leb→le, le→leb, lt→ltb, ltb→lt}
use Rattle.std.specs.Int.Signed.{le_z, lt_z, lt_z_no, ≤ℤ_refl}
use Rattle.laws.specs.Pick.{pick}

pub le_z_refl : (a : ℤ) → T (le_z a a)
le_z_refl a = (≤ℤ_refl a).le

pub le_z_trans : (a b c : ℤ) → T (le_z a b) → T (le_z b c) → T (le_z a c)
le_z_trans (pos a) (pos b) (pos c) p q = le→leb a c (omega (arith, leb→le a b p, leb→le b c q))
le_z_trans (pos a) (pos b) (negsuc c) p q = q
le_z_trans (pos a) (negsuc b) c p q = absurd p
le_z_trans (negsuc a) (pos b) (pos c) p q = tt
le_z_trans (negsuc a) (pos b) (negsuc c) p q = absurd q
le_z_trans (negsuc a) (negsuc b) (pos c) p q = tt
le_z_trans (negsuc a) (negsuc b) (negsuc c) p q = le→leb c a (omega (arith, leb→le b a p, leb→le c b q))

pub le_lt : (a b c : ℤ) → T (le_z a b) → T (lt_z b c) → T (lt_z a c)
le_lt (pos x) (pos y) (pos z) p q = lt→ltb x z (omega (arith, leb→le x y p, ltb→lt y z q))
le_lt (pos x) (pos y) (negsuc z) p q = q
le_lt (pos x) (negsuc y) z p q = absurd p
le_lt (negsuc x) (pos y) (pos z) p q = tt
le_lt (negsuc x) (pos y) (negsuc z) p q = absurd q
le_lt (negsuc x) (negsuc y) (pos z) p q = tt
le_lt (negsuc x) (negsuc y) (negsuc z) p q = lt→ltb z x (omega (arith, leb→le y x p, ltb→lt z y q))

lt_le : (a b : ℤ) → T (lt_z a b) → T (le_z a b)
lt_le (pos a) (pos b) t = le→leb a b (omega (arith, ltb→lt a b t))
lt_le (pos a) (negsuc b) t = absurd t
lt_le (negsuc a) (pos b) t = tt
lt_le (negsuc a) (negsuc b) t = le→leb b a (omega (arith, ltb→lt b a t))

-- the larger of two is no less than either, and no more than what neither exceeds
module _ (x y : ℤ) where
  abbrev pub larger : ℤ
  larger = pick (lt_z x y) y x

  pub left_le : T (le_z x larger)
  left_le = go (lt_z x y) (λ t. t)
    where
      go : (t : Bool) → (T t → T (lt_z x y)) → T (le_z x (pick t y x))
      go true f = lt_le x y (f tt)
      go false f = le_z_refl x

  pub right_le : T (le_z y larger)
  right_le = go (lt_z x y) (λ t. t)
    where
      go : (t : Bool) → (T (not t) → T (not (lt_z x y))) → T (le_z y (pick t y x))
      go true f = le_z_refl y
      go false f = (lt_z_no {a = x} {b = y} (f tt)).le

  pub larger_le : (z : ℤ) → T (le_z x z) → T (le_z y z) → T (le_z larger z)
  larger_le z p q = go (lt_z x y)
    where
      go : (t : Bool) → T (le_z (pick t y x) z)
      go true = q
      go false = p

-- ---- a number added

-- a difference is at least another where it has no less to start from and no more to take away
sub_le : (a b c d : ℕ) → a + d ≤ c + b → (t u : Bool) → ltb a b ≡ t → ltb c d ≡ u → T (le_z (cond t (negsuc (b - suc a)) (pos (a - b))) (cond u (negsuc (d - suc c)) (pos (c - d))))
sub_le a b c d h true true e f = le→leb (d - suc c) (b - suc a) (omega (arith, ltb-true a b e, ltb-true c d f))
sub_le a b c d h true false e f = tt
sub_le a b c d h false true e f = omega (arith, ltb-false a b e, ltb-true c d f)
sub_le a b c d h false false e f = le→leb (a - b) (c - d) (omega (arith, ltb-false a b e, ltb-false c d f))

sub_pos : (a b c : ℕ) → a ≤ c + b → (t : Bool) → T (le_z (cond t (negsuc (b - suc a)) (pos (a - b))) (pos c))
sub_pos a b c h true = tt
sub_pos a b c h false = le→leb (a - b) c (omega arith)

-- the same added on both sides
pub le_z_plus : (a b : ℤ) (n : ℕ) → T (le_z a b) → T (le_z (a +ℤ pos n) (b +ℤ pos n))
le_z_plus (pos a) (pos b) n p = le→leb (a + n) (b + n) (omega (arith, leb→le a b p))
le_z_plus (pos a) (negsuc b) n p = absurd p
le_z_plus (negsuc a) (pos b) n p = sub_pos n (suc a) (b + n) (omega arith) (ltb n (suc a))
le_z_plus (negsuc a) (negsuc b) n p = sub_le n (suc a) n (suc b) (omega (arith, leb→le b a p)) (ltb n (suc a)) (ltb n (suc b)) refl refl

-- more added to the same
pub le_z_more : (a : ℤ) (m n : ℕ) → m ≤ n → T (le_z (a +ℤ pos m) (a +ℤ pos n))
le_z_more (pos a) m n l = le→leb (a + m) (a + n) (omega arith)
le_z_more (negsuc a) m n l = sub_le m (suc a) n (suc a) (omega arith) (ltb m (suc a)) (ltb n (suc a)) refl refl

-- a number added does not lower
pub le_z_rise : (a : ℤ) (n : ℕ) → T (le_z a (a +ℤ pos n))
le_z_rise (pos a) n = le→leb a (a + n) (omega arith)
le_z_rise (negsuc a) n = sub_rise (ltb n (suc a))
  where
    sub_rise : (t : Bool) → T (le_z (negsuc a) (cond t (negsuc (suc a - suc n)) (pos (n - suc a))))
    sub_rise true = le→leb (suc a - suc n) a (omega arith)
    sub_rise false = tt
