-- Laws of a bit that stands in a byte. Assumes nothing.
use Rattle.std.specs.Prelude.{◌≡◌, ℕ, T}
use Rattle.std.proofs.Common.{subst, sym, eqb→eq, eq-eqb}
use Rattle.std.specs.Int.Bits.{bit_and, bit_or}
use Rattle.laws.specs.Bits.{stands_new, stands_stays}
use Rattle.map.specs.Bits.{is_set}

-- as an equation
pub set_eq : (byte bit : ℕ) → T (is_set byte bit) → bit_and byte bit ≡ bit
unfolding is_set
set_eq byte bit t = eqb→eq (bit_and byte bit) bit t

eq_set : (byte bit : ℕ) → bit_and byte bit ≡ bit → T (is_set byte bit)
unfolding is_set
eq_set byte bit e = subst T (sym (eq-eqb (bit_and byte bit) bit e)) tt

-- a bit that is set stands
pub set_new : (byte bit : ℕ) → T (is_set (bit_or byte bit) bit)
set_new byte bit = eq_set (bit_or byte bit) bit (stands_new byte bit)

-- a bit that stands stays when another is set
pub set_stays : (byte bit other : ℕ) → T (is_set byte bit) → T (is_set (bit_or byte other) bit)
set_stays byte bit other t = eq_set (bit_or byte other) bit (stands_stays byte bit other (set_eq byte bit t))
