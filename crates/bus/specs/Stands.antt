-- An error bit that stands. Assumes nothing.
use Rattle.std.specs.Prelude.{◌≡◌, ℕ, ◌^◌, ◌<◌}
use Rattle.std.proofs.Common.{arith, eqb→eq}
use Rattle.std.specs.Int.Bits.{bit_and}
use Rattle.std.proofs.lemmas.Nat.{and_le_l}
use Rattle.std.proofs.Math.Dec.{T, eqb_refl}
use Rattle.std.proofs.Math.Pow.{pow-lt}
use Rattle.laws.specs.Masks.{one_bit, none_part, stands_without}
use Rattle.map.specs.Bits.{is_set}
use Rattle.bus.specs.Write.{cleared_byte}

-- a written 0 keeps
pub cleared_keeps : (old writable byte k : ℕ) → byte < 256 → k < 8 → T (is_set old (2 ^ k)) → (T (is_set byte (2 ^ k)) → ⊥) → T (is_set (cleared_byte old writable byte) (2 ^ k))
unfolding is_set cleared_byte
cleared_keeps old writable byte k b h stands unset =
    let none : bit_and byte (2 ^ k) ≡ 0 = one_bit byte k (λ e. unset (rw e (eqb_refl (2 ^ k)))) in
    rw (stands_without 8 old (2 ^ k) (bit_and byte writable) (pow-lt h) (omega (arith, and_le_l byte writable)) (eqb→eq _ _ stands) (none_part byte writable (2 ^ k) none)) (eqb_refl (2 ^ k))
