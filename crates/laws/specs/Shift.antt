-- The bit at a place below 8, as `1u8 << k` computes it. Assumes nothing.
use Rattle.std.specs.Prelude.{◌≡◌, ℕ, ◌*◌, ◌%◌, ◌^◌, ◌<◌}
use Rattle.std.proofs.Common.{ap, ◌∙◌, mod-eq_of_lt, one-mul}
use Rattle.std.proofs.Math.Pow.{pow-lt}

pub one_shl : (k : ℕ) → k < 8 → 1 * 2 ^ k % 256 ≡ 2 ^ k
one_shl k h = ap (λ (n : ℕ). n % 256) (one-mul (2 ^ k)) ∙ mod-eq_of_lt (pow-lt h)
