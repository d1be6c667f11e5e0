-- 0 is not 1: what `cc` proves of two different constructors. Assumes nothing.
use Rattle.std.specs.Prelude.{◌≡◌, ℕ}
use Rattle.std.proofs.Common.{arith}

pub never : ◌≡◌ {A = ℕ} 0 1 → ⊥
never e = omega arith
