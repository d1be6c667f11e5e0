-- A signed number raised by 65536: it has no sign then, and ends in the same bits. Assumes nothing.
use Rattle.std.specs.Prelude.{◌≡◌, ℕ, zero, suc, ◌+◌, ◌-◌, ◌%◌, ◌<◌, eqb, ℤ, pos, negsuc, ◌+ℤ◌}
use Rattle.std.proofs.Common.{ap, arith, le-ltb}
use Rattle.std.specs.Int.Signed.{mag}
use Rattle.temperature.specs.Temperature.{byte_of, is_odd}

unfoldable pub raised : ℤ → ℕ
raised (pos n) = 65536 + n
raised (negsuc n) = 65535 - n

pub raised_is : (z : ℤ) → mag z < 65536 → z +ℤ pos 65536 ≡ pos (raised z)
unfolding raised
raised_is (pos n) h = ap pos (omega arith)
raised_is (negsuc n) h = rw (le-ltb 65536 (suc n) (omega arith)) (ap pos (omega arith))

pub raised_lt : (z : ℤ) → mag z < 65536 → raised z < 131072
unfolding raised
raised_lt (pos n) h = omega arith
raised_lt (negsuc n) h = omega arith

pub raised_byte : (z : ℤ) → mag z < 65536 → raised z % 256 ≡ byte_of z
unfolding raised byte_of
raised_byte (pos n) h = omega arith
raised_byte (negsuc n) h = omega arith

-- 1 where the other is 0
flip : (a b : ℕ) → a < 2 → b ≡ 1 - a → eqb b 1 ≡ eqb a 0
flip zero b p q = rw q
flip (suc zero) b p q = rw q
flip (suc (suc a)) b p q = absurd (omega arith)

pub raised_odd : (z : ℤ) → mag z < 65536 → eqb (raised z % 2) 1 ≡ is_odd z
unfolding raised is_odd
raised_odd (pos n) h = ap (λ (m : ℕ). eqb m 1) {x = (65536 + n) % 2} {y = n % 2} (omega arith)
raised_odd (negsuc n) h = flip (n % 2) ((65535 - n) % 2) (omega arith) (omega arith)
