-- A loop that tries a test on the numbers below n, one after the other, and stops at the first that fails. Assumes nothing.
use Rattle.std.specs.Prelude.{◌≡◌, Bool, true, false, ℕ, ◌+◌, ◌≤◌, ◌<◌}
use Rattle.std.proofs.Common.{sym, arith}
use Rattle.laws.specs.Every.{every, every_none, every_more, every_stop}

-- those before k pass
pub record Tried (p : ℕ → Bool) (n k : ℕ) : Type 0 where
  pub within : k ≤ n
  pub pass : every k p ≡ true

module _ {p : ℕ → Bool} {n : ℕ} where
  -- before the first
  pub tried_none : Tried p n 0
  tried_none = record { within = omega arith; pass = every_none p }

  -- one more passes
  pub tried_more : {k : ℕ} → Tried p n k → k < n → p k ≡ true → Tried p n (k + 1)
  tried_more {k} h l e = record { within = omega arith; pass = every_more p k h.pass e }

  -- one fails
  pub tried_stop : {k : ℕ} → Tried p n k → k < n → p k ≡ false → false ≡ every n p
  tried_stop {k} h l e = sym (every_stop p k n l e)

  -- none is left
  pub tried_all : {k : ℕ} → Tried p n k → n ≤ k → true ≡ every n p
  tried_all {k} h l =
      let e : k ≡ n = omega arith in
      sym (rw e at h.pass)
