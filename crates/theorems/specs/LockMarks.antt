-- Lock-marked registers: each shows the byte that the register file holds, at present and to byte reads, and is no error status register.
-- Assumes nothing.
use Rattle.std.specs.Prelude.{◌≡◌, refl, Bool, true, false, not, ℕ, ◌<◌, T, eqb, ltb}
use Rattle.std.proofs.Common.{ltb-true, ltb-false, eqb→eq}
use Rattle.std.specs.Float.Ieee.Bits.{is_true}
use Rattle.std.proofs.Math.ListN.{get_or-eq_default}
use Rattle.laws.specs.Pick.{either}
use Rattle.laws.specs.Table.{passes, entry}
use Rattle.map.specs.declared.Kind.{Kind}
use Rattle.map.specs.declared.Kind.TheVariants.{Plain, Status, Whole, Half, Volt, FanLow, FanHigh, VoltLow, VoltHigh, FanLimitLow, FanLimitHigh}
use Rattle.map.specs.Tables.{lock_marks, homes}
use Rattle.map.specs.Map.{lock_marked, home_of}
use Rattle.map.specs.Kind.{kind_of}
use Rattle.map.specs.FanBytes.{byte_of_kind, fan_byte_at}
use Rattle.state.specs.declared.Chip.{Chip}
use Rattle.state.specs.Parts.{register_at}
use Rattle.sense.specs.Marks.{Status as ErrorStatus}
use Rattle.bus.specs.Read.{shown_kind, shown_register, given_at, given_register}
use Rattle.laws.specs.Never.{never}
use Rattle.theorems.specs.ShownBytes.{own_shown, status_kind}

-- whether a kind is the plain one
abbrev plain : (k : Kind) → (t : Bool) × (T t → k ≡ Plain)
plain Plain = (true, λ t. refl)
plain Status = (false, λ t. absurd t)
plain (Whole i) = (false, λ t. absurd t)
plain (Half i) = (false, λ t. absurd t)
plain (Volt i) = (false, λ t. absurd t)
plain (FanLow i) = (false, λ t. absurd t)
plain (FanHigh i) = (false, λ t. absurd t)
plain (VoltLow i) = (false, λ t. absurd t)
plain (VoltHigh i) = (false, λ t. absurd t)
plain (FanLimitLow i) = (false, λ t. absurd t)
plain (FanLimitHigh i) = (false, λ t. absurd t)

-- no address past the table is marked
marked_in : (a : ℕ) → T (lock_marked a) → a < 256
unfolding lock_marked lock_marks
marked_in a t = go (ltb a 256) refl
  where
    go : (b : Bool) → ltb a 256 ≡ b → a < 256
    go true e = ltb-true a 256 e
    go false e = absurd (rw (get_or-eq_default lock_marks 0 {n = a} (ltb-false a 256 e)) at t)

-- what a test finds at each marked address of the table
marked_test : (f : ℕ → Bool) → T (passes (λ a mark. either (not (eqb mark 1)) (f a)) 0 lock_marks) → (a : ℕ) → T (lock_marked a) → T (f a)
unfolding lock_marked lock_marks
marked_test f t a m = rw (is_true (lock_marked a) m) at (entry (λ a mark. either (not (eqb mark 1)) (f a)) lock_marks t a (marked_in a m))

-- a lock-marked register is its own home
marked_home : (a : ℕ) → T (lock_marked a) → home_of a ≡ a
unfolding lock_marks home_of homes
marked_home a m = eqb→eq (home_of a) a (marked_test (λ a. eqb (home_of a) a) tt a m)

-- and plain
marked_plain : (a : ℕ) → T (lock_marked a) → kind_of a ≡ Plain
unfolding lock_marks kind_of
marked_plain a m = (plain (kind_of a)).1 (marked_test (λ a. (plain (kind_of a)).0) tt a m)

-- so it shows its byte
pub marked_shown : (c : Chip) (a : ℕ) → T (lock_marked a) → shown_register c a ≡ register_at c a
unfolding shown_kind
marked_shown c a m = rw (own_shown c a (marked_home a m), marked_plain a m)

-- and is read so, since it is not the high byte of a fan
pub marked_read : (c : Chip) (a : ℕ) → T (lock_marked a) → given_register c a ≡ register_at c a
unfolding given_register given_at fan_byte_at byte_of_kind
marked_read c a m = rw (marked_home a m, marked_plain a m) (marked_shown c a m)

-- and is no error status register
pub marked_no_status : (a : ℕ) → T (lock_marked a) → ErrorStatus a → ⊥
marked_no_status a m s = never (cc (marked_plain a m, status_kind a s))
