-- What the test of an event tells. Assumes nothing.
use mathlib.Core.Path.{◌≡◌, sym, ◌∙◌}
use mathlib.Core.Bool.{true}
use mathlib.Core.List.{List}
use Prim.Native.Nat.{ℕ}
use Rattle.std.specs.Prelude.{None}
use native.Mathlib.Omega.{arith}
use lib.Dec.{leb}
use lib.IntN.{ℤ, pos, negsuc, ◌*ℤ◌}
use mir.Syntax.{w16}
use mir.Val.{SFits}
use borrow.Author.Tests.{leb-true}
use Rattle.laws.specs.Both.{both_left}
use Rattle.temperature.specs.Temperature.{HALF}
use Rattle.temperature.specs.Sixteenths.{halves_neg}
use Rattle.state.specs.declared.Chip.{Chip}
use Rattle.event.specs.declared.Event.{Event}
use Rattle.event.specs.declared.Stepped.{Stepped}
use Rattle.event.specs.Event.{reading_within, event_in, refusal_of, taken_step, stepped_chip}
use Rattle.event.specs.Refusal.{step_taken}

-- half degrees in T's range are sixteenths that fit
pub halves_fit : (h : ℤ) → reading_within (negsuc 253) (pos 255) h ≡ true → SFits w16 (h *ℤ pos HALF)
unfolding reading_within
halves_fit (pos n) e = omega (arith, leb-true n 255 e)
halves_fit (negsuc n) e = rw (halves_neg n) (omega (arith, leb-true n 253 (both_left (leb n 253) true e)))

-- an event that is not refused with its bytes: what it is, f, and that its numbers are in range
pub record Passed (e f : Event) (bytes : List ℕ) : Type 0 where
  pub is : e ≡ f
  pub none : refusal_of f bytes ≡ None
  pub inside : event_in f ≡ true

-- it is taken
pub taken_step_lem : {e f : Event} {bytes : List ℕ} → Passed e f bytes → (c : Chip) {s : Stepped} → s ≡ taken_step c f bytes → s ≡ stepped_chip c e bytes
taken_step_lem {e} {f} {bytes} p c q = rw p.is (q ∙ sym (step_taken c f bytes p.none))
