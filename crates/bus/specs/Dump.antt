-- Document 01, "Bus answers": "A register dump writes the 256 bytes that byte reads of 00h to FFh would show, in order, and returns 0 and
-- 256. The chip and the bytes behind stay." Assumes nothing.
use Rattle.std.specs.Prelude.{◌≡◌, refl, Bool, true, false, Result, Ok, Err, List, ◌++◌, ℕ, ◌<◌, ltb, length, drop, get_or}
use Rattle.laws.specs.Pick.{pick}
use Rattle.laws.specs.Tab.{tab, tab_at, tab_long}
use Rattle.laws.specs.TabEach.{tab_same}
use Rattle.state.specs.declared.Chip.{Chip}
use Rattle.state.specs.Made.{of_readings}
use Rattle.state.specs.declared.Refusal.{Refusal}
use Rattle.state.specs.declared.Refusal.TheVariants as refusal
use Rattle.state.specs.Refusal.{number_of, number_returned, length_returned}
use Rattle.bus.specs.Read.{shown_register, shown_by_parts}

-- 02, Q-4: "Block reads and the dump show the present byte and neither keep nor drop one." Byte reads, one after the other, show the same
-- bytes (`dump-is-reads`)
unfoldable pub shown_all : Chip → List ℕ
shown_all c = tab (shown_register c) 256

-- refusal 5: "the lent output has under 64 bytes (a register dump: under 256)"; "It returns its number and length 0"
unfoldable pub dump_answer : List ℕ → Result ℕ Refusal
dump_answer out = pick (ltb (length out) 256) (Err refusal.Room) (Ok 256)

unfoldable pub dumped_into : Chip → List ℕ → List ℕ
dumped_into c out = pick (ltb (length out) 256) out (shown_all c ++ drop 256 out)

-- a dump returns 5 and 0, or 0 and 256
pub dump_returned : (out : List ℕ) → (number_returned (dump_answer out) ≡ pick (ltb (length out) 256) 5 0) × (length_returned (dump_answer out) ≡ pick (ltb (length out) 256) 0 256)
unfolding dump_answer number_of
dump_returned out = go (ltb (length out) 256)
  where
    go : (t : Bool) → (number_returned {A = ℕ} (pick t (Err refusal.Room) (Ok 256)) ≡ pick t 5 0) × (length_returned (pick t (Err refusal.Room) (Ok 256)) ≡ pick t 0 256)
    go true = (refl, refl)
    go false = (refl, refl)

-- it has 256 bytes
pub all_long : (c : Chip) → length (shown_all c) ≡ 256
unfolding shown_all
all_long c = tab_long (shown_register c) 256

-- byte k of it is the present byte of register k
pub shown_at : (c : Chip) (k : ℕ) → k < 256 → get_or (shown_all c) k 0 ≡ shown_register c k
unfolding shown_all
shown_at c k h = tab_at (shown_register c) 256 k 0 h

-- the parts that a dump looks at: the registers and the readings
pub dumped_by_parts : (c : Chip) (out : List ℕ) → dumped_into (of_readings c.registers c.zones c.volts c.fans) out ≡ dumped_into c out
unfolding dumped_into shown_all
dumped_by_parts c out = rw (tab_same _ _ 256 (λ k l. shown_by_parts c k))
