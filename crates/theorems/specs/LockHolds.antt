-- LOCK holds: while it is set, no lock-marked register shows anything new. Assumes nothing.
use Rattle.std.specs.Prelude.{◌≡◌, refl, List, [], ◌∷◌, ℕ, T}
use Rattle.std.proofs.Common.{sym, ◌∙◌}
use Rattle.map.specs.Names.{CONFIGURATION, LOCK}
use Rattle.map.specs.Map.{lock_marked}
use Rattle.map.specs.Bits.{is_set}
use Rattle.state.specs.declared.Chip.{Chip}
use Rattle.state.specs.Parts.{register_at}
use Rattle.bus.specs.Read.{shown_register, given_register}
use Rattle.bus.specs.Locked.{lock_marked_lem}
use Rattle.event.specs.declared.Event.TheVariants.{Reset}
use Rattle.event.specs.Run.{Given, chip_after}
use Rattle.theorems.specs.LockMarks.{marked_shown, marked_read}
use Rattle.theorems.specs.LockKeeps.{step_same}

-- no event of the list is an X
pub data NoReset : List Given → Type 0 where
  none : NoReset []
  more : {g : Given} {gs : List Given} → (g.event ≡ Reset → ⊥) → NoReset gs → NoReset (g ∷ gs)

-- the file keeps its lock-marked registers
file_holds : {gs : List Given} → NoReset gs → (c : Chip) → T (is_set (register_at c CONFIGURATION) LOCK) → (a : ℕ) → T (lock_marked a) → register_at (chip_after c gs) a ≡ register_at c a
unfolding chip_after
file_holds none c locked a m = refl
file_holds (more {g} n u) c locked a m =
    let same = step_same c locked g n in
    file_holds u _ (rw (same.marked CONFIGURATION lock_marked_lem) locked) a m ∙ same.marked a m

-- From a chip with LOCK set, through any events without X, every lock-marked register shows what it showed, to byte reads as in the dump and
-- in blocks. E3h, with LOCK and GMSK, is one of them (`lock-marked`).
pub lock_holds : (c : Chip) → T (is_set (register_at c CONFIGURATION) LOCK) → (gs : List Given) → NoReset gs → (a : ℕ) → T (lock_marked a)
    → (given_register (chip_after c gs) a ≡ given_register c a) × (shown_register (chip_after c gs) a ≡ shown_register c a)
lock_holds c locked gs u a m =
    let same = file_holds u c locked a m in
    (marked_read (chip_after c gs) a m ∙ same ∙ sym (marked_read c a m), marked_shown (chip_after c gs) a m ∙ same ∙ sym (marked_shown c a m))
