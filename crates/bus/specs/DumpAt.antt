-- The dump, byte by byte. Assumes nothing.
use Rattle.std.specs.Prelude.{◌≡◌, List, ◌++◌, ℕ, ◌+◌, ◌-◌, ◌≤◌, ◌<◌, length, drop, get_or}
use Rattle.std.proofs.Common.{sym, ap, ◌∙◌, arith, le-ltb, get_or-append-add, get_or-drop}
use Rattle.std.proofs.Math.ListN.{get_or-append}
use Rattle.map.specs.FanBytes.{high_place}
use Rattle.state.specs.declared.Chip.{Chip}
use Rattle.bus.specs.Read.{shown_register, given_register}
use Rattle.bus.specs.KeptBytes.{read_present}
use Rattle.bus.specs.Dump.{shown_all, dumped_into, all_long, shown_at}

module _ (c : Chip) (out : List ℕ) (room : 256 ≤ length out) where
  dumped_is : dumped_into c out ≡ shown_all c ++ drop 256 out
  unfolding dumped_into
  dumped_is = rw (le-ltb (length out) 256 room)

  -- byte k of a dump is the present byte of register k
  pub dump_at : (k : ℕ) → k < 256 → get_or (dumped_into c out) k 0 ≡ shown_register c k
  dump_at k h = rw dumped_is (get_or-append (shown_all c) (drop 256 out) 0 k (omega (arith, all_long c)) ∙ shown_at c k h)

  -- and so what a byte read of k would show, but for the four high bytes
  pub dump_read : (k : ℕ) → k < 256 → ((fan : ℕ) → fan < 4 → k ≡ high_place fan → ⊥) → get_or (dumped_into c out) k 0 ≡ given_register c k
  dump_read k h n = dump_at k h ∙ sym (read_present c k n)

  -- the bytes behind stay
  pub dump_behind : (k : ℕ) → 256 ≤ k → get_or (dumped_into c out) k 0 ≡ get_or out k 0
  dump_behind k h =
      let n = k - 256 in
      let e : k ≡ length (shown_all c) + n = omega (arith, all_long c) in
      let f : 256 + n ≡ k = omega arith in
      ap (λ (l : List ℕ). get_or l k 0) dumped_is ∙ ap (λ (i : ℕ). get_or (shown_all c ++ drop 256 out) i 0) e
      ∙ get_or-append-add (shown_all c) (drop 256 out) n 0 ∙ get_or-drop 256 out n 0 ∙ ap (λ (i : ℕ). get_or out i 0) f
