-- `bus::dump` meets its contract: a dump is a block of 256 bytes from 00h on. Assumes nothing.
use mathlib.Core.Path.{◌≡◌, ap, ◌∙◌}
use native.Mathlib.Omega.{arith}
use Prim.Native.Nat.{ℕ, ◌≤◌}
use mathlib.Core.List.{List}
use lib.ListN.{length, take}
use Rattle.std.proofs.Common.{length-take}
use borrow.Author.Tests.{le-ltb}
use Rattle.laws.specs.TabEach.{tab_same}
use Rattle.state.specs.declared.Chip.{Chip}
use Rattle.bus.specs.Read.{shown_register}
use Rattle.bus.specs.Dump.{shown_all, dump_answer, dumped_into}
use Rattle.bus.specs.Block.{block_bytes, block_place}
use Rattle.bus.proofs.dump.Goals as goal

whole : (c : Chip) (out : List ℕ) → 256 ≤ length out → block_bytes c 0 (length (take 256 out)) ≡ shown_all c
unfolding block_bytes block_place shown_all
whole c out h =
    let long : length (take 256 out) ≡ 256 = simp length-take (omega arith) in
    rw long (tab_same _ _ 256 (λ k l. ap (shown_register c) (omega arith)))

pub returns : goal.returns
unfolding dump_answer dumped_into
returns c =
    (rw (le-ltb _ _ c.if-out-lt256.false), rw (le-ltb _ _ c.if-out-lt256.false, c.show_block.ensures ∙ whole _ _ c.if-out-lt256.false))
