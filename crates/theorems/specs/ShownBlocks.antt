-- A block read shows the present byte of each register of its block. Assumes nothing.
use Rattle.std.specs.Prelude.{◌≡◌, [], ℕ, ◌+◌, ◌-◌, ◌≤◌, ◌<◌, T}
use Rattle.std.proofs.Common.{sym, ◌∙◌, arith}
use Rattle.map.specs.Bits.{is_set}
use Rattle.map.specs.Blocks.{fixed, block_of}
use Rattle.state.specs.declared.Chip.{Chip}
use Rattle.bus.specs.Read.{shown_register}
use Rattle.bus.proofs.BlockPart.{block_at, block_part}
use Rattle.event.specs.Blocks.{shown_for, shown_part}
use Rattle.theorems.specs.BlockPlaces.{same_block}
use Rattle.theorems.specs.Sensors.{BlocksShow}

-- where a register of the block shows a bit at present, so does each G of its command that is acknowledged
pub blocks_show : (c : Chip) (command a bit : ℕ) {first count : ℕ} → block_of command ≡ fixed first count → first ≤ a → a < first + count → T (is_set (shown_register c a) bit) → BlocksShow c command a bit
blocks_show c command a bit {first} {count} listed l h t address f n acknowledged =
    let named = (shown_for c address command [] acknowledged).listed in
    let same = same_block (sym listed ∙ named) in
    let place : first + (a - first) ≡ a = omega arith in
    let bytes = shown_part c address command [] acknowledged ∙ sym (block_part command named c) in
    rw (same.0, same.1) (record {
      from = l;
      below = h;
      shows = rw (rw (same.0, same.1) at bytes, block_at command listed c (a - first) (omega arith), place) t;
    })
