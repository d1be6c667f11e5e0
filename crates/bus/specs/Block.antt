-- Document 02, Q-1, "Whole blocks over the bus": block reads and block writes. Assumes nothing.
use Rattle.std.specs.Prelude.{true, false, List, [], ◌∷◌, ℕ, suc, ◌+◌, min, eqb, length, Option, Some, None}
use Rattle.laws.specs.Pick.{pick}
use Rattle.laws.specs.Tab.{tab}
use Rattle.map.specs.declared.Block.{Block}
use Rattle.map.specs.Blocks.{block_of}
use Rattle.state.specs.declared.Chip.{Chip}
use Rattle.bus.specs.Latch.{is_ours, transacted}
use Rattle.bus.specs.Write.{wrote_register, Written}
use Rattle.bus.specs.Read.{shown_register}

-- the register of a block's byte k, counted from 0. No listed block goes past FFh; one that would stays there, as in 000: "Block writes do
-- not wrap from address FFh back to 00h the address remains at FFh"
unfoldable pub block_place : ℕ → ℕ → ℕ
block_place first k = min (first + k) 0xFF

-- the block that a transaction is for: "A command not listed is not acknowledged", and neither is one for another address
unfoldable pub block_for : Option ℕ → ℕ → ℕ → Option Block
block_for latch address command = pick (is_ours latch address) (block_of command) None

-- ---- block read

-- "A block read shows all its bytes from one state." Q-4: "Block reads .. show the present byte and neither keep nor drop one."
unfoldable pub block_bytes : Chip → ℕ → ℕ → List ℕ
block_bytes c first count = tab (λ k. shown_register c (block_place first k)) count

-- the chip after a block read, and the block whose bytes it then shows
pub record SeenBlock : Type 0 where
  pub chip : Chip
  pub block : Option Block

unfoldable pub read_block : Chip → ℕ → ℕ → SeenBlock
read_block c address command =
    record { chip = transacted c address; block = block_for (transacted c address).pin.latch address command }

-- ---- block write

-- "A block write whose count differs from the listed one is not acknowledged from the count on and writes nothing"
unfoldable pub counted_block : ℕ → Option Block → Option Block
counted_block n None = None
counted_block n (Some block) = pick (eqb n block.count) (Some block) None

-- "otherwise it equals its byte writes in rising order, lock and writable bits included": the bytes from byte k on
unfoldable pub wrote_from : Chip → ℕ → ℕ → List ℕ → Chip
wrote_from c first k [] = c
wrote_from c first k (b ∷ bytes) = wrote_from (wrote_register c (block_place first k) b) first (suc k) bytes

unfoldable pub wrote_by : Chip → Option Block → List ℕ → Written
wrote_by c None bytes = record { chip = c; ack = false }
wrote_by c (Some block) bytes = record { chip = wrote_from c block.first 0 bytes; ack = true }

unfoldable pub wrote_block : Chip → ℕ → ℕ → List ℕ → Written
wrote_block c address command bytes =
    wrote_by (transacted c address) (counted_block (length bytes) (block_for (transacted c address).pin.latch address command)) bytes
