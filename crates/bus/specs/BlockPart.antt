-- A listed block is a part of the dump. Assumes nothing.
use Rattle.std.specs.Prelude.{◌≡◌, ℕ}
use Rattle.std.proofs.Math.ListN.{length}
use Rattle.laws.specs.Tab.{tab_long}
use Rattle.laws.specs.TabEach.{tab_same}
use Rattle.state.specs.declared.Chip.{Chip}
use Rattle.bus.specs.Latch.{transacted}
use Rattle.bus.specs.Read.{transacted_shows}
use Rattle.bus.specs.Dump.{shown_all}
use Rattle.bus.specs.Block.{block_bytes}

-- a block has as many bytes as its count says
pub block_long : (c : Chip) (first count : ℕ) → length (block_bytes c first count) ≡ count
unfolding block_bytes
block_long c first count = tab_long _ count

-- a transaction as such changes nothing of the dump; so a block read shows the part of the dump, of the chip that it finds and of the one
-- that it leaves
module _ (c : Chip) (address : ℕ) where
  pub transacted_shown : shown_all (transacted c address) ≡ shown_all c
  unfolding shown_all
  transacted_shown = tab_same _ _ 256 (λ k l. transacted_shows c address k)
