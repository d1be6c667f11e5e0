-- `bus::show_block` meets its contract: the bytes are filled from the front with what the block's registers show. Assumes nothing.
use mathlib.Core.Path.{◌≡◌}
use mathlib.Core.List.{◌++◌}
use lib.ListN.{drop}
use Rattle.bus.specs.Read.{of_parts}
use Rattle.bus.specs.Block.{block_bytes}
use Rattle.bus.proofs.show_block.Given as goal

abbrev pub invariant-loop-k : goal.invariant-loop-k
invariant-loop-k l =
    l.bytes ≡ block_bytes (of_parts l.readings) l.first l.k ++ drop l.k l.initial.bytes
