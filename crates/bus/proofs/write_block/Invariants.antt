-- `bus::write_block` meets its contract: what is written, and then the bytes that are left, is the whole block. Assumes nothing.
use mathlib.Core.Path.{◌≡◌}
use lib.ListN.{drop}
use Rattle.state.specs.Made.{of_zones}
use Rattle.bus.specs.Block.{wrote_from}
use Rattle.bus.proofs.write_block.Given as goal

abbrev pub invariant-loop-k : goal.invariant-loop-k
invariant-loop-k l =
    wrote_from (of_zones l.file l.left) l.first l.k (drop l.k l.bytes) ≡ wrote_from (of_zones l.initial.file l.initial.left) l.first 0 l.bytes
