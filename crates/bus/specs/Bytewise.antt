-- Document 02, Q-1: a block write "equals its byte writes in rising order". Assumes nothing.
use Rattle.std.specs.Prelude.{ℕ, suc}
use mathlib.Core.List.{List, [], ◌∷◌}
use Rattle.bus.specs.Transactions.{Transaction, write}

-- byte writes to one register after the other
unfoldable pub writes : ℕ → ℕ → List ℕ → List Transaction
writes address register [] = []
writes address register (b ∷ bytes) = write address register b ∷ writes address (suc register) bytes
