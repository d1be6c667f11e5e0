-- A bit of a register. Assumes nothing.
use Rattle.std.specs.Prelude.{Bool, ℕ, eqb}
use Rattle.std.specs.Int.Bits.{bit_and}

-- the bit stands in the byte
unfoldable pub is_set : ℕ → ℕ → Bool
is_set byte bit = eqb (bit_and byte bit) bit
