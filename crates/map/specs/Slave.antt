-- The slave address. Assumes nothing.
use Rattle.std.specs.Prelude.{ℕ, eqb}
use Rattle.laws.specs.Pick.{pick}

-- "Pin level 0, 1, 2 (low, middle, high) means slave address 2Ch, 2Eh, 2Dh." No other level can come in; it would count as high.
unfoldable pub slave_address : ℕ → ℕ
slave_address level = pick (eqb level 0) 0x2C (pick (eqb level 1) 0x2E 0x2D)
