-- A fan that was never read shows no count, to byte reads as in the dump and in blocks, whatever its kept byte. Fans count from 0.
-- Assumes nothing.
use Rattle.std.specs.Prelude.{ℕ}
use Rattle.map.specs.FanBytes.{low_place, high_place}
use Rattle.state.specs.declared.Chip.{Chip}
use Rattle.theorems.specs.ShownBytes.{Shows}

-- ---- what it shows

-- "Missing shows .. 3FFFh for a fan", in its two bytes
pub record ShowsNoCount (i : ℕ) (c : Chip) : Type 0 where
  pub low : Shows c (low_place i) 0xFC
  pub high : Shows c (high_place i) 0xFF
