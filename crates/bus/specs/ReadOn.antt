-- Byte reads of registers that follow each other: a block, and the dump. Assumes nothing.
use Rattle.std.specs.Prelude.{◌≡◌, List, [], ◌∷◌, ℕ, zero, suc}
use Rattle.std.proofs.Math.Path.{sym}
use Rattle.std.proofs.Common.{◌∙◌}
use Rattle.state.specs.declared.Chip.{Chip}
use Rattle.bus.specs.Read.{shown_register, shown_by_parts, given_register, kept_chip}

-- what n byte reads show, one after the other, the first of register a
unfoldable pub read_from : Chip → ℕ → ℕ → List ℕ
read_from c a zero = []
read_from c a (suc n) = given_register c a ∷ read_from (kept_chip c a) (suc a) n

-- a byte read changes nothing of the present bytes
pub kept_shows : (c : Chip) (a k : ℕ) → shown_register (kept_chip c a) k ≡ shown_register c k
kept_shows c a k = sym (shown_by_parts (kept_chip c a) k) ∙ shown_by_parts c k
