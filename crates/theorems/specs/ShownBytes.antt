-- Registers that show the byte that the register file holds, at present and to byte reads. Assumes nothing.
use Rattle.std.specs.Prelude.{◌≡◌, not, ℕ, T, leb, eqb}
use Rattle.std.proofs.Common.{◌∙◌, arith, le-leb, eqb→eq}
use Rattle.laws.specs.Pick.{both, either}
use Rattle.laws.specs.Table.{entry}
use Rattle.map.specs.declared.Kind.TheVariants as kind
use Rattle.map.specs.Names.{B_ERROR_STATUS_1, H_FAN_ERROR_STATUS}
use Rattle.map.specs.Tables.{homes}
use Rattle.map.specs.Map.{home_of}
use Rattle.map.specs.Bits.{is_set}
use Rattle.map.specs.Kind.{kind_of, kind_on_lem}
use Rattle.state.specs.declared.Chip.{Chip}
use Rattle.state.specs.Parts.{register_at}
use Rattle.sense.specs.Marks.{Status}
use Rattle.bus.specs.Read.{shown_kind, shown_home, shown_register, given_register}
use Rattle.bus.specs.KeptBytes.{read_present}

-- a register shows a byte, to byte reads as in the dump and in blocks
abbrev pub Shows : Chip → ℕ → ℕ → Type 0
Shows c a byte = (given_register c a ≡ byte) × (shown_register c a ≡ byte)

-- and a bit
abbrev pub ShowsBit : Chip → ℕ → ℕ → Type 0
ShowsBit c a bit = T (is_set (given_register c a) bit) × T (is_set (shown_register c a) bit)

-- a register that is its own home shows by its own kind
pub own_shown : (c : Chip) (a : ℕ) → home_of a ≡ a → shown_register c a ≡ shown_kind c a (kind_of a)
unfolding shown_register shown_home
own_shown c a e = rw e

-- an error status register is its own home
status_home : (a : ℕ) → Status a → home_of a ≡ a
unfolding home_of homes
status_home a s =
    eqb→eq (home_of a) a
    (rw (le-leb B_ERROR_STATUS_1 a s.low, le-leb a H_FAN_ERROR_STATUS s.high) at (entry (λ k home. either (not (both (leb B_ERROR_STATUS_1 k) (leb k H_FAN_ERROR_STATUS))) (eqb home k)) homes tt a (omega arith)))

-- and of the kind of 40h to 4Fh, which are rung 7
pub status_kind : (a : ℕ) → Status a → kind_of a ≡ kind.Status
status_kind a s = kind_on_lem 7 a (omega arith, omega arith)

-- it shows its byte
pub status_shown : (c : Chip) (a : ℕ) → Status a → shown_register c a ≡ register_at c a
unfolding shown_kind
status_shown c a s = rw (own_shown c a (status_home a s), status_kind a s)

-- and is read so
pub status_read : (c : Chip) (a : ℕ) → Status a → given_register c a ≡ register_at c a
status_read c a s = read_present c a (λ fan l e. omega arith) ∙ status_shown c a s
