-- What a block write keeps, and the parts of the chip that a block looks at. Assumes nothing.
use Rattle.std.specs.Prelude.{◌≡◌, List, [], ◌∷◌, ℕ, suc, ◌+◌, ◌≤◌, ◌<◌, length, drop, get_or}
use Rattle.std.proofs.Math.Path.{refl, ap}
use Rattle.std.proofs.Common.{sym, ◌∙◌, add-zero, add-suc, suc-add, arith}
use Rattle.std.proofs.Math.Numerals.{add-one}
use Rattle.laws.specs.Left.{left_some, left_none}
use Rattle.laws.specs.TabEach.{tab_same}
use Rattle.state.specs.declared.Chip.{Chip}
use Rattle.state.specs.With.{with_registers, with_zones, with_register, with_zone}
use Rattle.state.specs.Made.{fresh, of_zones, of_readings}
use Rattle.sense.specs.Events.{read_zone}
use Rattle.bus.specs.declared.Change.{Change}
use Rattle.bus.specs.declared.Change.TheVariants.{Nothing, Register, ZoneReading}
use Rattle.bus.specs.Write.{change_of, changed, wrote_register, change_by_parts}
use Rattle.bus.specs.Read.{shown_by_parts}
use Rattle.temperature.specs.declared.Reading.{Reading}
use Rattle.bus.specs.Block.{block_place, block_bytes, wrote_from}

-- ---- what each byte write keeps, all of them keep

-- of two chips that get the same bytes, where Q tells something of each byte and its register
pub each_keeps : (R : Chip → Chip → Type 0) (Q : ℕ → ℕ → Type 0) → ((c d : Chip) (a byte : ℕ) → Q a byte → R c d → R (wrote_register c a byte) (wrote_register d a byte)) → (c d : Chip) (first k : ℕ) (bytes : List ℕ) → ((i : ℕ) → i < length bytes → Q (block_place first (k + i)) (get_or bytes i 0)) → R c d → R (wrote_from c first k bytes) (wrote_from d first k bytes)
unfolding wrote_from
each_keeps R Q wrote c d first k [] told r = r
each_keeps R Q wrote c d first k (b ∷ bytes) told r =
    each_keeps R Q wrote (wrote_register c (block_place first k) b) (wrote_register d (block_place first k) b) first (suc k) bytes (λ i h. rw (suc-add, ← add-suc) (told (suc i) (omega arith))) (wrote c d (block_place first k) b (rw add-zero at (told 0 (omega arith))) r)

-- of two chips that get the same bytes
pub both_keep : (R : Chip → Chip → Type 0) → ((c d : Chip) (a byte : ℕ) → R c d → R (wrote_register c a byte) (wrote_register d a byte)) → (c d : Chip) (first k : ℕ) (bytes : List ℕ) → R c d → R (wrote_from c first k bytes) (wrote_from d first k bytes)
both_keep R wrote c d first k bytes =
    each_keeps R (λ a byte. Unit {0}) (λ c d a byte t. wrote c d a byte) c d first k bytes (λ i h. tt)

-- ---- the parts that a block looks at: of a read the registers and the readings, of a write the registers and the zones

pub block_bytes_by_parts : (c : Chip) (first n : ℕ) → block_bytes (of_readings c.registers c.zones c.volts c.fans) first n ≡ block_bytes c first n
unfolding block_bytes
block_bytes_by_parts c first n = tab_same _ _ n (λ k l. shown_by_parts c (block_place first k))

-- d with the registers and zones of c
abbrev like : Chip → Chip → Chip
like d c = with_zones (with_registers d c.registers) c.zones

module _ (d : Chip) where
  changed_like : (c : Chip) (x : Change) → changed (like d c) x ≡ like d (changed c x)
  unfolding changed with_register with_zone read_zone
  changed_like c Nothing = refl
  changed_like c (Register a byte) = refl
  changed_like c (ZoneReading i r) = refl

  wrote_like : (c : Chip) (a byte : ℕ) → wrote_register (like d c) a byte ≡ like d (wrote_register c a byte)
  unfolding wrote_register
  wrote_like c a byte =
      ap (changed (like d c)) (sym (change_by_parts (like d c) a byte) ∙ change_by_parts c a byte) ∙ changed_like c (change_of c a byte)

pub wrote_from_by_parts : (c : Chip) (first k : ℕ) (bytes : List ℕ) → wrote_from c first k bytes ≡ with_zones (with_registers c (wrote_from (of_zones c.registers c.zones) first k bytes).registers) (wrote_from (of_zones c.registers c.zones) first k bytes).zones
wrote_from_by_parts c first k bytes =
    both_keep (λ d e. d ≡ like c e) (λ d e a byte q. ap (λ (x : Chip). wrote_register x a byte) q ∙ wrote_like c e a byte) c (of_zones c.registers c.zones) first k bytes refl

-- ---- as a loop writes the bytes, into registers and zones: one more byte; none left

module _ (file : List ℕ) (zones : List Reading) (first k : ℕ) (bytes : List ℕ) where
  pub wrote_more : {place : ℕ} {next : List ℕ} {left : List Reading} → k < length bytes → place ≡ block_place first k → left ≡ (wrote_register (of_zones file zones) place (get_or bytes k 0)).zones → next ≡ (wrote_register (of_zones file zones) place (get_or bytes k 0)).registers → wrote_from (of_zones next left) first (k + 1) (drop (k + 1) bytes) ≡ wrote_from (of_zones file zones) first k (drop k bytes)
  unfolding wrote_from
  wrote_more h p z r =
      rw (left_some bytes k h, add-one, z, r, p, ← wrote_like fresh (of_zones file zones) (block_place first k) (get_or bytes k 0))

  pub wrote_done : length bytes ≤ k → wrote_from (of_zones file zones) first k (drop k bytes) ≡ of_zones file zones
  unfolding wrote_from
  wrote_done h = rw (left_none bytes k h)
