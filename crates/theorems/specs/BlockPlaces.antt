-- No listed block has 31h or E3h in it, so no byte of a block write changes them. Assumes nothing.
use Rattle.std.specs.Prelude.{◌≡◌, refl, ◌≢◌, Bool, true, false, not, ℕ, ◌+◌, ◌<◌, T, leb, ltb, eqb, Option}
use Rattle.std.proofs.Common.{ap, sym, arith, leb-true, eq-eqb, ltb→lt, get_or-set_other}
use Rattle.std.proofs.Math.Dec.{eqb→eq}
use Rattle.laws.specs.Pick.{either}
use Rattle.laws.specs.Table.{passes, entry}
use Rattle.map.specs.Names.{TEMPERATURE_SOURCE_SELECT, B_ERROR_STATUS_1, H_ERROR_STATUS_1, CONFIGURATION}
use Rattle.map.specs.Tables.{homes}
use Rattle.map.specs.Map.{home_of}
use Rattle.map.specs.Blocks.{fixed, block_firsts, block_counts, block_of, passes_all, block_test, block_within}
use Rattle.state.specs.declared.Chip.{Chip}
use Rattle.state.specs.Parts.{register_at}
use Rattle.state.specs.With.{with_register, with_zone}
use Rattle.sense.specs.Events.{read_zone}
use Rattle.sense.proofs.ButZones.{zone_file_lem}
use Rattle.bus.specs.declared.Change.{Change}
use Rattle.bus.specs.Write.{stored, cleared, change_of, changed, wrote_register}
use Rattle.bus.specs.Changes.{Allowed, none, store, clear, zone}
use Rattle.bus.proofs.Changes.{change_allowed}
use Rattle.std.specs.Option.{option_map_or}
use Rattle.map.specs.declared.Block.{Block}

-- a block is one
pub same_block : {first count f n : ℕ} → fixed first count ≡ fixed f n → (f ≡ first) × (n ≡ count)
same_block e =
    (ap (λ (k : Option Block). option_map_or (λ (b : Block). b.first) k 0) (sym e), ap (λ (k : Option Block). option_map_or (λ (b : Block). b.count) k 0) (sym e))

-- ---- the places of the blocks

-- the block is below register a, or above it
abbrev apart : ℕ → ℕ → ℕ → Bool
apart a first count = either (leb (first + count) a) (ltb a first)

apart_place : (a first count k : ℕ) → T (apart a first count) → k < count → first + k ≡ a → ⊥
apart_place a first count k t h e = go (leb (first + count) a) refl t
  where
    go : (b : Bool) → leb (first + count) a ≡ b → T (either b (ltb a first)) → ⊥
    go true q u = omega (arith, leb-true (first + count) a q)
    go false q u = omega (arith, ltb→lt a first u)

-- a register without mirrors that all blocks are apart from is the home of none of their places
module _ (a : ℕ) (alone : T (passes (λ k home. either (not (eqb home a)) (eqb k a)) 0 homes)) (out : T (passes_all (apart a))) where
  no_mirror : (k : ℕ) → k < 256 → home_of k ≡ a → k ≡ a
  unfolding home_of homes
  no_mirror k h e = eqb→eq k a (rw (eq-eqb (home_of k) a e) at (entry (λ k home. either (not (eqb home a)) (eqb k a)) homes alone k h))

  no_place : (command : ℕ) {first count : ℕ} → block_of command ≡ fixed first count → (k : ℕ) → k < count → home_of (first + k) ≡ a → ⊥
  no_place command {first} {count} listed k h e =
      let w = block_within command listed in
      apart_place a first count k (block_test (apart a) out command listed) h (no_mirror (first + k) (omega arith) e)

-- a place that is neither 31h nor E3h
pub record Apart (place : ℕ) : Type 0 where
  pub source : home_of place ≡ TEMPERATURE_SOURCE_SELECT → ⊥
  pub lock : home_of place ≡ CONFIGURATION → ⊥

pub blocks_apart : (command : ℕ) {first count : ℕ} → block_of command ≡ fixed first count → (k : ℕ) → k < count → Apart (first + k)
unfolding homes block_firsts block_counts
blocks_apart command listed k h = record {
  source = no_place TEMPERATURE_SOURCE_SELECT tt tt command listed k h;
  lock = no_place CONFIGURATION tt tt command listed k h;
}

-- ---- a byte write leaves every register but its home, and but 40h and 48h, which have the zones' error bits

change_leaves : (c : Chip) {home byte : ℕ} {d : Change} → Allowed c home byte d → (a : ℕ) → a ≢ B_ERROR_STATUS_1 → a ≢ H_ERROR_STATUS_1 → (home ≡ a → ⊥) → register_at (changed c d) a ≡ register_at c a
unfolding changed register_at with_register read_zone with_zone stored cleared
change_leaves c none a p q n = refl
change_leaves c {home} (store f s) a p q n = get_or-set_other c.registers home a _ 0 (λ e. n (sym e))
change_leaves c {home} (clear f s) a p q n = get_or-set_other c.registers home a _ 0 (λ e. n (sym e))
change_leaves c (zone i r) a p q n = sym ((zone_file_lem c.registers i r).each a p q)

pub write_leaves : (c : Chip) (place byte a : ℕ) → a ≢ B_ERROR_STATUS_1 → a ≢ H_ERROR_STATUS_1 → (home_of place ≡ a → ⊥) → register_at (wrote_register c place byte) a ≡ register_at c a
unfolding wrote_register change_of
write_leaves c place byte a p q n = change_leaves c (change_allowed c (home_of place) byte) a p q n
