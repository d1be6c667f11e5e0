-- An error bit that stands. Assumes nothing.
use Rattle.std.specs.Prelude.{◌≡◌, List, ℕ, ◌+◌, ◌^◌, ◌<◌, length, get_or}
use Rattle.std.proofs.Common.{ap, ◌∙◌}
use Rattle.std.proofs.Math.Dec.{T}
use Rattle.laws.specs.Store.{set_cases}
use Rattle.map.specs.declared.Kind.TheVariants.{Status}
use Rattle.map.specs.Map.{writable_of, home_of}
use Rattle.map.specs.Bits.{is_set}
use Rattle.map.specs.Kind.{kind_of}
use Rattle.map.specs.Blocks.{fixed, block_of}
use Rattle.state.specs.declared.Chip.{Chip}
use Rattle.state.specs.Parts.{register_at}
use Rattle.state.specs.With.{with_register, with_zone}
use Rattle.sense.specs.Events.{read_zone}
use Rattle.sense.proofs.Marks.{zone_file_marks}
use Rattle.bus.specs.declared.Change.{Change}
use Rattle.bus.specs.Write.{stored, cleared, change_of, changed, wrote_register}
use Rattle.bus.specs.Latch.{transacted}
use Rattle.bus.specs.Block.{wrote_block}
use Rattle.bus.proofs.Blocks.{block_keeps}
use Rattle.bus.specs.Changes.{Allowed, none, store, clear, zone}
use Rattle.bus.proofs.Changes.{change_allowed}
use Rattle.bus.specs.Stands.{cleared_keeps}

module _ (c : Chip) (a byte k : ℕ) (b : byte < 256) (h : k < 8) (status : kind_of a ≡ Status) (stands : T (is_set (register_at c a) (2 ^ k))) where
  change_stands : {home : ℕ} {d : Change} → Allowed c home byte d → (home ≡ a → T (is_set byte (2 ^ k)) → ⊥) → T (is_set (register_at (changed c d) a) (2 ^ k))
  unfolding changed register_at with_register with_zone read_zone stored cleared
  change_stands none unless = stands
  change_stands {home} (store f s) unless =
      set_cases (λ (x : ℕ). T (is_set x (2 ^ k))) c.registers home a _ 0 stands (λ e. absurd (s (ap kind_of e ∙ status)))
  change_stands {home} (clear f s) unless =
      set_cases (λ (x : ℕ). T (is_set x (2 ^ k))) c.registers home a _ 0 stands (λ e. cleared_keeps _ (writable_of home) byte k b h (rw e stands) (unless e))
  change_stands (zone i r) unless = (zone_file_marks c.registers i r).stays a (2 ^ k) stands

  -- an error bit that stands stays, unless a 1 is written to it, at its own address or a mirror's
  pub error_stays : (address : ℕ) → (home_of address ≡ a → T (is_set byte (2 ^ k)) → ⊥) → T (is_set (register_at (wrote_register c address byte) a) (2 ^ k))
  unfolding wrote_register change_of
  error_stays address unless = change_stands (change_allowed c (home_of address) byte) unless

module _ (c : Chip) (a k : ℕ) (h : k < 8) (status : kind_of a ≡ Status) (stands : T (is_set (register_at c a) (2 ^ k))) where
  -- so it does through a block write, unless a byte of the block goes there and has that 1
  pub error_stays_block : (address command : ℕ) (bytes : List ℕ) → ((i : ℕ) → i < length bytes → get_or bytes i 0 < 256) → ((first : ℕ) → block_of command ≡ fixed first (length bytes) → (i : ℕ) → i < length bytes → home_of (first + i) ≡ a → T (is_set (get_or bytes i 0) (2 ^ k)) → ⊥) → T (is_set (register_at (wrote_block c address command bytes).chip a) (2 ^ k))
  unfolding transacted register_at
  error_stays_block address command bytes b unless =
      block_keeps c address command bytes (λ (d : Chip). T (is_set (register_at d a) (2 ^ k))) (λ (place byte : ℕ). (byte < 256) × (home_of place ≡ a → T (is_set byte (2 ^ k)) → ⊥)) (λ first ours listed i l. (b i l, unless first listed i l)) stands (λ d place byte q s. error_stays d a byte k q.0 h status s place q.1)
