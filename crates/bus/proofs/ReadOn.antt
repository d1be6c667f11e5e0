-- Byte reads of registers that follow each other: a block, and the dump. Assumes nothing.
use Rattle.std.specs.Prelude.{◌≡◌, refl, Bool, true, false, not, List, ◌∷◌, ℕ, zero, suc, ◌+◌, ◌<◌, eqb, length}
use Rattle.std.proofs.Math.Path.{sym}
use Rattle.std.proofs.Common.{ap, ◌∙◌, add-zero, add-suc, suc-add, zero-add, arith, eq-eqb}
use Rattle.std.proofs.Math.Dec.{T}
use Rattle.std.specs.Float.Ieee.Bits.{is_true}
use Rattle.laws.specs.Every.{every, every_at}
use Rattle.laws.specs.Never.{never}
use Rattle.laws.specs.Tab.{tab}
use Rattle.laws.specs.TabEach.{tab_same}
use Rattle.map.specs.Blocks.{fixed, block_firsts, block_of, block_test}
use Rattle.map.specs.FanBytes.{low_place, high_place}
use Rattle.state.specs.declared.Chip.{Chip}
use Rattle.state.specs.Parts.{fan_at}
use Rattle.bus.specs.Read.{shown_register, given_byte, kept_chip}
use Rattle.bus.specs.Dump.{shown_all}
use Rattle.bus.specs.Block.{block_bytes}
use Rattle.bus.proofs.BlockPart.{place_within}
use Rattle.bus.specs.KeptBytes.{GivesPresent, read_same, shown_high, kept_low, kept_many}
use Rattle.bus.specs.ReadOn.{read_from, kept_shows}

-- a read of register a shows the present byte
Ready : Chip → ℕ → Type 0
Ready c a = (fan : ℕ) → fan < 4 → a ≡ high_place fan → GivesPresent c fan (shown_register c a)

-- and leaves the next so: the low byte comes before the high byte
ready_next : (c : Chip) (a : ℕ) → length c.kept ≡ 4 → Ready (kept_chip c a) (suc a)
unfolding Ready given_byte fan_at
ready_next c a many fan h e =
    let before : a ≡ low_place fan = omega arith in
    rw (e, before, kept_low c fan h many, shown_high (kept_chip c (low_place fan)) fan h)

reads_present : (n : ℕ) (c : Chip) (a : ℕ) → length c.kept ≡ 4 → Ready c a → read_from c a n ≡ tab (λ k. shown_register c (a + k)) n
unfolding read_from tab Ready
reads_present zero c a many r = refl
reads_present (suc n) c a many r =
    rw (reads_present n (kept_chip c a) (suc a) (kept_many c a ∙ many) (ready_next c a many), add-zero, read_same c a r) (ap (λ (l : List ℕ). shown_register c a ∷ l) (tab_same _ _ n (λ k l. kept_shows c a (suc a + k) ∙ rw (suc-add, ← add-suc))))

-- a register that is not the high byte of a fan
no_high : ℕ → Bool
no_high a = every 4 (λ fan. not (eqb a (high_place fan)))

no_high_lem : (a fan : ℕ) → T (no_high a) → fan < 4 → a ≡ high_place fan → ⊥
unfolding no_high
no_high_lem a fan t h e =
    let other : not (eqb a (high_place fan)) ≡ true = every_at _ 4 fan (is_true _ t) h in
    let same : true ≡ false = sym other ∙ ap not (eq-eqb a (high_place fan) e) in
    never (cc)

module _ (c : Chip) (many : length c.kept ≡ 4) where
  -- "A register dump writes the 256 bytes that byte reads of 00h to FFh would show, in order"
  pub dump_is_reads : shown_all c ≡ read_from c 0 256
  unfolding shown_all Ready
  dump_is_reads =
      sym (reads_present 256 c 0 many (λ fan l e. absurd (omega arith)) ∙ tab_same _ _ 256 (λ k l. rw zero-add))

  -- so does a listed block the bytes that byte reads of its registers show, in order: none begins with a high byte
  pub block_is_reads : (command : ℕ) {first count : ℕ} → block_of command ≡ fixed first count → block_bytes c first count ≡ read_from c first count
  unfolding block_bytes block_firsts no_high every Ready
  block_is_reads command {first} {count} listed =
      let no : T (no_high first) = block_test (λ first count. no_high first) tt command listed in
      sym (reads_present count c first many (λ fan l e. absurd (no_high_lem first fan no l e)) ∙ tab_same _ _ count (λ k l. rw (place_within command listed k l)))
