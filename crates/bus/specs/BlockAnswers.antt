-- Which block transactions are acknowledged. Assumes nothing.
use Rattle.std.specs.Prelude.{◌≡◌, Bool, List, ℕ, eqb, length, Option, Some, None}
use Rattle.std.proofs.Math.Path.{refl}
use Rattle.std.proofs.Math.Bool.{true, false}
use borrow.Author.Tests.{eqb-true, eq-eqb, ne_eqb}
use Rattle.laws.specs.Pick.{pick}
use Rattle.laws.specs.Never.{never}
use Rattle.map.specs.declared.Block.{Block}
use Rattle.map.specs.Blocks.{fixed, block_of}
use Rattle.state.specs.declared.Chip.{Chip}
use Rattle.bus.specs.Latch.{is_ours, transacted}
use Rattle.bus.specs.Block.{block_for, read_block, counted_block, wrote_from, wrote_by, wrote_block}

-- a transaction's block is a listed one, and the address is ours
pub for_listed : (latch : Option ℕ) (address command : ℕ) {first count : ℕ} → block_for latch address command ≡ fixed first count → (is_ours latch address ≡ true) × (block_of command ≡ fixed first count)
unfolding block_for
for_listed latch address command {first} {count} = go (is_ours latch address)
  where
    go : (t : Bool) → pick t (block_of command) None ≡ fixed first count → (t ≡ true) × (block_of command ≡ fixed first count)
    go true e = (refl, e)
    go false e = absurd (never (cc))

-- one that is written has as many bytes as come
pub counted_is : (n : ℕ) (b : Option Block) {first count : ℕ} → counted_block n b ≡ fixed first count → (n ≡ count) × (b ≡ fixed first count)
unfolding counted_block
counted_is n None e = absurd (never (cc))
counted_is n (Some b) {first} {count} e = go (eqb n b.count) refl e
  where
    go : (t : Bool) → eqb n b.count ≡ t → pick t (Some b) None ≡ fixed first count → (n ≡ count) × (Some b ≡ fixed first count)
    go true q e = let p : n ≡ b.count = eqb-true n b.count q in (cc, e)
    go false q e = absurd (never (cc))

module _ (c : Chip) (address command : ℕ) where
  -- ---- not acknowledged, so that nothing changes but the latch

  module _ (none : block_for (transacted c address).pin.latch address command ≡ None) where
    no_block_read : read_block c address command ≡ record { chip = transacted c address; block = None }
    unfolding read_block
    no_block_read = rw none

    no_block_write : (bytes : List ℕ) → wrote_block c address command bytes ≡ record { chip = transacted c address; ack = false }
    unfolding wrote_block wrote_by counted_block
    no_block_write bytes = rw none

  -- a block for another address
  module _ (other : is_ours (transacted c address).pin.latch address ≡ false) where
    other_block : block_for (transacted c address).pin.latch address command ≡ None
    unfolding block_for
    other_block = rw other

    pub other_block_read : read_block c address command ≡ record { chip = transacted c address; block = None }
    other_block_read = no_block_read other_block

    pub other_block_write : (bytes : List ℕ) → wrote_block c address command bytes ≡ record { chip = transacted c address; ack = false }
    other_block_write = no_block_write other_block

  -- a command that is not listed
  module _ (unlisted : block_of command ≡ None) where
    unlisted_block : block_for (transacted c address).pin.latch address command ≡ None
    unfolding block_for
    unlisted_block = rw unlisted (go (is_ours (transacted c address).pin.latch address))
      where
        go : (t : Bool) → pick {A = Option Block} t None None ≡ None
        go true = refl
        go false = refl

    pub unlisted_block_read : read_block c address command ≡ record { chip = transacted c address; block = None }
    unlisted_block_read = no_block_read unlisted_block

    pub unlisted_block_write : (bytes : List ℕ) → wrote_block c address command bytes ≡ record { chip = transacted c address; ack = false }
    unlisted_block_write = no_block_write unlisted_block

  module _ {first count : ℕ} (listed : block_of command ≡ fixed first count) where
    -- a write with another count
    pub miscounted_block_write : (bytes : List ℕ) → (length bytes ≡ count → ⊥) → wrote_block c address command bytes ≡ record { chip = transacted c address; ack = false }
    unfolding wrote_block wrote_by counted_block block_for
    miscounted_block_write bytes n =
        rw listed (go (is_ours (transacted c address).pin.latch address))
      where
        go : (t : Bool) → wrote_by (transacted c address) (counted_block (length bytes) (pick t (fixed first count) None)) bytes ≡ record { chip = transacted c address; ack = false }
        go true = rw (ne_eqb _ _ n)
        go false = refl

    -- ---- acknowledged: listed, for our address, and a write with its count

    module _ (ours : is_ours (transacted c address).pin.latch address ≡ true) where
      pub listed_block_read : read_block c address command ≡ record { chip = transacted c address; block = fixed first count }
      unfolding read_block block_for
      listed_block_read = rw (ours, listed)

      pub listed_block_write : (bytes : List ℕ) → length bytes ≡ count → wrote_block c address command bytes ≡ record { chip = wrote_from (transacted c address) first 0 bytes; ack = true }
      unfolding wrote_block wrote_by counted_block block_for
      listed_block_write bytes n = rw (ours, listed, eq-eqb _ _ n)
