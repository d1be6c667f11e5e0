-- What a bus transaction changes and what it keeps, and so any list of them. Assumes nothing.
use Rattle.std.specs.Prelude.{◌≡◌, Bool, ℕ, Option, Some, None}
use Rattle.std.proofs.Math.Path.{refl, ap}
use Rattle.std.proofs.Common.{◌∙◌}
use Rattle.std.proofs.Math.Bool.{true, false}
use mathlib.Core.List.{List, [], ◌∷◌}
use Rattle.laws.specs.Pick.{pick}
use Rattle.state.specs.declared.Chip.{Chip}
use Rattle.state.specs.With.{with_pin}
use Rattle.bus.specs.Latch.{latch_by, latch_after, transacted_pin, is_ours, transacted}
use Rattle.bus.specs.Write.{wrote_register, Written, wrote_byte}
use Rattle.bus.specs.Read.{given_register, kept_chip, Seen, read_byte}
use Rattle.bus.specs.Block.{read_block, wrote_block}
use Rattle.bus.specs.Changes.{BusKeeps, bus_keeps_but, bus_keeps_self, bus_keeps_on, register_keeps, register_keeps_pin}

-- ---- one transaction

-- d is c but for its latch and its kept bytes
pub record ButLatchKept (c d : Chip) : Type 0 where
  pub keeps : BusKeeps c d
  pub registers : d.registers ≡ c.registers
  pub zones : d.zones ≡ c.zones

pub but_latch_kept_self : (c : Chip) → ButLatchKept c c
but_latch_kept_self c = record { keeps = bus_keeps_self c; registers = refl; zones = refl }

-- d is c but for its latch
pub record ButLatch (c d : Chip) : Type 0 where
  pub rest : ButLatchKept c d
  pub kept : d.kept ≡ c.kept

module _ (c : Chip) (address : ℕ) where
  -- a transaction as such changes nothing but the latch
  pub transacted_keeps : ButLatch c (transacted c address)
  unfolding transacted transacted_pin
  transacted_keeps = record { rest = record { keeps = bus_keeps_but c _ _ _ _; registers = refl; zones = refl }; kept = refl }

  -- the chip after a read is as any transaction leaves it, or that with other kept bytes
  pub read_cases : (P : Chip → Type 0) (a : ℕ) → P (transacted c address) → P (kept_chip (transacted c address) a) → P (read_byte c address a).chip
  unfolding read_byte
  read_cases P a p q = go (is_ours (transacted c address).pin.latch address)
    where
      go : (t : Bool) → P (pick {A = Seen} t (record { chip = kept_chip (transacted c address) a; shown = Some (given_register (transacted c address) a) }) (record { chip = transacted c address; shown = None })).chip
      go true = q
      go false = p

  -- so a read changes nothing but the latch and the kept bytes
  pub read_keeps : (a : ℕ) → ButLatchKept c (read_byte c address a).chip
  read_keeps a = read_cases (ButLatchKept c) a transacted_keeps.rest (kept_rest transacted_keeps.rest)
    where
      kept_rest : ButLatchKept c (transacted c address) → ButLatchKept c (kept_chip (transacted c address) a)
      kept_rest k = record { keeps = bus_keeps_on k.keeps (bus_keeps_but (transacted c address) _ _ _ _); registers = k.registers; zones = k.zones }

  -- and a block read nothing but the latch
  pub read_block_keeps : (command : ℕ) → ButLatch c (read_block c address command).chip
  unfolding read_block
  read_block_keeps command = transacted_keeps

  module _ (other : is_ours (transacted c address).pin.latch address ≡ false) (a : ℕ) where
    -- a read for another address shows nothing, and leaves the chip as any transaction does
    pub other_read : read_byte c address a ≡ record { chip = transacted c address; shown = None }
    unfolding read_byte
    other_read = rw other

    -- a write for another address is not acknowledged, and leaves the chip as any transaction does
    pub other_write : (byte : ℕ) → wrote_byte c address a byte ≡ record { chip = transacted c address; ack = false }
    unfolding wrote_byte
    other_write byte = rw other

  -- the chip after a write is as any transaction leaves it, or that with one register written
  pub write_cases : (P : Chip → Type 0) (a byte : ℕ) → P (transacted c address) → P (wrote_register (transacted c address) a byte) → P (wrote_byte c address a byte).chip
  unfolding wrote_byte
  write_cases P a byte p q = go (is_ours (transacted c address).pin.latch address)
    where
      go : (t : Bool) → P (pick {A = Written} t (record { chip = wrote_register (transacted c address) a byte; ack = true }) (record { chip = transacted c address; ack = false })).chip
      go true = q
      go false = p

  -- a write keeps the setup, the voltages, whether they are in error, the fan counts, the hot inputs, the pin's level and the drive
  pub write_keeps : (a byte : ℕ) → BusKeeps c (wrote_byte c address a byte).chip
  write_keeps a byte =
      write_cases (BusKeeps c) a byte transacted_keeps.rest.keeps (bus_keeps_on transacted_keeps.rest.keeps (register_keeps (transacted c address) a byte))

  -- ---- the latch

  module _ {ours : ℕ} (held : c.pin.latch ≡ Some ours) where
    latch_stays : latch_after c.pin address ≡ c.pin.latch
    unfolding latch_after latch_by
    latch_stays = rw held

    -- once an address is latched, a transaction as such changes nothing
    pub held_same : transacted c address ≡ c
    unfolding transacted transacted_pin
    held_same = ap (λ (l : Option ℕ). with_pin c (record { level = c.pin.level; latch = l })) latch_stays

    -- a latched address stays
    pub held_stays : (transacted c address).pin.latch ≡ Some ours
    held_stays = ap (λ (d : Chip). d.pin.latch) held_same ∙ held

    -- so it does after a write
    pub held_stays_write : (a byte : ℕ) → (wrote_byte c address a byte).chip.pin.latch ≡ Some ours
    held_stays_write a byte =
        write_cases (λ (d : Chip). d.pin.latch ≡ Some ours) a byte held_stays (rw (register_keeps_pin (transacted c address) a byte) held_stays)

-- ---- any list of them

-- a byte write, a byte read, a block write or a block read
pub data Transaction : Type 0 where
  write : (address register byte : ℕ) → Transaction
  read : (address register : ℕ) → Transaction
  write_block_lem : (address command : ℕ) (bytes : List ℕ) → Transaction
  read_block_lem : (address command : ℕ) → Transaction

-- the chip after one, and after all in order
unfoldable pub after : Chip → Transaction → Chip
after c (write address a byte) = (wrote_byte c address a byte).chip
after c (read address a) = (read_byte c address a).chip
after c (write_block_lem address command bytes) = (wrote_block c address command bytes).chip
after c (read_block_lem address command) = (read_block c address command).chip

unfoldable pub after_all : Chip → List Transaction → Chip
after_all c [] = c
after_all c (t ∷ ts) = after_all (after c t) ts
