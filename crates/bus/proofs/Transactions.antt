-- What a bus transaction changes and what it keeps, and so any list of them. Assumes nothing.
use Rattle.std.specs.Prelude.{◌≡◌, ℕ, Some}
use mathlib.Core.List.{List, [], ◌∷◌}
use Rattle.state.specs.declared.Chip.{Chip}
use Rattle.bus.specs.Latch.{transacted}
use Rattle.bus.specs.Write.{wrote_register}
use Rattle.bus.specs.Read.{kept_chip}
use Rattle.bus.specs.Block.{read_block}
use Rattle.bus.proofs.Blocks.{block_cases}
use Rattle.bus.specs.Changes.{BusKeeps, bus_keeps_but, bus_keeps_self, bus_keeps_on, register_keeps, register_keeps_pin}
use Rattle.bus.specs.Transactions.{transacted_keeps, read_cases, write_cases, held_stays, Transaction, read, read_block_lem, write, write_block_lem, after, after_all}

-- what a write, a read and a transaction as such keep, any list of transactions keeps
module _ (P : Chip → Type 0)
    (step : (c : Chip) (address : ℕ) → P c → P (transacted c address))
    (read-on : (c : Chip) (a : ℕ) → P c → P (kept_chip c a))
    (wrote : (c : Chip) (a byte : ℕ) → P c → P (wrote_register c a byte)) where
  after_keeps : (c : Chip) (t : Transaction) → P c → P (after c t)
  unfolding after read_block
  after_keeps c (write address a byte) p =
      write_cases c address P a byte (step c address p) (wrote (transacted c address) a byte (step c address p))
  after_keeps c (read address a) p =
      read_cases c address P a (step c address p) (read-on (transacted c address) a (step c address p))
  after_keeps c (write_block_lem address command bytes) p = block_cases c address command bytes P (step c address p) wrote
  after_keeps c (read_block_lem address command) p = step c address p

  pub all_keep : (ts : List Transaction) (c : Chip) → P c → P (after_all c ts)
  unfolding after_all
  all_keep [] c p = p
  all_keep (t ∷ ts) c p = all_keep ts (after c t) (after_keeps c t p)

-- no list of transactions changes the setup, the voltages, whether they are in error, the fan counts, the hot inputs, the pin's level or
-- the drive
pub transactions_keep : (c : Chip) (ts : List Transaction) → BusKeeps c (after_all c ts)
transactions_keep c ts =
    all_keep (BusKeeps c) (λ d address k. bus_keeps_on k (transacted_keeps d address).rest.keeps) (λ d a k. bus_keeps_on k (bus_keeps_but d _ _ _ _)) (λ d a byte k. bus_keeps_on k (register_keeps d a byte)) ts c (bus_keeps_self c)

-- once latched, the address stays whatever comes
pub all_held : (c : Chip) (ours : ℕ) → c.pin.latch ≡ Some ours → (ts : List Transaction) → (after_all c ts).pin.latch ≡ Some ours
all_held c ours held ts =
    all_keep (λ (d : Chip). d.pin.latch ≡ Some ours) (λ d address h. held_stays d address h) (λ d a h. h) (λ d a byte h. rw (register_keeps_pin d a byte) h) ts c held
