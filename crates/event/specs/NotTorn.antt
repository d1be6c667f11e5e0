-- Document 02, Q-4, "Fan counts that are not torn": which events leave a kept byte, and that the two bytes of a count belong together. Fans
-- count from 0. Assumes nothing.
use Rattle.std.specs.Prelude.{◌≡◌, ℕ, ◌-◌, Some}
use Rattle.std.proofs.Common.{◌∙◌}
use mathlib.Core.List.{List, [], ◌∷◌}
use Rattle.map.specs.FanBytes.{low_place, high_place}
use Rattle.state.specs.declared.Chip.{Chip}
use Rattle.sense.specs.Missing.{missed}
use Rattle.temperature.specs.Temperature.{stated_reading}
use Rattle.sense.specs.Keeps.{hot_keeps, pin_keeps, reset_keeps, missed_keeps}
use Rattle.sense.proofs.Keeps.{temperature_keeps, voltage_keeps, fan_keeps}
use Rattle.bus.specs.Latch.{transacted}
use Rattle.bus.proofs.Blocks.{block_cases}
use Rattle.bus.specs.Changes.{register_keeps_kept}
use Rattle.bus.specs.Transactions.{transacted_keeps, read_block_keeps, write_cases}
use Rattle.drive.specs.TickOrder.{tick_keeps}
use Rattle.event.specs.declared.Event.{Event}
use Rattle.event.specs.declared.Event.TheVariants.{Temperature, Voltage, Fan, Hot, Pin, Tick, Reset, Write, Read, ReadBlock, WriteBlock}
use Rattle.event.specs.declared.Answer.TheVariants.{Byte}
use Rattle.event.specs.Event.{quiet_step, tick_answer, written_answer, seen_block_answer, written_block_answer, taken_step}
use Rattle.event.specs.Run.{Given, given_step}

-- ---- which events leave the kept bytes

-- an event is a byte read, or leaves the kept bytes where it is taken
pub data ReadOrNot : Event → Type 0 where
  read : (address a : ℕ) → ReadOrNot (Read address a)
  other : {e : Event} → ((c : Chip) (bytes : List ℕ) → (taken_step c e bytes).chip.kept ≡ c.kept) → ReadOrNot e

-- "X leaves it", "Block reads .. neither keep nor drop one": T, V, F, H, A, K, X, W, G and P leave all four
pub read_or_not : (e : Event) → ReadOrNot e
unfolding taken_step quiet_step tick_answer written_answer seen_block_answer written_block_answer
read_or_not (Temperature zone s) = other (λ c bytes. (temperature_keeps c (zone - 1) (stated_reading s)).kept)
read_or_not (Voltage channel n) = other (λ c bytes. (voltage_keeps c (channel - 1) n).kept)
read_or_not (Fan fan n) = other (λ c bytes. (fan_keeps c (fan - 1) n).kept)
read_or_not (Hot input level) = other (λ c bytes. (hot_keeps c (input - 1) _).kept)
read_or_not (Pin level) = other (λ c bytes. (pin_keeps c _).kept)
read_or_not Tick = other (λ c bytes. (tick_keeps (missed c)).kept ∙ (missed_keeps c).kept)
read_or_not Reset = other (λ c bytes. (reset_keeps c).kept)
read_or_not (Write address a byte) =
    other (λ c bytes. let k = (transacted_keeps c address).kept in
    write_cases c address (λ (d : Chip). d.kept ≡ c.kept) a byte k (register_keeps_kept (transacted c address) a byte ∙ k))
read_or_not (Read address a) = read address a
read_or_not (ReadBlock address command) = other (λ c bytes. (read_block_keeps c address command).kept)
read_or_not (WriteBlock address command) =
    other (λ c bytes. block_cases c address command bytes (λ (d : Chip). d.kept ≡ c.kept) (transacted_keeps c address).kept (λ d a byte k. register_keeps_kept d a byte ∙ k))

-- an R of either byte of a fan's count that is acknowledged
pub data ReadsFan (fan : ℕ) (c : Chip) (g : Given) : Type 0 where
  low : (address byte : ℕ) → g.event ≡ Read address (low_place fan) → (given_step c g).answer ≡ Byte (Some byte) → ReadsFan fan c g
  high : (address byte : ℕ) → g.event ≡ Read address (high_place fan) → (given_step c g).answer ≡ Byte (Some byte) → ReadsFan fan c g

-- ---- the two bytes

-- none of the events, from a chip on, is an acknowledged R of either byte
pub data NoneReads (fan : ℕ) : Chip → List Given → Type 0 where
  none : {c : Chip} → NoneReads fan c []
  more : {c : Chip} {g : Given} {gs : List Given} → (ReadsFan fan c g → ⊥) → NoneReads fan (given_step c g).chip gs → NoneReads fan c (g ∷ gs)
