-- The zones as document 01 speaks of them: which a table follows, when it is missing, and what gives one a reading. In `zone_at` zones count
-- from 0 in the order 1a, 1b, 2a, 2b, 3, 4; tables count from 0. Assumes nothing.
use Rattle.std.specs.Prelude.{◌≡◌, not, List, ℕ, suc, ◌+◌, ◌<◌, T, eqb, ℤ, length, get_or, Option}
use Rattle.laws.specs.Pick.{pick}
use Rattle.map.specs.declared.Kind.TheVariants.{Whole}
use Rattle.map.specs.Names.{TEMPERATURE_SOURCE_SELECT, FAN_CONTROL_BINDINGS, CONFIGURATION, Z1BE, Z2BE, LUT1_Z1, LUT2_Z2, LUT3_Z1, LUT4_Z2}
use Rattle.map.specs.Map.{home_of}
use Rattle.map.specs.Bits.{is_set}
use Rattle.map.specs.Kind.{kind_of}
use Rattle.map.specs.Blocks.{fixed, block_of}
use Rattle.temperature.specs.declared.Reading.{Reading}
use Rattle.temperature.specs.declared.Reading.TheVariants.{Taken, Missing}
use Rattle.temperature.specs.declared.Stated.{Stated}
use Rattle.temperature.specs.Temperature.{stated_reading, reading_of}
use Rattle.state.specs.declared.Chip.{Chip}
use Rattle.state.specs.Parts.{register_at, zone_at}
use Rattle.sense.specs.Events.{zone_heard, volt_reading, feeds_three, feeds_four}
use Rattle.bus.specs.Latch.{is_ours, transacted}
use Rattle.bus.specs.Write.{zone_writable, is_shut}
use Rattle.event.specs.declared.Event.{Event}
use Rattle.event.specs.declared.Event.TheVariants.{Temperature, Voltage, Write, WriteBlock}

-- 31h and 35h of a chip
abbrev pub source_of : Chip → ℕ
source_of c = register_at c TEMPERATURE_SOURCE_SELECT

abbrev pub bindings_of : Chip → ℕ
bindings_of c = register_at c FAN_CONTROL_BINDINGS

-- and E3h, with LOCK
abbrev pub lock_of : Chip → ℕ
lock_of c = register_at c CONFIGURATION

-- "Table 1 and 3 follow zone 1 if their 35h bit (4, 6) is set, else zone 3; table 2 and 4 follow zone 2 (bits 5, 7), else zone 4."
unfoldable pub zone_of : Chip → ℕ → ℕ
zone_of c table =
    pick (eqb table 0) (pick (is_set (bindings_of c) LUT1_Z1) 1 3)
    (pick (eqb table 1) (pick (is_set (bindings_of c) LUT2_Z2) 2 4)
    (pick (eqb table 2) (pick (is_set (bindings_of c) LUT3_Z1) 1 3)
    (pick (is_set (bindings_of c) LUT4_Z2) 2 4)))

-- zone 1, 2, 3 or 4 is missing: "Zone 1 is 1a, or the hotter of 1a and 1b while Z1bE is set, a missing one being the hotter; zone 2
-- likewise."
pub data ZoneMissing (c : Chip) : ℕ → Type 0 where
  in_1a : zone_at c 0 ≡ Missing → ZoneMissing c 1
  in_1b : T (is_set (source_of c) Z1BE) → zone_at c 1 ≡ Missing → ZoneMissing c 1
  in_2a : zone_at c 2 ≡ Missing → ZoneMissing c 2
  in_2b : T (is_set (source_of c) Z2BE) → zone_at c 3 ≡ Missing → ZoneMissing c 2
  in_3 : zone_at c 4 ≡ Missing → ZoneMissing c 3
  in_4 : zone_at c 5 ≡ Missing → ZoneMissing c 4

-- a channel feeds a zone: channel 11 zone 3, "with INT_AD11 set and INT_WR_E clear", channel 15 zone 4, "if EXT_AD15 is set"
pub data Feeds (source channel : ℕ) : ℕ → Type 0 where
  three : T (feeds_three source channel) → Feeds source channel 4
  four : T (feeds_four source channel) → Feeds source channel 5

-- a byte that is written at an address reaches zone z, by what 31h and E3h hold: the address is that of its whole byte or of a mirror, LOCK
-- does not shut it, and the zone is writable
pub record Reaches (source lock z a : ℕ) : Type 0 where
  pub whole : kind_of (home_of a) ≡ Whole z
  pub unshut : T (not (is_shut lock (home_of a)))
  pub writable : T (zone_writable source z)

-- an event, with the bytes beside it, gives zone z a reading, taken or missing: a T or U that is heard, a V that feeds it, a whole byte that is
-- written and takes effect, or a block write, for our address and with the listed count, one of whose bytes is such a byte. No block has 31h
-- or E3h in it, so every byte finds there what the block found
pub data Gives (c : Chip) (z : ℕ) : Event → List ℕ → Reading → Type 0 where
  heard : {s : Stated} {bytes : List ℕ} → T (zone_heard (source_of c) z) → Gives c z (Temperature (suc z) s) bytes (stated_reading s)
  fed : {channel : ℕ} {n : Option ℕ} {bytes : List ℕ} → Feeds (source_of c) channel z → Gives c z (Voltage (suc channel) n) bytes (volt_reading n)
  written : {address a byte : ℕ} {bytes : List ℕ} → T (is_ours (transacted c address).pin.latch address) → Reaches (source_of c) (lock_of c) z a
      → Gives c z (Write address a byte) bytes (reading_of byte)
  in_block : {address command first k : ℕ} {bytes : List ℕ} → T (is_ours (transacted c address).pin.latch address) → block_of command ≡ fixed first (length bytes)
      → k < length bytes → Reaches (source_of c) (lock_of c) z (first + k) → Gives c z (WriteBlock address command) bytes (reading_of (get_or bytes k 0))

-- one that is taken: of a T or U that is not `-`, a V above 0, a byte other than 80h
pub record GivesZone (c : Chip) (z : ℕ) (e : Event) (bytes : List ℕ) : Type 0 where
  pub count : ℤ
  pub gives : Gives c z e bytes (Taken count)
