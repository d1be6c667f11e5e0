-- Document 01, "Bus answers": byte writes, by what one changes of the chip. Assumes nothing.
use Rattle.std.specs.Prelude.{◌≡◌, Bool, true, false, not, ℕ, ◌-◌, eqb}
use Rattle.std.proofs.Math.Path.{refl}
use Rattle.std.specs.Int.Bits.{bit_and, bit_or}
use Rattle.laws.specs.Pick.{pick, both}
use Rattle.map.specs.declared.Kind.{Kind}
use Rattle.map.specs.declared.Kind.TheVariants.{Plain, Status, Whole, Half, Volt, FanLow, FanHigh, VoltLow, VoltHigh, FanLimitLow, FanLimitHigh}
use Rattle.map.specs.Names.{TEMPERATURE_SOURCE_SELECT, CONFIGURATION, INT_WR_E, EXT_AD15, LOCK, HALF}
use Rattle.map.specs.Map.{writable_of, lock_marked, home_of}
use Rattle.map.specs.Bits.{is_set}
use Rattle.map.specs.Kind.{kind_of}
use Rattle.temperature.specs.Temperature.{reading_of, with_half}
use Rattle.state.specs.declared.Chip.{Chip}
use Rattle.state.specs.Parts.{register_at, zone_at}
use Rattle.state.specs.With.{with_pin, with_register}
use Rattle.state.specs.Made.{of_zones}
use Rattle.sense.specs.Events.{read_zone}
use Rattle.bus.specs.declared.Change.{Change}
use Rattle.bus.specs.declared.Change.TheVariants.{Nothing, Register, ZoneReading}
use Rattle.bus.specs.Latch.{transacted_pin, is_ours, transacted}

-- "changes only writable bits"
unfoldable pub stored_byte : ℕ → ℕ → ℕ → ℕ
stored_byte old writable byte = bit_or (bit_and old (255 - writable)) (bit_and byte writable)

unfoldable pub stored : Chip → ℕ → ℕ → Change
stored c a byte = Register a (stored_byte (register_at c a) (writable_of a) byte)

-- "Error status bits: a written 1 clears, a written 0 keeps."
unfoldable pub cleared_byte : ℕ → ℕ → ℕ → ℕ
cleared_byte old writable byte = bit_and old (255 - bit_and byte writable)

unfoldable pub cleared : Chip → ℕ → ℕ → Change
cleared c a byte = Register a (cleared_byte (register_at c a) (writable_of a) byte)

-- "Zone 3 is writable only while INT_WR_E is set, zone 4 only while EXT_AD15 is clear." "The other zones are read-only." Zones count from 0
-- in the order 1a, 1b, 2a, 2b, 3, 4; source is 31h
unfoldable pub zone_writable : ℕ → ℕ → Bool
zone_writable source zone = pick (eqb zone 4) (is_set source INT_WR_E) (pick (eqb zone 5) (not (is_set source EXT_AD15)) false)

-- "Writing a zone's whole-degree byte, at either address, sets its half bit to 0"; 02, Q-7: "A bus write of the whole byte sets the fraction
-- to 0"
unfoldable pub change_whole : Chip → ℕ → ℕ → Change
change_whole c zone byte =
    pick (zone_writable (register_at c TEMPERATURE_SOURCE_SELECT) zone) (ZoneReading zone (reading_of byte)) Nothing

-- "writing 20h or 22h changes only the half bit (bit 7), and not even that while the zone is missing"; 02, Q-7: "of the half bit the rest to 0"
unfoldable pub change_half : Chip → ℕ → ℕ → Change
change_half c zone byte =
    pick (zone_writable (register_at c TEMPERATURE_SOURCE_SELECT) zone) (ZoneReading zone (with_half (zone_at c zone) (is_set byte HALF))) Nothing

-- "A write to a read-only register changes nothing."
unfoldable pub change_kind : Chip → ℕ → ℕ → Kind → Change
change_kind c a byte Plain = stored c a byte
change_kind c a byte Status = cleared c a byte
change_kind c a byte (Whole zone) = change_whole c zone byte
change_kind c a byte (Half zone) = change_half c zone byte
change_kind c a byte (Volt i) = Nothing
change_kind c a byte (FanLow i) = Nothing
change_kind c a byte (FanHigh i) = Nothing
change_kind c a byte (VoltLow i) = stored c a byte
change_kind c a byte (VoltHigh i) = stored c a byte
change_kind c a byte (FanLimitLow i) = stored c a byte
change_kind c a byte (FanLimitHigh i) = stored c a byte

-- "A write to a lock-marked one while LOCK is set changes nothing. A bus write can set LOCK and cannot clear it": its own register, E3h, is
-- lock-marked
unfoldable pub is_shut : ℕ → ℕ → Bool
is_shut configuration a = both (lock_marked a) (is_set configuration LOCK)

unfoldable pub change_home : Chip → ℕ → ℕ → Change
change_home c a byte = pick (is_shut (register_at c CONFIGURATION) a) Nothing (change_kind c a byte (kind_of a))

-- a mirror is its home
unfoldable pub change_of : Chip → ℕ → ℕ → Change
change_of c a byte = change_home c (home_of a) byte

-- ---- the chip after a write

-- with the change made; 02, Q-12: a zone's reading is compared "at the event that sets the reading"
unfoldable pub changed : Chip → Change → Chip
changed c Nothing = c
changed c (Register a byte) = with_register c a byte
changed c (ZoneReading zone r) = read_zone c zone r

-- of a write to a register, at its own address or a mirror's
unfoldable pub wrote_register : Chip → ℕ → ℕ → Chip
wrote_register c a byte = changed c (change_of c a byte)

pub record Written : Type 0 where
  pub chip : Chip
  pub ack : Bool

-- "A transaction for another address is not acknowledged and changes nothing but that latch." "For our address, a byte write is always
-- acknowledged"
unfoldable pub wrote_byte : Chip → ℕ → ℕ → ℕ → Written
wrote_byte c address a byte =
    pick (is_ours (transacted c address).pin.latch address)
    (record { chip = wrote_register (transacted c address) a byte; ack = true })
    (record { chip = transacted c address; ack = false })

-- ---- the parts that a write looks at: the registers and the zones

module _ (c : Chip) where
  kind_by_parts : (a byte : ℕ) (k : Kind) → change_kind (of_zones c.registers c.zones) a byte k ≡ change_kind c a byte k
  unfolding change_kind stored cleared change_whole change_half register_at zone_at
  kind_by_parts a byte Plain = refl
  kind_by_parts a byte Status = refl
  kind_by_parts a byte (Whole i) = refl
  kind_by_parts a byte (Half i) = refl
  kind_by_parts a byte (Volt i) = refl
  kind_by_parts a byte (FanLow i) = refl
  kind_by_parts a byte (FanHigh i) = refl
  kind_by_parts a byte (VoltLow i) = refl
  kind_by_parts a byte (VoltHigh i) = refl
  kind_by_parts a byte (FanLimitLow i) = refl
  kind_by_parts a byte (FanLimitHigh i) = refl

  pub change_by_parts : (a byte : ℕ) → change_of (of_zones c.registers c.zones) a byte ≡ change_of c a byte
  unfolding change_of change_home register_at
  change_by_parts a byte = rw kind_by_parts

module _ (c : Chip) where
  -- W on the parts: the pin decides the acknowledgement, the registers and zones the change
  pub wrote_by_parts : (address a byte : ℕ) → wrote_byte c address a byte ≡ pick (is_ours (transacted_pin c.pin address).latch address) (record { chip = changed (with_pin c (transacted_pin c.pin address)) (change_of (of_zones c.registers c.zones) a byte); ack = true }) (record { chip = with_pin c (transacted_pin c.pin address); ack = false })
  unfolding wrote_byte transacted wrote_register
  wrote_by_parts address a byte = rw (← kept)
    where
      kept : change_of (of_zones c.registers c.zones) a byte ≡ change_of (with_pin c (transacted_pin c.pin address)) a byte
      kept = change_by_parts (with_pin c (transacted_pin c.pin address)) a byte
