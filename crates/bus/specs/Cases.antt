-- Worked cases of the bus, from documents 01 and 02, computed on the definitions. Assumes nothing.
use Rattle.std.specs.Prelude.{◌≡◌, refl, ℕ, pos, negsuc, Some, None}
use Rattle.map.specs.Tables.{defaults, writables, lock_marks, homes}
use Rattle.map.specs.Map.{writable_of, lock_marked, home_of}
use Rattle.map.specs.Bits.{is_set}
use Rattle.map.specs.Kind.{kind_of}
use Rattle.map.specs.FanBytes.{byte_of_kind, fan_byte_at}
use Rattle.map.specs.Slave.{slave_address}
use Rattle.temperature.specs.declared.Reading.{Reading}
use Rattle.temperature.specs.declared.Reading.TheVariants as reading
use Rattle.temperature.specs.Temperature.{whole_byte, half_set, degrees_of, reading_of, with_half}
use Rattle.state.specs.declared.Chip.{Chip}
use Rattle.state.specs.Parts.{register_at, zone_at, volt_at, fan_at, kept_at}
use Rattle.state.specs.With.{with_pin, with_register, with_zone, with_volt, with_fan}
use Rattle.state.specs.PowerOn.{default_setup, power_on, at_rest}
use Rattle.state.specs.Made.{fresh}
use Rattle.sense.specs.Events.{read_zone}
use Rattle.bus.specs.Latch.{latch_by, latch_after, transacted_pin, is_ours, transacted}
use Rattle.bus.specs.Write.{stored_byte, stored, cleared_byte, cleared, zone_writable, change_whole, change_half, change_kind, is_shut, change_home, change_of, changed, wrote_register}
use Rattle.bus.specs.Read.{volt_byte, fan_word, low_byte, high_byte, half_byte, shown_kind, shown_home, shown_register, given_byte, given_at, given_register, kept_as, kept_after, kept_chip, read_byte}

-- the chip with the pin at a level
abbrev pub at_level : Chip → ℕ → Chip
at_level c level = with_pin c (record { level = level; latch = c.pin.latch })

-- "after R 2F 00 and A 1, R 2C 00 is still acknowledged"; without the first, A 1 makes 2Eh ours; an address of another family latches nothing
pub latch : ((read_byte (at_level (read_byte fresh 0x2F 0x00).chip 1) 0x2C 0x00).shown ≡ Some 0x00) × ((read_byte (at_level fresh 1) 0x2C 0x00).shown ≡ None) × ((read_byte (at_level fresh 1) 0x2E 0x3F).shown ≡ Some 0x79) × ((read_byte (at_level (read_byte fresh 0x50 0x00).chip 1) 0x2C 0x00).shown ≡ None) × ((read_byte (at_level fresh 2) 0x2D 0x3E).shown ≡ Some 0x01)
unfolding read_byte transacted transacted_pin latch_after latch_by is_ours slave_address given_register given_at fan_byte_at byte_of_kind shown_register shown_home shown_kind register_at kind_of home_of homes power_on at_rest default_setup defaults
latch = (refl, refl, refl, refl, refl)

-- at power-on every reading shows its missing mark: zones 80h with half bit 0, at either address, voltages 00h, fans FCh and FFh
pub marks : (shown_register fresh 0x50 ≡ 0x80) × (shown_register fresh 0x11 ≡ 0x80) × (shown_register fresh 0x10 ≡ 0x00) × (shown_register fresh 0x06 ≡ 0x80) × (shown_register fresh 0x23 ≡ 0x80) × (shown_register fresh 0x56 ≡ 0x00) × (shown_register fresh 0x6E ≡ 0xFC) × (shown_register fresh 0x75 ≡ 0xFF) × (shown_register fresh 0x54 ≡ 0x00) × (shown_register fresh 0xF2 ≡ 0x00)
unfolding shown_register shown_home shown_kind half_byte volt_byte fan_word low_byte high_byte whole_byte half_set register_at zone_at volt_at fan_at kind_of home_of homes power_on at_rest default_setup defaults
marks = (refl, refl, refl, refl, refl, refl, refl, refl, refl, refl)

-- a fan count of 1234h: 34h & 3Fh at the low byte's top is D0h, 1234h / 64 is 48h
pub fan_bytes : (shown_register (with_fan fresh 2 (Some 0x1234)) 0x72 ≡ 0xD0) × (shown_register (with_fan fresh 2 (Some 0x1234)) 0x73 ≡ 0x48) × (shown_register (with_volt fresh 15 (Some 0xC0)) 0x65 ≡ 0xC0)
unfolding shown_register shown_home shown_kind volt_byte fan_word low_byte high_byte with_fan with_volt volt_at fan_at kind_of home_of homes power_on at_rest default_setup defaults
fan_bytes = (refl, refl, refl)

-- 02, Q-4, on fan 3: 1234h, whose low byte is read, then 3000, which is 2Eh and E0h: the kept 48h once, then the present byte
unfoldable pub low_read : Chip
low_read = with_fan (kept_chip (with_fan fresh 2 (Some 0x1234)) 0x72) 2 (Some 3000)

pub fan_kept : (given_register low_read 0x73 ≡ 0x48) × (shown_register low_read 0x73 ≡ 0x2E) × (given_register low_read 0x72 ≡ 0xE0) × (given_register (kept_chip low_read 0x73) 0x73 ≡ 0x2E) × (given_register (kept_chip low_read 0x72) 0x73 ≡ 0x2E) × (given_register (kept_chip low_read 0x71) 0x73 ≡ 0x48) × (given_register (kept_chip low_read 0x70) 0x71 ≡ 0xFF) × (given_register (with_fan (kept_chip fresh 0x72) 2 (Some 0x1234)) 0x73 ≡ 0xFF) × (given_register (with_fan low_read 2 None) 0x73 ≡ 0x48)
unfolding low_read given_register given_at shown_register shown_home shown_kind kept_after kept_as given_byte fan_byte_at byte_of_kind fan_word low_byte high_byte with_fan fan_at kept_at kind_of home_of homes power_on at_rest default_setup defaults
fan_kept = (refl, refl, refl, refl, refl, refl, refl, refl, refl)

-- zone 3: not writable without INT_WR_E; with it, a written byte sets the fraction to 0, at 52h and at 21h; 20h sets the half bit and the rest
-- to 0, where the bit is another and where it is the same (269 is 16 degrees and 13 sixteenths, half set, and 259 is not); 80h makes it
-- missing, and then 20h changes nothing. Zone 4 is writable while EXT_AD15 is clear
unfoldable pub written : ℕ → ℕ → Chip → Chip
written a byte c = wrote_register c a byte

unfoldable pub zone_three : Reading → Chip
zone_three r = with_zone (with_register fresh 0x31 0x10) 4 r

pub zone_writes : (zone_at (written 0x52 0x20 fresh) 4 ≡ reading.Missing) × (zone_at (written 0x52 0x20 (zone_three (reading.Taken (pos 269)))) 4 ≡ reading.Taken (pos 512)) × (zone_at (written 0x21 0xFF (zone_three (reading.Taken (pos 269)))) 4 ≡ reading.Taken (negsuc 15)) × (zone_at (written 0x20 0xFF (zone_three (reading.Taken (negsuc 15)))) 4 ≡ reading.Taken (negsuc 7)) × (zone_at (written 0x20 0x80 (zone_three (reading.Taken (pos 269)))) 4 ≡ reading.Taken (pos 264)) × (zone_at (written 0x20 0x7F (zone_three (reading.Taken (pos 269)))) 4 ≡ reading.Taken (pos 256)) × (zone_at (written 0x20 0x7F (zone_three (reading.Taken (pos 259)))) 4 ≡ reading.Taken (pos 256)) × (zone_at (written 0x52 0x80 (zone_three (reading.Taken (pos 269)))) 4 ≡ reading.Missing) × (zone_at (written 0x20 0x80 (zone_three reading.Missing)) 4 ≡ reading.Missing) × (zone_at (written 0x53 0x81 fresh) 5 ≡ reading.Taken (negsuc 2031)) × (zone_at (written 0x53 0x81 (with_register fresh 0x31 0x02)) 5 ≡ reading.Missing) × (zone_at (written 0x50 0x20 fresh) 0 ≡ reading.Missing)
unfolding written zone_three wrote_register changed change_of change_home change_kind is_shut change_whole change_half zone_writable with_register with_zone read_zone zone_at register_at reading_of degrees_of with_half is_set lock_marked lock_marks kind_of home_of homes power_on at_rest default_setup defaults
zone_writes = (refl, refl, refl, refl, refl, refl, refl, refl, refl, refl, refl, refl)

-- only writable bits are stored; a written 1 clears an error bit and a 0 keeps it; LOCK can be set, cannot be cleared and keeps marked registers
pub plain_writes : (register_at (written 0x33 0xFF fresh) 0x33 ≡ 0xF8) × (register_at (written 0x3F 0x00 fresh) 0x3F ≡ 0x79) × (register_at (written 0x41 0x05 (with_register fresh 0x41 0x07)) 0x41 ≡ 0x02) × (register_at (written 0xE3 0x00 (written 0xE3 0x02 fresh)) 0xE3 ≡ 0x02) × (register_at (written 0xBF 0x11 (written 0xE3 0x02 fresh)) 0xBF ≡ 0x00) × (register_at (written 0x90 0x11 (written 0xE3 0x02 fresh)) 0x90 ≡ 0x11) × (register_at (written 0x24 0xFF fresh) 0x24 ≡ 0x00)
unfolding written wrote_register changed change_of change_home change_kind is_shut stored stored_byte cleared cleared_byte with_register register_at is_set writable_of writables lock_marked lock_marks kind_of home_of homes power_on at_rest default_setup defaults
plain_writes = (refl, refl, refl, refl, refl, refl, refl)
