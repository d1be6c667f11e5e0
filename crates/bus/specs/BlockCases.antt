-- Worked cases of block reads and block writes, from document 02, Q-1, computed on the definitions. Assumes nothing.
use Rattle.std.specs.Prelude.{◌≡◌, refl, true, false, List, [], ◌∷◌, ℕ, replicate, set, Some, None}
use Rattle.laws.specs.Tab.{tab}
use Rattle.map.specs.Tables.{defaults, writables, lock_marks, homes}
use Rattle.map.specs.Map.{writable_of, lock_marked, home_of}
use Rattle.map.specs.Bits.{is_set}
use Rattle.map.specs.Kind.{kind_of}
use Rattle.map.specs.Slave.{slave_address}
use Rattle.map.specs.Blocks.{fixed, block_firsts, block_counts, block_of}
use Rattle.masks.specs.Masks.{state_by, sleep_state, is_masked, zone_masking, zone_masked}
use Rattle.temperature.specs.Temperature.{byte_of, whole_of, whole_byte, degrees_of, reading_of}
use Rattle.state.specs.declared.Chip.{Chip}
use Rattle.state.specs.Parts.{register_at, zone_at, zone_enabled}
use Rattle.state.specs.With.{with_register, with_zone}
use Rattle.state.specs.PowerOn.{default_setup, power_on}
use Rattle.state.specs.Made.{fresh, of_registers}
use Rattle.sense.specs.Errors.{with_bit, marked}
use Rattle.sense.specs.ZoneLimits.{zone_number, low_temp, high_temp, temps_watched, zone_watched, is_beyond, marked_zone, compared_zone, zone_file}
use Rattle.sense.specs.Events.{read_zone}
use Rattle.bus.specs.Latch.{latch_by, latch_after, transacted_pin, is_ours, transacted}
use Rattle.bus.specs.Write.{stored_byte, stored, cleared_byte, cleared, zone_writable, change_whole, change_kind, is_shut, change_home, change_of, changed, wrote_register}
use Rattle.bus.specs.Read.{shown_kind, shown_home, shown_register}
use Rattle.bus.specs.Block.{block_place, block_for, block_bytes, read_block, counted_block, wrote_from, wrote_by, wrote_block}

-- at power-on: F4h has the zones' missing marks and the filtered temperatures of 54h and 55h, FCh begins at D0h; F1h and FEh are not listed,
-- and a block for another address has none, but latches ours
pub block_reads : ((read_block fresh 0x2C 0xF4).block ≡ fixed 0x50 6) × (block_bytes fresh 0x50 6 ≡ 0x80 ∷ 0x80 ∷ 0x80 ∷ 0x80 ∷ 0x00 ∷ 0x00 ∷ []) × ((read_block fresh 0x2C 0xFC).block ≡ fixed 0xD0 16) × ((read_block fresh 0x2C 0xF1).block ≡ None) × ((read_block fresh 0x2C 0xFE).block ≡ None) × ((read_block fresh 0x2F 0xF4).block ≡ None) × ((read_block fresh 0x2F 0xF4).chip.pin.latch ≡ Some 0x2C)
unfolding read_block block_for block_of block_firsts block_counts block_bytes block_place tab transacted transacted_pin latch_after latch_by is_ours slave_address shown_register shown_home shown_kind whole_byte register_at zone_at kind_of home_of homes power_on default_setup defaults
block_reads = (refl, refl, refl, refl, refl, refl, refl)

-- F2h takes 8 bytes and no other count, and none for another address; each latches ours
pub block_acks : ((wrote_block fresh 0x2C 0xF2 (replicate 8 0x00)).ack ≡ true) × ((wrote_block fresh 0x2C 0xF2 []).ack ≡ false) × ((wrote_block fresh 0x2C 0xF2 (replicate 7 0x00)).ack ≡ false) × ((wrote_block fresh 0x2C 0xF2 (replicate 9 0x00)).ack ≡ false) × ((wrote_block fresh 0x2F 0xF2 (replicate 8 0x00)).ack ≡ false) × ((wrote_block fresh 0x2C 0xF2 []).chip.pin.latch ≡ Some 0x2C) × ((wrote_block fresh 0x2F 0xF2 []).chip.pin.latch ≡ Some 0x2C)
unfolding wrote_block wrote_by counted_block block_for block_of block_counts transacted transacted_pin latch_after latch_by is_ours slave_address power_on default_setup
block_acks = (refl, refl, refl, refl, refl, refl, refl)

-- the chip whose registers all hold FFh, so that LOCK, INT_WR_E and EXT_AD15 are set; after a block write, what a block shows
abbrev full : Chip
full = of_registers (replicate 256 0xFF)

unfoldable pub written : ℕ → List ℕ → ℕ → ℕ → List ℕ
written command bytes first count = block_bytes (wrote_block full 0x2C command bytes).chip first count

-- F2h clears the error bits written as 1 that can be cleared, bits 6 and 7 of 40h and 4 to 7 of 47h not, and leaves 48h; FCh is lock-
-- marked; FDh keeps the bits that are not writable
pub block_writes : (written 0xF2 (0xC1 ∷ 0x02 ∷ 0x03 ∷ 0x04 ∷ 0x05 ∷ 0x06 ∷ 0x07 ∷ 0xF8 ∷ []) 0x40 9 ≡ 0xFE ∷ 0xFD ∷ 0xFC ∷ 0xFB ∷ 0xFA ∷ 0xF9 ∷ 0xF8 ∷ 0xF7 ∷ 0xFF ∷ []) × (written 0xFC (replicate 16 0x00) 0xD0 16 ≡ replicate 16 0xFF) × (written 0xFD (replicate 9 0x00) 0xE5 9 ≡ 0x00 ∷ 0xF0 ∷ 0x00 ∷ 0xF0 ∷ 0xF0 ∷ 0x00 ∷ 0xF0 ∷ 0x00 ∷ 0xC0 ∷ [])
unfolding written wrote_block wrote_by wrote_from counted_block block_for block_of block_firsts block_counts block_bytes block_place tab transacted transacted_pin latch_after latch_by is_ours slave_address wrote_register changed change_of change_home change_kind is_shut stored stored_byte cleared cleared_byte change_whole zone_writable reading_of degrees_of with_register with_zone read_zone shown_register shown_home shown_kind whole_byte whole_of byte_of register_at zone_at is_set writable_of writables lock_marked lock_marks kind_of home_of homes power_on default_setup
block_writes = (refl, refl, refl)

-- F4h sets zone 3 where INT_WR_E is set, and zone 4 where EXT_AD15 is clear, and no other; 02, Q-12: each is compared, with limits of 2Fh and
-- 40h for zone 3, and 2Fh and 3Fh for zone 4
unfoldable pub zones_written : ℕ → Chip
zones_written source =
    (wrote_block (of_registers (set (set (set (set (set defaults 0x31 source) 0x7C 0x2F) 0x7D 0x40) 0x7E 0x2F) 0x7F 0x3F)) 0x2C 0xF4 (0x10 ∷ 0x20 ∷ 0x30 ∷ 0x40 ∷ 0x50 ∷ 0x60 ∷ [])).chip

pub block_zones : (block_bytes (zones_written 0x12) 0x50 6 ≡ 0x80 ∷ 0x80 ∷ 0x30 ∷ 0x80 ∷ 0x00 ∷ 0x00 ∷ []) × (block_bytes (zones_written 0x10) 0x50 6 ≡ 0x80 ∷ 0x80 ∷ 0x30 ∷ 0x40 ∷ 0x00 ∷ 0x00 ∷ []) × (register_at (zones_written 0x10) 0x40 ≡ 0x08) × (register_at (zones_written 0x10) 0x48 ≡ 0x08)
unfolding zones_written wrote_block wrote_by wrote_from counted_block block_for block_of block_firsts block_counts block_bytes block_place tab transacted transacted_pin latch_after latch_by is_ours slave_address wrote_register changed change_of change_home change_kind is_shut stored stored_byte change_whole zone_writable reading_of degrees_of with_register with_zone read_zone zone_file compared_zone zone_watched temps_watched zone_enabled low_temp high_temp zone_number is_beyond marked_zone marked with_bit zone_masked zone_masking is_masked sleep_state state_by shown_register shown_home shown_kind whole_byte whole_of byte_of register_at zone_at is_set writable_of writables lock_marked lock_marks kind_of home_of homes power_on default_setup defaults
block_zones = (refl, refl, refl, refl)
