-- What each event leaves of a chip is no hotter than what it leaves of one that is no cooler. Every definition tests registers, pin and the
-- event's own numbers, and no register that has an error bit of a zone, so both chips go the same way. A zone's reading is tested by its
-- limits alone, and nothing but the zones' error bits follows from that. Assumes nothing.
use Rattle.std.specs.Prelude.{◌≡◌, Bool, List, ℕ, ltb, length, Option, Some, None}
use Rattle.std.proofs.Math.Path.{ap}
use Rattle.std.proofs.Common.{arith}
use Rattle.laws.specs.Pointwise.{pick_related}
use Rattle.map.specs.declared.Kind.{Kind}
use Rattle.map.specs.declared.Kind.TheVariants.{Plain, Status, Whole, Half, Volt, FanLow, FanHigh, VoltLow, VoltHigh, FanLimitLow, FanLimitHigh}
use Rattle.map.specs.declared.Block.{Block}
use Rattle.map.specs.Names.{TEMPERATURE_SOURCE_SELECT, CONFIGURATION}
use Rattle.map.specs.Map.{writable_of, home_of}
use Rattle.map.specs.Kind.{kind_of}
use Rattle.temperature.specs.declared.Reading.{Reading}
use Rattle.temperature.specs.Order.{NoHotter, no_hotter_refl, half_mono}
use Rattle.state.specs.declared.Chip.{Chip}
use Rattle.state.specs.declared.Drive.{Drive}
use Rattle.state.specs.Parts.{register_at, zone_at, in_error}
use Rattle.state.specs.With.{with_register, with_zone, with_volt, with_in_error, with_fan, with_hot_input}
use Rattle.state.specs.Order.{DriveNoHigher, SameButZones}
use Rattle.sense.specs.Missing.{missed}
use Rattle.sense.specs.Events.{read_zone, zone_heard, took_temperature, feeds_three, feeds_four, fed_zone, read_volt, took_voltage, took_fan, took_hot, took_pin, took_reset}
use Rattle.sense.specs.ButZones.{but_set, but_reset}
use Rattle.sense.proofs.ButZones.{but_erring, but_erred, but_compared, but_zone_file, but_missed_file}
use Rattle.bus.specs.declared.Change.{Change}
use Rattle.bus.specs.Latch.{is_ours, transacted}
use Rattle.bus.specs.Write.{stored_byte, stored, cleared_byte, cleared, zone_writable, change_whole, change_half, change_kind, is_shut, change_home, change_of, changed, wrote_register, Written, wrote_byte}
use Rattle.bus.specs.Read.{kept_chip, Seen, read_byte, kept_by_parts}
use Rattle.bus.specs.Block.{block_for, read_block, counted_block, wrote_by, wrote_block}
use Rattle.bus.specs.Blocks.{both_keep}
use Rattle.theorems.specs.Beside.{ZonesCooler, zones_set, Under, same_but, beside, under_beside}

-- ---- c, beside a chip d that differs from it in zones, their error bits and drive

module _ (c : Chip) {file : List ℕ} {zs : List Reading} {x : Drive} (b : SameButZones c.registers file) (z : ZonesCooler c.zones zs) (n : DriveNoHigher c.drive x) where
  abbrev d : Chip
  d = beside c file zs x

  -- c itself
  pub itself : Under c d
  itself = same_but b z n

  -- 31h and E3h are the same
  source_same : register_at c TEMPERATURE_SOURCE_SELECT ≡ register_at d TEMPERATURE_SOURCE_SELECT
  unfolding register_at
  source_same = b.each TEMPERATURE_SOURCE_SELECT (λ e. omega arith) (λ e. omega arith)

  configuration_same : register_at c CONFIGURATION ≡ register_at d CONFIGURATION
  unfolding register_at
  configuration_same = b.each CONFIGURATION (λ e. omega arith) (λ e. omega arith)

  -- one zone gets a reading, in d no cooler
  zone_under : (i : ℕ) {r s : Reading} → NoHotter r s → Under (read_zone c i r) (read_zone d i s)
  unfolding read_zone with_zone
  zone_under i p = same_but (but_zone_file b i _ _) (zones_set z i p) n

  -- T and U, the one event that may differ: 31h, which can shut zone 3 to it, is the same
  pub temperature_under : (zone : ℕ) {r s : Reading} → NoHotter r s → Under (took_temperature c zone r) (took_temperature d zone s)
  unfolding took_temperature
  temperature_under zone p =
      rw (← source_same) (pick_related Under (zone_heard (register_at c TEMPERATURE_SOURCE_SELECT) zone) (zone_under zone p) itself)

  -- V, the zone that a channel feeds: the same reading
  fed_under : (channel : ℕ) (count : Option ℕ) → Under (fed_zone c channel count) (fed_zone d channel count)
  unfolding fed_zone
  fed_under channel count =
      rw (← source_same)
      (pick_related Under (feeds_three (register_at c TEMPERATURE_SOURCE_SELECT) channel) (zone_under 4 (no_hotter_refl _))
      (pick_related Under (feeds_four (register_at c TEMPERATURE_SOURCE_SELECT) channel) (zone_under 5 (no_hotter_refl _)) itself))

  -- F
  pub fan_under : (fan : ℕ) (count : Option ℕ) → Under (took_fan c fan count) (took_fan d fan count)
  unfolding took_fan with_fan
  fan_under fan count = pick_related Under (ltb fan 4) (same_but (but_compared b fan count) z n) itself

  -- H
  pub hot_under : (input : ℕ) (hot : Bool) → Under (took_hot c input hot) (took_hot d input hot)
  unfolding took_hot with_hot_input
  hot_under input hot = same_but b z n

  -- A
  pub pin_under : (level : ℕ) → Under (took_pin c level) (took_pin d level)
  unfolding took_pin
  pin_under level = same_but b z n

  -- X
  pub reset_under : Under (took_reset c) (took_reset d)
  unfolding took_reset
  reset_under = same_but (but_reset b) z n

  -- K, the missing marks
  pub missed_under : Under (missed c) (missed d)
  unfolding missed
  missed_under = same_but (but_missed_file b c.zones zs c.volts c.fans) z n

  -- any transaction, the latch
  transacted_under : (address : ℕ) → Under (transacted c address) (transacted d address)
  unfolding transacted
  transacted_under address = same_but b z n

  -- R, the kept bytes: the fan counts and those kept before are the same
  kept_under : (a : ℕ) → Under (kept_chip c a) (kept_chip d a)
  kept_under a = rw (kept_by_parts c d a) (same_but b z n)

  -- W, what it changes of two chips
  abbrev Alters : Change → Change → Type 0
  Alters v w = Under (changed c v) (changed d w)

  -- a byte is stored or cleared in both, in 40h and 48h maybe another
  byte_under : (a : ℕ) (new : ℕ → ℕ) → Under (with_register c a (new (register_at c a))) (with_register d a (new (register_at d a)))
  unfolding with_register register_at
  byte_under a new = same_but (but_set b a _ _ (λ p q. ap new (b.each a p q))) z n

  -- by the register's kind: a whole byte gives both zones the same reading, a half bit keeps their order
  kind_under : (a byte : ℕ) (kind : Kind) → Alters (change_kind c a byte kind) (change_kind d a byte kind)
  unfolding changed change_kind stored cleared change_whole change_half zone_at
  kind_under a byte Plain = byte_under a (λ old. stored_byte old (writable_of a) byte)
  kind_under a byte Status = byte_under a (λ old. cleared_byte old (writable_of a) byte)
  kind_under a byte (Whole zone) =
      rw (← source_same) (pick_related Alters (zone_writable (register_at c TEMPERATURE_SOURCE_SELECT) zone) (zone_under zone (no_hotter_refl _)) itself)
  kind_under a byte (Half zone) =
      rw (← source_same) (pick_related Alters (zone_writable (register_at c TEMPERATURE_SOURCE_SELECT) zone) (zone_under zone (half_mono _ (z.each zone))) itself)
  kind_under a byte (Volt i) = itself
  kind_under a byte (FanLow i) = itself
  kind_under a byte (FanHigh i) = itself
  kind_under a byte (VoltLow i) = byte_under a (λ old. stored_byte old (writable_of a) byte)
  kind_under a byte (VoltHigh i) = byte_under a (λ old. stored_byte old (writable_of a) byte)
  kind_under a byte (FanLimitLow i) = byte_under a (λ old. stored_byte old (writable_of a) byte)
  kind_under a byte (FanLimitHigh i) = byte_under a (λ old. stored_byte old (writable_of a) byte)

  -- W, the register: LOCK shuts it for both or for neither
  register_under : (a byte : ℕ) → Under (wrote_register c a byte) (wrote_register d a byte)
  unfolding wrote_register changed change_of change_home
  register_under a byte =
      rw (← configuration_same) (pick_related Alters (is_shut (register_at c CONFIGURATION) (home_of a)) itself (kind_under (home_of a) byte (kind_of (home_of a))))

module _ (c : Chip) {file : List ℕ} {zs : List Reading} {x : Drive} (b : SameButZones c.registers file) (z : ZonesCooler c.zones zs) (n : DriveNoHigher c.drive x) where
  -- V
  pub voltage_under : (channel : ℕ) (count : Option ℕ) → Under (took_voltage c channel count) (took_voltage (beside c file zs x) channel count)
  unfolding took_voltage read_volt with_volt with_in_error in_error
  voltage_under channel count =
      rw (← but_erring b channel (in_error c channel) count)
      (pick_related Under (ltb channel 16)
      (fed_under (read_volt c channel count) (but_erred b channel (in_error c channel) count) z n channel count)
      (itself c b z n))

  -- W
  pub write_under : (address a byte : ℕ) → Under (wrote_byte c address a byte).chip (wrote_byte (beside c file zs x) address a byte).chip
  unfolding wrote_byte transacted
  write_under address a byte =
      pick_related (λ (v w : Written). Under v.chip w.chip) (is_ours (transacted c address).pin.latch address)
      (register_under (transacted c address) b z n a byte)
      (transacted_under c b z n address)

  -- R
  pub read_under : (address a : ℕ) → Under (read_byte c address a).chip (read_byte (beside c file zs x) address a).chip
  unfolding read_byte transacted
  read_under address a =
      pick_related (λ (v w : Seen). Under v.chip w.chip) (is_ours (transacted c address).pin.latch address)
      (kept_under (transacted c address) b z n a)
      (transacted_under c b z n address)

  -- G
  pub read_block_under : (address command : ℕ) → Under (read_block c address command).chip (read_block (beside c file zs x) address command).chip
  unfolding read_block
  read_block_under address command = transacted_under c b z n address

  -- P: both latches are the same, so both chips get the same bytes, one after the other, or neither gets any
  pub write_block_under : (address command : ℕ) (bytes : List ℕ) → Under (wrote_block c address command bytes).chip (wrote_block (beside c file zs x) address command bytes).chip
  unfolding wrote_block wrote_by transacted
  write_block_under address command bytes =
      go (counted_block (length bytes) (block_for (transacted c address).pin.latch address command))
    where
      go : (block : Option Block) → Under (wrote_by (transacted c address) block bytes).chip (wrote_by (transacted (beside c file zs x) address) block bytes).chip
      go None = transacted_under c b z n address
      go (Some block) =
          both_keep Under
          (λ e f a byte u. under_beside (λ (k : Chip). Under (wrote_register e a byte) (wrote_register k a byte)) (λ g ws y q w m. register_under e q w m a byte) u)
          _ _ block.first 0 bytes (transacted_under c b z n address)
