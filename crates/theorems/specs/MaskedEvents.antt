-- What events leave of the error bits of a sensor that is masked: none of them is new. Assumes nothing.
use Rattle.std.specs.Prelude.{◌≡◌, Bool, not, List, ℕ, ◌+◌, ◌^◌, ◌≤◌, ◌<◌, ltb, get_or, Option, Some, None}
use Rattle.std.proofs.Math.Path.{refl}
use Rattle.std.proofs.Common.{sym, ap, subst, ◌∙◌, arith, ltb→lt, get_or-set_other}
use Rattle.std.proofs.Math.Bool.{true, false}
use borrow.Author.Tests.{ltb-true, leb-true, lt-leb, le-ltb}
use Rattle.std.proofs.Math.Dec.{T, leb, leb→le}
use Rattle.std.specs.Float.Ieee.Bits.{is_true}
use Rattle.std.proofs.Math.ListN.{length}
use Rattle.laws.specs.Binary.{part_digit}
use Rattle.laws.specs.Never.{never}
use Rattle.laws.specs.Pick.{pick, either}
use Rattle.laws.specs.Pointwise.{pick_each}
use Rattle.laws.specs.Store.{set_cases}
use Rattle.laws.specs.Table.{entry}
use Rattle.map.specs.declared.Kind.{Kind}
use Rattle.map.specs.declared.Kind.TheVariants as kind
use Rattle.map.specs.declared.Block.{Block}
use Rattle.map.specs.Names.{TEMPERATURE_SOURCE_SELECT, CONFIGURATION, SLEEP_STATE_CONTROL}
use Rattle.map.specs.Tables.{homes}
use Rattle.map.specs.Map.{writable_of, home_of}
use Rattle.map.specs.Bits.{is_set}
use Rattle.map.specs.Kind.{kind_of}
use Rattle.map.specs.Blocks.{fixed, block_firsts, block_counts, block_of, block_test, block_within}
use Rattle.temperature.specs.declared.Reading.{Reading}
use Rattle.state.specs.declared.Chip.{Chip}
use Rattle.state.specs.Parts.{register_at, in_error}
use Rattle.state.specs.With.{with_register, with_zone, with_volt, with_in_error, with_fan}
use Rattle.sense.specs.Events.{read_zone, zone_heard, took_temperature, volt_reading, fed_zone, fed_each, read_volt, took_voltage, took_fan, took_reset}
use Rattle.sense.proofs.Marks.{erred_volt_marks}
use Rattle.sense.specs.Keeps.{reset_other}
use Rattle.sense.specs.MaskedBits.{NoNew, none_same, none_then}
use Rattle.bus.specs.declared.Change.{Change}
use Rattle.bus.specs.Latch.{transacted}
use Rattle.bus.specs.Write.{stored, cleared_byte, cleared, zone_writable, change_whole, change_half, change_kind, is_shut, change_home, change_of, changed, wrote_register, wrote_byte}
use Rattle.bus.specs.Transactions.{write_cases}
use Rattle.bus.specs.Block.{wrote_block}
use Rattle.bus.proofs.Blocks.{block_keeps}
use Rattle.theorems.specs.ShownBytes.{status_kind}
use Rattle.theorems.specs.BlockPlaces.{write_leaves}
use Rattle.theorems.specs.Sensors.{Sensor, is_masked, error_place}
use Rattle.theorems.specs.BlockPlaces.{same_block}
use Rattle.theorems.specs.MaskedSensors.{HasBit, bit_status, masked_same, masked_marks, erred_none, compared_none, zone_file_none}

-- ---- readings and X

module _ (x : Sensor) {a : ℕ} (b : HasBit x a) (c : Chip) (m : is_masked x c.registers ≡ true) where
  -- the bit of x in register a is not new
  abbrev pub NoneAdded : Chip → Type 0
  NoneAdded d = NoNew a (error_place x) c.registers d.registers

  -- a zone gets a reading
  zone_read_none : (i : ℕ) (r : Reading) → NoneAdded (read_zone c i r)
  unfolding read_zone with_zone
  zone_read_none i r = zone_file_none x b c.registers m i r

  -- T and U
  pub temperature_none : (i : ℕ) (r : Reading) → NoneAdded (took_temperature c i r)
  unfolding took_temperature
  temperature_none i r =
      pick_each NoneAdded (zone_heard (register_at c TEMPERATURE_SOURCE_SELECT) i) (zone_read_none i r) (none_same refl)

  -- F
  pub fan_none : (i : ℕ) (n : Option ℕ) → NoneAdded (took_fan c i n)
  unfolding took_fan with_fan
  fan_none i n = pick_each NoneAdded (ltb i 4) (compared_none x b c.registers m i n) (none_same refl)

  -- X
  pub reset_none : NoneAdded (took_reset c)
  unfolding took_reset
  reset_none = none_same (reset_other c.registers a (λ e. omega (arith, (bit_status x b).high)) (λ e. omega (arith, (bit_status x b).high)))

module _ (x : Sensor) {a : ℕ} (b : HasBit x a) (c : Chip) (m : is_masked x c.registers ≡ true) where
  -- V: the zone that it feeds comes behind its own comparison
  pub voltage_none : (i : ℕ) (n : Option ℕ) → NoneAdded x b c m (took_voltage c i n)
  unfolding took_voltage read_volt with_volt with_in_error
  voltage_none i n = go (ltb i 16) refl
    where
      read_none : i < 16 → NoneAdded x b c m (fed_zone (read_volt c i n) i n)
      read_none l =
          let marks = erred_volt_marks c.registers i l (in_error c i) n in
          let still = masked_marks x marks m in
          let own = erred_none x b c.registers m i l (in_error c i) n in
          fed_each (NoneAdded x b c m) (read_volt c i n) i n
          (none_then own (zone_read_none x b (read_volt c i n) still 4 (volt_reading n)))
          (none_then own (zone_read_none x b (read_volt c i n) still 5 (volt_reading n)))
          own

      go : (there : Bool) → ltb i 16 ≡ there → NoneAdded x b c m (pick there (fed_zone (read_volt c i n) i n) c)
      go true e = read_none (ltb-true i 16 e)
      go false e = none_same refl

-- ---- byte writes

-- a register that shows a zone's reading
is_zone : Kind → Bool
is_zone kind.Plain = false
is_zone kind.Status = false
is_zone (kind.Whole i) = true
is_zone (kind.Half i) = true
is_zone (kind.Volt i) = false
is_zone (kind.FanLow i) = false
is_zone (kind.FanHigh i) = false
is_zone (kind.VoltLow i) = false
is_zone (kind.VoltHigh i) = false
is_zone (kind.FanLimitLow i) = false
is_zone (kind.FanLimitHigh i) = false

-- a written 1 clears, so what is left stood
cleared_stood : (old writable byte k : ℕ) → T (is_set (cleared_byte old writable byte) (2 ^ k)) → T (is_set old (2 ^ k))
unfolding is_set cleared_byte
cleared_stood old writable byte k t = subst T (sym (part_digit old _ k (is_true _ t))) tt

module _ (x : Sensor) {a : ℕ} (b : HasBit x a) (d : Chip) where
  abbrev From : Chip → Type 0
  From e = NoNew a (error_place x) d.registers e.registers

  -- a register that is no error status register gets a byte
  stored_none : (home byte : ℕ) → (kind_of home ≡ kind.Status → ⊥) → From (with_register d home byte)
  unfolding with_register
  stored_none home byte n = none_same (get_or-set_other d.registers home a byte 0 (λ e. n (ap kind_of (sym e) ∙ status_kind a (bit_status x b))))

  cleared_none : (home byte : ℕ) → From (with_register d home (cleared_byte (register_at d home) (writable_of home) byte))
  unfolding with_register register_at
  cleared_none home byte = record {
    stood = set_cases (λ (y : ℕ). T (is_set y (2 ^ error_place x)) → T (is_set (get_or d.registers a 0) (2 ^ error_place x))) d.registers home a _ 0 (λ t. t)
        (λ e. rw e (cleared_stood (get_or d.registers a 0) (writable_of a) byte (error_place x)));
  }

  module _ (home byte : ℕ) where
    kind_none : (k : Kind) → kind_of home ≡ k → (T (is_zone k) → (i : ℕ) (r : Reading) → From (read_zone d i r)) → From (changed d (change_kind d home byte k))
    unfolding changed change_kind stored cleared change_whole change_half is_zone
    kind_none kind.Plain e z = stored_none home _ (λ s. never (cc))
    kind_none kind.Status e z = cleared_none home byte
    kind_none (kind.Whole i) e z =
        pick_each (λ (w : Change). From (changed d w)) (zone_writable (register_at d TEMPERATURE_SOURCE_SELECT) i) (z tt i _) (none_same refl)
    kind_none (kind.Half i) e z =
        pick_each (λ (w : Change). From (changed d w)) (zone_writable (register_at d TEMPERATURE_SOURCE_SELECT) i) (z tt i _) (none_same refl)
    kind_none (kind.Volt i) e z = none_same refl
    kind_none (kind.FanLow i) e z = none_same refl
    kind_none (kind.FanHigh i) e z = none_same refl
    kind_none (kind.VoltLow i) e z = stored_none home _ (λ s. never (cc))
    kind_none (kind.VoltHigh i) e z = stored_none home _ (λ s. never (cc))
    kind_none (kind.FanLimitLow i) e z = stored_none home _ (λ s. never (cc))
    kind_none (kind.FanLimitHigh i) e z = stored_none home _ (λ s. never (cc))

  register_none : (place byte : ℕ) → (T (is_zone (kind_of (home_of place))) → (i : ℕ) (r : Reading) → From (read_zone d i r)) → From (wrote_register d place byte)
  unfolding wrote_register change_of change_home changed
  register_none place byte z =
      pick_each (λ (w : Change). From (changed d w)) (is_shut (register_at d CONFIGURATION) (home_of place)) (none_same refl) (kind_none (home_of place) byte (kind_of (home_of place)) refl z)

-- ---- blocks

-- of each block: it ends before E4h, so that it leaves the masks, or begins behind 53h, so that it has no zone
apart : (command : ℕ) {first count : ℕ} → block_of command ≡ fixed first count → T (either (leb (first + count) SLEEP_STATE_CONTROL) (leb 0x54 first))
unfolding block_firsts block_counts
apart command listed = block_test (λ first count. either (leb (first + count) SLEEP_STATE_CONTROL) (leb 0x54 first)) tt command listed

-- the home of an address before E4h is before it, and none behind 53h is a zone's
home_before : (k : ℕ) → k < SLEEP_STATE_CONTROL → home_of k < SLEEP_STATE_CONTROL
unfolding home_of homes
home_before k l =
    ltb→lt _ _ (rw (lt-leb SLEEP_STATE_CONTROL k l) at (entry (λ k home. either (leb SLEEP_STATE_CONTROL k) (ltb home SLEEP_STATE_CONTROL)) homes tt k (omega arith)))

no_zone_lem : (k : ℕ) → 0x54 ≤ k → k < 256 → T (not (is_zone (kind_of (home_of k))))
unfolding home_of homes kind_of is_zone
no_zone_lem k l h = rw (le-ltb k 0x54 l) at (entry (λ k home. either (ltb k 0x54) (not (is_zone (kind_of home)))) homes tt k h)

-- x is masked in d, and its bit in register a is not new
record Still (x : Sensor) (a : ℕ) (c d : Chip) : Type 0 where
  none : NoNew a (error_place x) c.registers d.registers
  masked : is_masked x d.registers ≡ true

module _ (x : Sensor) {a : ℕ} (b : HasBit x a) (c : Chip) (m : is_masked x c.registers ≡ true) where
  -- a byte before E4h
  byte_still : (d : Chip) (place byte : ℕ) → place < SLEEP_STATE_CONTROL → Still x a c d → Still x a c (wrote_register d place byte)
  unfolding register_at
  byte_still d place byte l s = record {
    none = none_then s.none (register_none x b d place byte (λ t i r. zone_read_none x b d s.masked i r));
    masked = masked_same x (record { each = λ k p q. write_leaves d place byte k (λ e. omega arith) (λ e. omega arith) (λ e. omega (arith, home_before place l)) }) s.masked;
  }

  -- a byte behind 53h
  byte_none : (d : Chip) (place byte : ℕ) → 0x54 ≤ place → place < 256 → NoneAdded x b c m d → NoneAdded x b c m (wrote_register d place byte)
  byte_none d place byte l h n = none_then n (register_none x b d place byte (λ t. absurd (not_both (is_zone (kind_of (home_of place))) t (no_zone_lem place l h))))
    where
      not_both : (z : Bool) → T z → T (not z) → ⊥
      not_both true t u = u
      not_both false t u = t

  -- W
  pub write_none : (address r byte : ℕ) → NoneAdded x b c m (wrote_byte c address r byte).chip
  unfolding transacted
  write_none address r byte =
      write_cases c address (NoneAdded x b c m) r byte (none_same refl) (register_none x b (transacted c address) r byte (λ t. zone_read_none x b (transacted c address) m))

  -- P
  pub block_none : (address command : ℕ) (bytes : List ℕ) → NoneAdded x b c m (wrote_block c address command bytes).chip
  unfolding transacted
  block_none address command bytes = go (block_of command) refl
    where
      by : (first count : ℕ) → block_of command ≡ fixed first count → (t : Bool) → leb (first + count) SLEEP_STATE_CONTROL ≡ t → T (either t (leb 0x54 first)) → NoneAdded x b c m (wrote_block c address command bytes).chip
      by first count listed true e u =
          (block_keeps c address command bytes (Still x a c) (λ place byte. place < SLEEP_STATE_CONTROL)
          (λ f ours l i h. let q = same_block (sym listed ∙ l) in omega (arith, q, leb-true (first + count) SLEEP_STATE_CONTROL e))
          (record { none = none_same refl; masked = m }) (λ d place byte. byte_still d place byte)).none
      by first count listed false e u =
          block_keeps c address command bytes (NoneAdded x b c m) (λ place byte. (0x54 ≤ place) × (place < 256))
          (λ f ours l i h. let q = same_block (sym listed ∙ l) in (omega (arith, q, leb→le 0x54 first u), omega (arith, q, (block_within command listed).ends)))
          (none_same refl) (λ d place byte q. byte_none d place byte q.0 q.1)

      go : (k : Option Block) → block_of command ≡ k → NoneAdded x b c m (wrote_block c address command bytes).chip
      go None e =
          block_keeps c address command bytes (NoneAdded x b c m) (λ place byte. ⊥) (λ f ours l i h. never (cc)) (none_same refl) (λ d place byte q. absurd q)
      go (Some block) e = by block.first block.count e (leb (block.first + block.count) SLEEP_STATE_CONTROL) refl (apart command e)
