-- Document 01, "The register map" and "Bus answers", and document 02, Q-4, "Fan counts that are not torn": what a register shows, and what a
-- byte read shows and keeps. Assumes nothing.
use Rattle.std.specs.Prelude.{◌≡◌, List, ℕ, ◌*◌, ◌/◌, ◌%◌, set, Option, Some, None}
use Rattle.std.proofs.Math.Path.{refl, sym, ap}
use Rattle.std.proofs.Common.{◌∙◌}
use Rattle.laws.specs.Pick.{pick}
use Rattle.map.specs.declared.Kind.{Kind}
use Rattle.map.specs.declared.Kind.TheVariants.{Plain, Status, Whole, Half, Volt, FanLow, FanHigh, VoltLow, VoltHigh, FanLimitLow, FanLimitHigh}
use Rattle.map.specs.Names.{HALF}
use Rattle.map.specs.Map.{home_of}
use Rattle.map.specs.Kind.{kind_of}
use Rattle.map.specs.FanBytes.{FanByte, neither, low, high, fan_byte_at}
use Rattle.temperature.specs.declared.Reading.{Reading}
use Rattle.temperature.specs.Temperature.{whole_byte, half_set}
use Rattle.state.specs.declared.Chip.{Chip}
use Rattle.state.specs.Parts.{no_kept, register_at, zone_at, volt_at, fan_at, kept_at}
use Rattle.state.specs.With.{with_fans, with_kept, with_pin}
use Rattle.state.specs.Made.{of_readings, of_kept}
use Rattle.bus.specs.declared.ByteRead.{ByteRead}
use Rattle.bus.specs.declared.Readings.{Readings}
use Rattle.bus.specs.Latch.{transacted_pin, is_ours, transacted}

-- the chip of the registers and the readings that are looked at
abbrev pub of_parts : Readings → Chip
of_parts r = of_readings r.file.now r.zones.now r.volts.now r.fans.now

-- "Missing shows 00h for a voltage and 3FFFh for a fan."
unfoldable pub volt_byte : Option ℕ → ℕ
volt_byte None = 0x00
volt_byte (Some n) = n % 256

unfoldable pub fan_word : Option ℕ → ℕ
fan_word None = 0x3FFF
fan_word (Some n) = n

-- "in 000's bit places": of a fan count six bits in the low byte's top, eight in the high byte
unfoldable pub low_byte : Option ℕ → ℕ
low_byte n = fan_word n % 64 * 4

unfoldable pub high_byte : Option ℕ → ℕ
high_byte n = fan_word n / 64 % 256

unfoldable pub half_byte : Reading → ℕ
half_byte r = pick (half_set r) HALF 0x00

-- ---- what a register shows at present, in the dump and in a block

-- "A register that shows a reading shows it in 000's bit places, and while the reading is missing it shows the missing mark"
unfoldable pub shown_kind : Chip → ℕ → Kind → ℕ
shown_kind c a Plain = register_at c a
shown_kind c a Status = register_at c a
shown_kind c a (Whole zone) = whole_byte (zone_at c zone)
shown_kind c a (Half zone) = half_byte (zone_at c zone)
shown_kind c a (Volt channel) = volt_byte (volt_at c channel)
shown_kind c a (FanLow fan) = low_byte (fan_at c fan)
shown_kind c a (FanHigh fan) = high_byte (fan_at c fan)
shown_kind c a (VoltLow i) = register_at c a
shown_kind c a (VoltHigh i) = register_at c a
shown_kind c a (FanLimitLow i) = register_at c a
shown_kind c a (FanLimitHigh i) = register_at c a

unfoldable pub shown_home : Chip → ℕ → ℕ
shown_home c a = shown_kind c a (kind_of a)

-- a mirror is its home
unfoldable pub shown_register : Chip → ℕ → ℕ
shown_register c a = shown_home c (home_of a)

-- ---- what a byte read shows, and what is kept after it

-- "the next read of that high byte gives the kept one"; "A high byte read without one kept is the present one."
unfoldable pub given_byte : Option ℕ → ℕ → ℕ
given_byte None present = present
given_byte (Some byte) present = byte

-- what a byte read shows where the present byte is this
unfoldable pub given_at : Chip → FanByte → ℕ → ℕ
given_at c neither present = present
given_at c (low fan) present = present
given_at c (high fan) present = given_byte (kept_at c fan) present

unfoldable pub given_register : Chip → ℕ → ℕ
given_register c a = given_at c (fan_byte_at a) (shown_register c a)

-- "A read of a fan count's low byte shall keep the matching high byte; the next read of that high byte gives the kept one and drops it."
unfoldable pub kept_as : Chip → FanByte → List (Option ℕ)
kept_as c neither = c.kept
kept_as c (low fan) = set c.kept fan (Some (high_byte (fan_at c fan)))
kept_as c (high fan) = set c.kept fan no_kept

unfoldable pub kept_after : Chip → ℕ → List (Option ℕ)
kept_after c a = kept_as c (fan_byte_at a)

unfoldable pub read_register : Chip → ℕ → ByteRead
read_register c a = record { byte = given_register c a; kept = kept_after c a }

-- the chip after a byte read, and the byte that it shows: none where it is not acknowledged
pub record Seen : Type 0 where
  pub chip : Chip
  pub shown : Option ℕ

-- the chip after an acknowledged byte read
abbrev pub kept_chip : Chip → ℕ → Chip
kept_chip c a = with_kept c (kept_after c a)

unfoldable pub read_byte : Chip → ℕ → ℕ → Seen
read_byte c address a =
    pick (is_ours (transacted c address).pin.latch address)
    (record { chip = kept_chip (transacted c address) a; shown = Some (given_register (transacted c address) a) })
    (record { chip = transacted c address; shown = None })

-- ---- the parts that are looked at: the registers and the readings, by a byte read the kept bytes too

module _ (c : Chip) where
  pub shown_kind_by_parts : (a : ℕ) (k : Kind) → shown_kind (of_readings c.registers c.zones c.volts c.fans) a k ≡ shown_kind c a k
  unfolding shown_kind register_at zone_at volt_at fan_at
  shown_kind_by_parts a Plain = refl
  shown_kind_by_parts a Status = refl
  shown_kind_by_parts a (Whole i) = refl
  shown_kind_by_parts a (Half i) = refl
  shown_kind_by_parts a (Volt i) = refl
  shown_kind_by_parts a (FanLow i) = refl
  shown_kind_by_parts a (FanHigh i) = refl
  shown_kind_by_parts a (VoltLow i) = refl
  shown_kind_by_parts a (VoltHigh i) = refl
  shown_kind_by_parts a (FanLimitLow i) = refl
  shown_kind_by_parts a (FanLimitHigh i) = refl

  pub shown_by_parts : (a : ℕ) → shown_register (of_readings c.registers c.zones c.volts c.fans) a ≡ shown_register c a
  unfolding shown_register shown_home
  shown_by_parts a = shown_kind_by_parts (home_of a) (kind_of (home_of a))

-- a transaction as such changes nothing of what is shown
pub transacted_shows : (c : Chip) (address a : ℕ) → shown_register (transacted c address) a ≡ shown_register c a
unfolding transacted
transacted_shows c address a = sym (shown_by_parts (transacted c address) a) ∙ shown_by_parts c a

module _ (c : Chip) where
  given_by_parts : (b : FanByte) (present : ℕ) → given_at (of_kept c.registers c.zones c.volts c.fans c.kept) b present ≡ given_at c b present
  unfolding given_at kept_at
  given_by_parts neither present = refl
  given_by_parts (low fan) present = refl
  given_by_parts (high fan) present = refl

  -- what is kept follows from the fan counts and the kept bytes
  kept_as_by_parts : (d : Chip) (b : FanByte) → kept_as (with_kept (with_fans d c.fans) c.kept) b ≡ kept_as c b
  unfolding kept_as fan_at
  kept_as_by_parts d neither = refl
  kept_as_by_parts d (low fan) = refl
  kept_as_by_parts d (high fan) = refl

  pub kept_by_parts : (d : Chip) (a : ℕ) → kept_after (with_kept (with_fans d c.fans) c.kept) a ≡ kept_after c a
  unfolding kept_after
  kept_by_parts d a = kept_as_by_parts d (fan_byte_at a)

module _ (c : Chip) where
  pub read_register_by_parts : (a : ℕ) → read_register (of_kept c.registers c.zones c.volts c.fans c.kept) a ≡ read_register c a
  unfolding read_register given_register
  read_register_by_parts a =
      let made = of_kept c.registers c.zones c.volts c.fans c.kept in
      let shown : shown_register made a ≡ shown_register c a = sym (shown_by_parts made a) ∙ shown_by_parts c a in
      rw (shown, given_by_parts c (fan_byte_at a) (shown_register c a), kept_by_parts c made a)

-- a transaction as such changes nothing of what a byte read shows
pub transacted_reads : (c : Chip) (address a : ℕ) → given_register (transacted c address) a ≡ given_register c a
unfolding transacted read_register
transacted_reads c address a =
    ap (λ (r : ByteRead). r.byte) (sym (read_register_by_parts (transacted c address) a) ∙ read_register_by_parts c a)

module _ (c : Chip) where
  -- R on the parts: the pin decides the acknowledgement, the registers, readings and kept bytes what is shown and kept
  pub read_by_parts : (address a : ℕ) → read_byte c address a ≡ pick (is_ours (transacted_pin c.pin address).latch address) (record { chip = with_kept (with_pin c (transacted_pin c.pin address)) (read_register (of_kept c.registers c.zones c.volts c.fans c.kept) a).kept; shown = Some (read_register (of_kept c.registers c.zones c.volts c.fans c.kept) a).byte }) (record { chip = with_pin c (transacted_pin c.pin address); shown = None })
  unfolding read_byte transacted read_register
  read_by_parts address a =
      let e = read_register_by_parts (with_pin c (transacted_pin c.pin address)) a in
      rw (ap (λ (r : ByteRead). r.kept) e, ap (λ (r : ByteRead). r.byte) e)
