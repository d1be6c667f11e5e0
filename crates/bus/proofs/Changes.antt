-- What a byte write changes of the chip, and what it keeps. Assumes nothing.
use Rattle.std.specs.Prelude.{◌≡◌, Bool, ℕ}
use Rattle.std.proofs.Math.Path.{refl}
use Rattle.std.proofs.Math.Bool.{true, false}
use Rattle.laws.specs.Pick.{pick}
use Rattle.laws.specs.Never.{never}
use Rattle.map.specs.declared.Kind.{Kind}
use Rattle.map.specs.declared.Kind.TheVariants.{Plain, Status, Whole, Half, Volt, FanLow, FanHigh, VoltLow, VoltHigh, FanLimitLow, FanLimitHigh}
use Rattle.map.specs.Names.{TEMPERATURE_SOURCE_SELECT, CONFIGURATION, HALF}
use Rattle.map.specs.Bits.{is_set}
use Rattle.map.specs.Kind.{kind_of}
use Rattle.temperature.specs.declared.Reading.{Reading}
use Rattle.temperature.specs.Temperature.{reading_of, with_half}
use Rattle.state.specs.declared.Chip.{Chip}
use Rattle.state.specs.Parts.{register_at, zone_at}
use Rattle.bus.specs.declared.Change.TheVariants.{Nothing, ZoneReading}
use Rattle.bus.specs.Write.{zone_writable, change_whole, change_half, change_kind, is_shut, change_home}
use Rattle.bus.specs.Changes.{Allowed, clear, none, store, zone}

module _ (c : Chip) (a byte : ℕ) where
  zone_if : (t : Bool) (i : ℕ) (r : Reading) → Allowed c a byte (pick t (ZoneReading i r) Nothing)
  zone_if true i r = zone i r
  zone_if false i r = none

  by_kind : is_shut (register_at c CONFIGURATION) a ≡ false → (k : Kind) → kind_of a ≡ k → Allowed c a byte (change_kind c a byte k)
  unfolding change_kind change_whole change_half
  by_kind f Plain e = store f (λ s. never (cc))
  by_kind f Status e = clear f e
  by_kind f (Whole i) e = zone_if (zone_writable (register_at c TEMPERATURE_SOURCE_SELECT) i) i (reading_of byte)
  by_kind f (Half i) e = zone_if (zone_writable (register_at c TEMPERATURE_SOURCE_SELECT) i) i (with_half (zone_at c i) (is_set byte HALF))
  by_kind f (Volt i) e = none
  by_kind f (FanLow i) e = none
  by_kind f (FanHigh i) e = none
  by_kind f (VoltLow i) e = store f (λ s. never (cc))
  by_kind f (VoltHigh i) e = store f (λ s. never (cc))
  by_kind f (FanLimitLow i) e = store f (λ s. never (cc))
  by_kind f (FanLimitHigh i) e = store f (λ s. never (cc))

  -- every write is one of these
  pub change_allowed : Allowed c a byte (change_home c a byte)
  unfolding change_home
  change_allowed = go (is_shut (register_at c CONFIGURATION) a) refl
    where
      go : (t : Bool) → is_shut (register_at c CONFIGURATION) a ≡ t → Allowed c a byte (pick t Nothing (change_kind c a byte (kind_of a)))
      go true e = none
      go false e = by_kind e (kind_of a) refl
