-- What a byte write changes of the chip, and what it keeps. Assumes nothing.
use Rattle.std.specs.Prelude.{◌≡◌, List, ℕ, Option}
use Rattle.std.proofs.Math.Path.{refl}
use Rattle.std.proofs.Common.{◌∙◌}
use Rattle.std.proofs.Math.Bool.{false}
use Rattle.map.specs.declared.Kind.TheVariants.{Status}
use Rattle.map.specs.Names.{CONFIGURATION}
use Rattle.map.specs.Kind.{kind_of}
use Rattle.temperature.specs.declared.Reading.{Reading}
use Rattle.state.specs.declared.Chip.{Chip}
use Rattle.state.specs.Parts.{register_at}
use Rattle.state.specs.With.{with_registers, with_zones, with_kept, with_pin, with_register, with_zone}
use Rattle.sense.specs.Events.{read_zone}
use Rattle.bus.specs.declared.Change.{Change}
use Rattle.bus.specs.declared.Change.TheVariants.{Nothing, Register, ZoneReading}
use Rattle.bus.specs.Write.{stored, cleared, is_shut, change_of, changed, wrote_register}

-- ---- a write at a home: nothing, one register stored or cleared, or one zone's reading

pub data Allowed (c : Chip) (a byte : ℕ) : Change → Type 0 where
  none : Allowed c a byte Nothing
  store : is_shut (register_at c CONFIGURATION) a ≡ false → (kind_of a ≡ Status → ⊥) → Allowed c a byte (stored c a byte)
  clear : is_shut (register_at c CONFIGURATION) a ≡ false → kind_of a ≡ Status → Allowed c a byte (cleared c a byte)
  zone : (i : ℕ) (r : Reading) → Allowed c a byte (ZoneReading i r)

-- ---- what no transaction changes

pub record BusKeeps (c d : Chip) : Type 0 where
  pub setup : d.setup ≡ c.setup
  pub volts : d.volts ≡ c.volts
  pub erring : d.erring ≡ c.erring
  pub fans : d.fans ≡ c.fans
  pub hot : d.hot ≡ c.hot
  pub level : d.pin.level ≡ c.pin.level
  pub drive : d.drive ≡ c.drive

-- whatever registers, zones, kept bytes and latch it gets
pub bus_keeps_but : (c : Chip) (r : List ℕ) (z : List Reading) (k : List (Option ℕ)) (l : Option ℕ) → BusKeeps c (with_pin (with_kept (with_zones (with_registers c r) z) k) (record { level = c.pin.level; latch = l }))
bus_keeps_but c r z k l = record { setup = refl; volts = refl; erring = refl; fans = refl; hot = refl; level = refl; drive = refl }

-- a chip keeps its own, and what is kept twice is kept
pub bus_keeps_self : (c : Chip) → BusKeeps c c
bus_keeps_self c = bus_keeps_but c c.registers c.zones c.kept c.pin.latch

pub bus_keeps_on : {c d e : Chip} → BusKeeps c d → BusKeeps d e → BusKeeps c e
bus_keeps_on p q = record {
  setup = q.setup ∙ p.setup;
  volts = q.volts ∙ p.volts;
  erring = q.erring ∙ p.erring;
  fans = q.fans ∙ p.fans;
  hot = q.hot ∙ p.hot;
  level = q.level ∙ p.level;
  drive = q.drive ∙ p.drive;
}

change_keeps : (c : Chip) (d : Change) → BusKeeps c (changed c d)
unfolding changed with_register with_zone read_zone
change_keeps c Nothing = bus_keeps_but c _ _ _ _
change_keeps c (Register a byte) = bus_keeps_but c _ _ _ _
change_keeps c (ZoneReading i r) = bus_keeps_but c _ _ _ _

change_pin : (c : Chip) (d : Change) → (changed c d).pin ≡ c.pin
unfolding changed with_register with_zone read_zone
change_pin c Nothing = refl
change_pin c (Register a byte) = refl
change_pin c (ZoneReading i r) = refl

change_kept : (c : Chip) (d : Change) → (changed c d).kept ≡ c.kept
unfolding changed with_register with_zone read_zone
change_kept c Nothing = refl
change_kept c (Register a byte) = refl
change_kept c (ZoneReading i r) = refl

-- a write to a register keeps the setup, the voltages, whether they are in error, the fan counts, the hot inputs, the pin's level and the
-- drive
pub register_keeps : (c : Chip) (a byte : ℕ) → BusKeeps c (wrote_register c a byte)
unfolding wrote_register
register_keeps c a byte = change_keeps c (change_of c a byte)

-- and the pin with its latch
pub register_keeps_pin : (c : Chip) (a byte : ℕ) → (wrote_register c a byte).pin ≡ c.pin
unfolding wrote_register
register_keeps_pin c a byte = change_pin c (change_of c a byte)

-- and the kept bytes
pub register_keeps_kept : (c : Chip) (a byte : ℕ) → (wrote_register c a byte).kept ≡ c.kept
unfolding wrote_register
register_keeps_kept c a byte = change_kept c (change_of c a byte)
