-- `bus::read_register` meets its contract: each arm shows and keeps what its kind does. Assumes nothing.
use Rattle.std.specs.Prelude.{Option, Some, None}
use Rattle.std.specs.Option.{unwrap_or}
use mathlib.Core.Path.{◌≡◌, refl, ap, ◌∙◌}
use mathlib.Core.List.{List}
use Prim.Native.Nat.{ℕ}
use Rattle.map.specs.declared.Kind.{Kind}
use Rattle.map.specs.Map.{home_of}
use Rattle.map.specs.Kind.{kind_of}
use Rattle.map.specs.FanBytes.{FanByte, neither, low, high, byte_of_kind, fan_byte_at, neither_kind}
use Rattle.state.specs.declared.Chip.{Chip}
use Rattle.state.specs.Parts.{fan_at, kept_at}
use Rattle.state.specs.Made.{of_readings}
use Rattle.bus.specs.declared.ByteRead.{ByteRead}
use Rattle.bus.specs.Read.{shown_kind, shown_home, shown_register, given_byte, given_at, given_register, kept_as, kept_after, read_register, shown_kind_by_parts}
use Rattle.bus.proofs.read_register.Goals as goal

-- an arm: the register a has its home at h, of kind k, and shows this byte of a fan's count or neither
arm : (c : Chip) (a : ℕ) {h p b : ℕ} {k : Kind} {kept : List (Option ℕ)} (x : FanByte) → h ≡ home_of a → k ≡ kind_of h → byte_of_kind k ≡ x → p ≡ shown_kind (of_readings c.registers c.zones c.volts c.fans) h k → b ≡ given_at c x p → kept ≡ kept_as c x → ◌≡◌ {A = ByteRead} (record { byte = b; kept = kept }) (read_register c a)
unfolding read_register given_register kept_after fan_byte_at shown_register shown_home
arm c a x e q is shown y z = rw (y, z, ← is, shown ∙ shown_kind_by_parts c _ _, q, e)

-- the kept byte, or the present one
given : (kept : Option ℕ) (present : ℕ) → unwrap_or kept present ≡ given_byte kept present
unfolding given_byte
given None present = refl
given (Some byte) present = refl

pub returns-in-FanLow : goal.returns-in-FanLow
unfolding byte_of_kind given_at kept_as fan_at
returns-in-FanLow c =
    arm _ _ (low _) c.home_of-home.ensures c.kind_of-kind.ensures (ap byte_of_kind c.in-FanLow.is) c.show_kind-present.ensures refl
    (rw (c.with.ensures, c.high_byte-high.ensures, c.at.ensures))

pub returns-in-FanHigh : goal.returns-in-FanHigh
unfolding byte_of_kind given_at kept_as kept_at
returns-in-FanHigh c =
    arm _ _ (high _) c.home_of-home.ensures c.kind_of-kind.ensures (ap byte_of_kind c.in-FanHigh.is) c.show_kind-present.ensures
    (c.unwrap_or.ensures ∙ rw c.at-in-FanHigh.ensures (given _ _))
    c.with-in-FanHigh.ensures

pub returns-in_default : goal.returns-in_default
unfolding given_at kept_as
returns-in_default c =
    arm _ _ neither c.home_of-home.ensures c.kind_of-kind.ensures (neither_kind _ c.in_default.not-FanLow c.in_default.not-FanHigh) c.show_kind-present.ensures refl refl
