-- Two chips, one no hotter than the other: they differ in zones, in the zones' error bits and in the drive alone. Assumes nothing.
use Rattle.std.specs.Prelude.{◌≡◌, refl, Bool, List, ℕ, length, get_or, set, Option}
use Rattle.std.proofs.Common.{sym, ◌∙◌, arith, length-set}
use Rattle.laws.specs.Store.{set_related}
use Rattle.temperature.specs.declared.Reading.{Reading}
use Rattle.temperature.specs.Order.{NoHotter, no_hotter_refl}
use Rattle.state.specs.declared.Chip.{Chip}
use Rattle.state.specs.declared.Setup.{Setup}
use Rattle.state.specs.declared.Drive.{Drive}
use Rattle.state.specs.declared.Pin.{Pin}
use Rattle.state.specs.Parts.{no_zone, zone_at}
use Rattle.state.specs.With.{with_registers, with_zones, with_drive}
use Rattle.state.specs.Order.{DriveNoHigher, SameButZones, Cooler}
use Rattle.sense.specs.ButZones.{but_self}

-- ---- zones

-- as many zones, each no hotter than its neighbour
pub record ZonesCooler (zs ws : List Reading) : Type 0 where
  pub many : length zs ≡ length ws
  pub each : (i : ℕ) → NoHotter (get_or zs i no_zone) (get_or ws i no_zone)

-- zones are no hotter than themselves
zones_self : (zs : List Reading) → ZonesCooler zs zs
zones_self zs = record { many = refl; each = λ i. no_hotter_refl _ }

-- one zone of both gets a reading, the second a reading no cooler
pub zones_set : {zs ws : List Reading} → ZonesCooler zs ws → (i : ℕ) {r s : Reading} → NoHotter r s → ZonesCooler (set zs i r) (set ws i s)
zones_set {zs} {ws} z i p = record {
  many = length-set zs i _ ∙ z.many ∙ sym (length-set ws i _);
  each = λ j. set_related (λ (a b : Reading). NoHotter a b) zs ws i j _ _ no_zone z.many (z.each j) p;
}

-- ---- chips

-- c is no hotter than d, and has as many zones
pub record Under (c d : Chip) : Type 0 where
  pub many : length c.zones ≡ length d.zones
  pub cooler : Cooler c d

-- chips with the same of all else
pub same_but : {s : Setup} {q r : List ℕ} {zs ws : List Reading} {v f : List (Option ℕ)} {k : List (Option ℕ)} {g h : List Bool} {p : Pin} {d e : Drive} → SameButZones q r → ZonesCooler zs ws → DriveNoHigher d e → Under (record { setup = s; registers = q; zones = zs; volts = v; erring = g; fans = f; kept = k; hot = h; pin = p; drive = d }) (record { setup = s; registers = r; zones = ws; volts = v; erring = g; fans = f; kept = k; hot = h; pin = p; drive = e })
unfolding zone_at
same_but s z n = record {
  many = z.many;
  cooler = record {
    setup = refl;
    registers = s;
    zones = z.each;
    volts = refl;
    erring = refl;
    fans = refl;
    kept = refl;
    hot = refl;
    pin = refl;
    drive = n;
  };
}

-- a chip is no hotter than itself
pub under_self : (c : Chip) → Under c c
under_self c =
    same_but (but_self _) (zones_self _) (record { steps = λ i. omega arith; boosts = λ i t. t; ramps = refl; duties = λ i. omega arith })

-- the chip c, but with another register file, other zones and another drive
abbrev pub beside : Chip → List ℕ → List Reading → Drive → Chip
beside c file zs x = with_drive (with_zones (with_registers c file) zs) x

-- a chip that is no cooler than c is c, but with its own register file, zones and drive
is_beside : {c d : Chip} → Cooler c d → d ≡ beside c d.registers d.zones d.drive
is_beside k = rw (k.setup, k.volts, k.erring, k.fans, k.kept, k.hot, k.pin)

-- so what holds of every such chip beside c holds of one that c is under
pub under_beside : {c d : Chip} (P : Chip → Type 0) → ((file : List ℕ) (zs : List Reading) (x : Drive) → SameButZones c.registers file → ZonesCooler c.zones zs → DriveNoHigher c.drive x → P (beside c file zs x)) → Under c d → P d
unfolding zone_at
under_beside P f u =
    rw (is_beside u.cooler) (f _ _ _ u.cooler.registers (record { many = u.many; each = u.cooler.zones }) u.cooler.drive)
