-- The parts of the chip that definitions read. Zones, channels, fans, inputs and tables count from 0. Past its end an array reads as
-- missing, none, off or 0, so each definition has an answer for every number. Assumes nothing.
use Rattle.std.specs.Prelude.{Bool, true, false, ℕ, eqb, get_or, Option, None, ℤ}
use Rattle.laws.specs.Pick.{pick}
use Rattle.map.specs.Bits.{is_set}
use Rattle.map.specs.Names.{Z1BE, Z2BE}
use Rattle.temperature.specs.declared.Reading.{Reading}
use Rattle.temperature.specs.declared.Reading.TheVariants as reading
use Rattle.state.specs.declared.Chip.{Chip}
use Rattle.state.specs.declared.Ramp.{Ramp}

abbrev pub no_zone : Reading
no_zone = reading.Missing

abbrev pub no_gauge : Option ℕ
no_gauge = None

abbrev pub no_kept : Option ℕ
no_kept = None

abbrev pub no_ramp : Ramp
no_ramp = record { level = 0; wait = 0 }

abbrev pub no_boost : Option ℤ
no_boost = None

abbrev pub no_override : Option ℕ
no_override = None

-- the byte that the register file holds at an address
unfoldable pub register_at : Chip → ℕ → ℕ
register_at c a = get_or c.registers a 0

-- the reading of zone i, in the order 1a, 1b, 2a, 2b, 3, 4
unfoldable pub zone_at : Chip → ℕ → Reading
zone_at c i = get_or c.zones i no_zone

-- "while Z1bE is set", "zone 2 likewise": whether zone i is enabled, by 31h; 1a, 2a, 3 and 4 always are
unfoldable pub zone_enabled : ℕ → ℕ → Bool
zone_enabled source i = pick (eqb i 1) (is_set source Z1BE) (pick (eqb i 3) (is_set source Z2BE) true)

-- the reading of voltage channel i + 1
unfoldable pub volt_at : Chip → ℕ → Option ℕ
volt_at c i = get_or c.volts i no_gauge

-- voltage channel i + 1 is in error
unfoldable pub in_error : Chip → ℕ → Bool
in_error c i = get_or c.erring i false

-- the reading of fan i + 1
unfoldable pub fan_at : Chip → ℕ → Option ℕ
fan_at c i = get_or c.fans i no_gauge

-- the high byte that is kept of fan i + 1
unfoldable pub kept_at : Chip → ℕ → Option ℕ
kept_at c i = get_or c.kept i no_kept

-- hot input i + 1 is 1
unfoldable pub hot_at : Chip → ℕ → Bool
hot_at c i = get_or c.hot i false
