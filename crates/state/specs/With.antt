-- The chip with one part replaced. Assumes nothing.
use Rattle.std.specs.Prelude.{Bool, List, ℕ, set, Option}
use Rattle.temperature.specs.declared.Reading.{Reading}
use Rattle.state.specs.declared.Chip.{Chip}
use Rattle.state.specs.declared.Drive.{Drive}
use Rattle.state.specs.declared.Pin.{Pin}

abbrev pub with_registers : Chip → List ℕ → Chip
with_registers c x = record { setup = c.setup; registers = x; zones = c.zones; volts = c.volts; erring = c.erring; fans = c.fans; kept = c.kept; hot = c.hot; pin = c.pin; drive = c.drive }

abbrev pub with_zones : Chip → List Reading → Chip
with_zones c x = record { setup = c.setup; registers = c.registers; zones = x; volts = c.volts; erring = c.erring; fans = c.fans; kept = c.kept; hot = c.hot; pin = c.pin; drive = c.drive }

abbrev pub with_volts : Chip → List (Option ℕ) → Chip
with_volts c x = record { setup = c.setup; registers = c.registers; zones = c.zones; volts = x; erring = c.erring; fans = c.fans; kept = c.kept; hot = c.hot; pin = c.pin; drive = c.drive }

abbrev pub with_erring : Chip → List Bool → Chip
with_erring c x = record { setup = c.setup; registers = c.registers; zones = c.zones; volts = c.volts; erring = x; fans = c.fans; kept = c.kept; hot = c.hot; pin = c.pin; drive = c.drive }

abbrev pub with_fans : Chip → List (Option ℕ) → Chip
with_fans c x = record { setup = c.setup; registers = c.registers; zones = c.zones; volts = c.volts; erring = c.erring; fans = x; kept = c.kept; hot = c.hot; pin = c.pin; drive = c.drive }

abbrev pub with_kept : Chip → List (Option ℕ) → Chip
with_kept c x = record { setup = c.setup; registers = c.registers; zones = c.zones; volts = c.volts; erring = c.erring; fans = c.fans; kept = x; hot = c.hot; pin = c.pin; drive = c.drive }

abbrev pub with_hot : Chip → List Bool → Chip
with_hot c x = record { setup = c.setup; registers = c.registers; zones = c.zones; volts = c.volts; erring = c.erring; fans = c.fans; kept = c.kept; hot = x; pin = c.pin; drive = c.drive }

abbrev pub with_pin : Chip → Pin → Chip
with_pin c x = record { setup = c.setup; registers = c.registers; zones = c.zones; volts = c.volts; erring = c.erring; fans = c.fans; kept = c.kept; hot = c.hot; pin = x; drive = c.drive }

abbrev pub with_drive : Chip → Drive → Chip
with_drive c x = record { setup = c.setup; registers = c.registers; zones = c.zones; volts = c.volts; erring = c.erring; fans = c.fans; kept = c.kept; hot = c.hot; pin = c.pin; drive = x }

-- ---- one element

-- the register at address a holds b
unfoldable pub with_register : Chip → ℕ → ℕ → Chip
with_register c a b = with_registers c (set c.registers a b)

-- zone i has the reading r
unfoldable pub with_zone : Chip → ℕ → Reading → Chip
with_zone c i r = with_zones c (set c.zones i r)

-- voltage i has the reading n
unfoldable pub with_volt : Chip → ℕ → Option ℕ → Chip
with_volt c i n = with_volts c (set c.volts i n)

-- whether channel i is in error is e
unfoldable pub with_in_error : Chip → ℕ → Bool → Chip
with_in_error c i e = with_erring c (set c.erring i e)

-- fan i has the reading n
unfoldable pub with_fan : Chip → ℕ → Option ℕ → Chip
with_fan c i n = with_fans c (set c.fans i n)

-- hot input i is h
unfoldable pub with_hot_input : Chip → ℕ → Bool → Chip
with_hot_input c i h = with_hot c (set c.hot i h)
