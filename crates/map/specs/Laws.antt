-- Laws of the register map: each a test that is computed once over a table and carried to its entries by `entry`. Assumes nothing.
use Rattle.std.specs.Prelude.{◌≡◌, refl, Bool, ℕ, ◌<◌, eqb, ltb, get_or}
use Rattle.std.proofs.Common.{eqb→eq, ltb→lt}
use Rattle.laws.specs.Table.{entry}
use Rattle.laws.specs.Tab.{tab}
use Rattle.map.specs.Tables.{defaults, writables, homes}
use Rattle.map.specs.Map.{default_of, writable_of, home_of}

-- the table has the default of each of the 256 addresses
pub defaults_tab : defaults ≡ tab default_of 256
unfolding defaults default_of tab
defaults_tab = refl

is_home : ℕ → ℕ → Bool
is_home a home = eqb (get_or homes home 0) home

-- "The home of a home is itself, for all 256 addresses."
pub home_home : (a : ℕ) → a < 256 → home_of (home_of a) ≡ home_of a
unfolding home_of homes is_home
home_home a h = eqb→eq (get_or homes (get_or homes a 0) 0) (get_or homes a 0) (entry is_home homes tt a h)

is_byte : ℕ → ℕ → Bool
is_byte a x = ltb x 256

-- each entry is a byte
pub home_byte : (a : ℕ) → a < 256 → home_of a < 256
unfolding home_of homes is_byte
home_byte a h = ltb→lt (get_or homes a 0) 256 (entry is_byte homes tt a h)

pub default_byte : (a : ℕ) → a < 256 → default_of a < 256
unfolding default_of defaults is_byte
default_byte a h = ltb→lt (get_or defaults a 0) 256 (entry is_byte defaults tt a h)

pub writable_byte : (a : ℕ) → a < 256 → writable_of a < 256
unfolding writable_of writables is_byte
writable_byte a h = ltb→lt (get_or writables a 0) 256 (entry is_byte writables tt a h)
