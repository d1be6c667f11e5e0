-- The facts that documents 01 and 02 ask of the map, each a value of the tables. Assumes nothing.
use Rattle.std.specs.Prelude.{◌≡◌, refl, true, false}
use Rattle.map.specs.Tables.{defaults, writables, lock_marks, homes}
use Rattle.map.specs.Names.{CONFIGURATION, SLEEP_STATE_CONTROL}
use Rattle.map.specs.Map.{default_of, writable_of, lock_marked, home_of}
use Rattle.map.specs.Kind.{kind_of}

-- 01's table, row by row: default and writable bits
pub table : ((default_of 0x31 ≡ 0x00) × (writable_of 0x31 ≡ 0x1F))
    × ((default_of 0x32 ≡ 0x00) × (writable_of 0x32 ≡ 0x77))
    × ((default_of 0x33 ≡ 0x00) × (writable_of 0x33 ≡ 0xF8) × (default_of 0x34 ≡ 0x00) × (writable_of 0x34 ≡ 0xF8))
    × ((default_of 0x35 ≡ 0x30) × (writable_of 0x35 ≡ 0xFF))
    × ((default_of 0xB2 ≡ 0x17) × (writable_of 0xB2 ≡ 0xFF) × (default_of 0xB3 ≡ 0x17) × (writable_of 0xB3 ≡ 0xFF))
    × ((default_of 0xB4 ≡ 0xFC) × (writable_of 0xB4 ≡ 0xFC) × (default_of 0xB6 ≡ 0xFC) × (writable_of 0xB6 ≡ 0xFC))
    × ((default_of 0xB8 ≡ 0xFC) × (writable_of 0xB8 ≡ 0xFC) × (default_of 0xBA ≡ 0xFC) × (writable_of 0xBA ≡ 0xFC))
    × ((default_of 0xB5 ≡ 0xFF) × (writable_of 0xB5 ≡ 0xFF) × (default_of 0xB7 ≡ 0xFF) × (writable_of 0xB7 ≡ 0xFF))
    × ((default_of 0xB9 ≡ 0xFF) × (writable_of 0xB9 ≡ 0xFF) × (default_of 0xBB ≡ 0xFF) × (writable_of 0xBB ≡ 0xFF))
    × ((default_of 0xBC ≡ 0x00) × (writable_of 0xBC ≡ 0x7F))
    × ((default_of 0xBD ≡ 0x00) × (writable_of 0xBD ≡ 0xFF))
unfolding default_of writable_of defaults writables
table = (
  (refl, refl),
  (refl, refl),
  (refl, refl, refl, refl),
  (refl, refl),
  (refl, refl, refl, refl),
  (refl, refl, refl, refl),
  (refl, refl, refl, refl),
  (refl, refl, refl, refl),
  (refl, refl, refl, refl),
  (refl, refl),
  (refl, refl),
)

-- the ten mirrors and their homes (000, section 6.4.6), with the kinds that they share
pub mirrors : ((home_of 0x11 ≡ 0x50) × (home_of 0x13 ≡ 0x06) × (home_of 0x15 ≡ 0x51) × (home_of 0x17 ≡ 0x07) × (home_of 0x19 ≡ 0x54) × (home_of 0x1B ≡ 0x08) × (home_of 0x1D ≡ 0x55) × (home_of 0x1F ≡ 0x09) × (home_of 0x21 ≡ 0x52) × (home_of 0x23 ≡ 0x53))
    × ((kind_of 0x11 ≡ kind_of 0x50) × (kind_of 0x13 ≡ kind_of 0x06) × (kind_of 0x15 ≡ kind_of 0x51) × (kind_of 0x17 ≡ kind_of 0x07) × (kind_of 0x19 ≡ kind_of 0x54) × (kind_of 0x1B ≡ kind_of 0x08) × (kind_of 0x1D ≡ kind_of 0x55) × (kind_of 0x1F ≡ kind_of 0x09) × (kind_of 0x21 ≡ kind_of 0x52) × (kind_of 0x23 ≡ kind_of 0x53))
unfolding home_of homes kind_of
mirrors = (
  (refl, refl, refl, refl, refl, refl, refl, refl, refl, refl),
  (refl, refl, refl, refl, refl, refl, refl, refl, refl, refl),
)

-- LOCK and GMSK are clear at power-on, and LOCK keeps its own register; 02, Q-12: "on the bench the sleep state starts at S0"
pub configuration : (default_of CONFIGURATION ≡ 0x00) × (lock_marked CONFIGURATION ≡ true) × (default_of SLEEP_STATE_CONTROL ≡ 0x00) × (lock_marked SLEEP_STATE_CONTROL ≡ false)
unfolding default_of lock_marked defaults lock_marks
configuration = (refl, refl, refl, refl)

-- 02, Q-12: "Zone limits start at the bench's own 80h low and 7Fh high", of zones 1 to 4
pub zone_limits : ((default_of 0x78 ≡ 0x80) × (default_of 0x79 ≡ 0x7F))
    × ((default_of 0x7A ≡ 0x80) × (default_of 0x7B ≡ 0x7F))
    × ((default_of 0x7C ≡ 0x80) × (default_of 0x7D ≡ 0x7F))
    × ((default_of 0x7E ≡ 0x80) × (default_of 0x7F ≡ 0x7F))
unfolding default_of defaults
zone_limits = ((refl, refl), (refl, refl), (refl, refl), (refl, refl))
