-- The 59 numbers of a setup, counted from 0: where each group begins, in document 01's order (crates/settings/src/places.rt). Assumes
-- nothing.
use Rattle.std.specs.Prelude.{ℕ}

-- "pin level"
abbrev pub LEVEL : ℕ
LEVEL = 0

-- "4 bases"
abbrev pub BASES : ℕ
BASES = 1

-- "12 offsets for tables 1 and 2"
abbrev pub OFFSETS12 : ℕ
OFFSETS12 = 5

-- "then 12 for 3 and 4"
abbrev pub OFFSETS34 : ℕ
OFFSETS34 = 17

-- "2 hystereses"
abbrev pub HYSTERESES : ℕ
HYSTERESES = 29

-- "13 duties"
abbrev pub DUTIES : ℕ
DUTIES = 31

-- "6 boosts"
abbrev pub BOOSTS : ℕ
BOOSTS = 44

-- "boost hysteresis"
abbrev pub BOOST_HYSTERESIS : ℕ
BOOST_HYSTERESIS = 50

-- "2 bindings"
abbrev pub BINDINGS : ℕ
BINDINGS = 51

-- "2 overrides"
abbrev pub OVERRIDES : ℕ
OVERRIDES = 53

-- "2 start duties"
abbrev pub START_DUTIES : ℕ
START_DUTIES = 55

-- "2 start counts"
abbrev pub START_COUNTS : ℕ
START_COUNTS = 57

-- "59 numbers"
abbrev pub NUMBERS : ℕ
NUMBERS = 59
