-- The largest numbers of a setup (crates/state/src/most.rt). Assumes nothing.
use Rattle.std.specs.Prelude.{ℕ}

-- "pin level": "0, 1, 2"
abbrev pub LEVEL_MOST : ℕ
LEVEL_MOST = 2

-- "4 bases, -127 to 127 degrees", "6 boosts, -127 to 127 or none"
abbrev pub DEGREES_MOST : ℕ
DEGREES_MOST = 127

-- "12 offsets for tables 1 and 2, then 12 for 3 and 4"; 02, Q-6: "Offsets now run from 0 to 63 in both tables."
abbrev pub OFFSET_MOST : ℕ
OFFSET_MOST = 63

-- "2 hystereses, 0 to 15", "boost hysteresis 0 to 15 degrees"
abbrev pub HYSTERESIS_MOST : ℕ
HYSTERESIS_MOST = 15

-- "13 duties, 0 to 256", "2 overrides, 0 to 256 or none; 2 start duties, 0 to 256"
abbrev pub DUTY_MOST : ℕ
DUTY_MOST = 256

-- "2 bindings, 0 to 255", "2 start counts, 0 to 255": all that a byte holds
abbrev pub BYTE_MOST : ℕ
BYTE_MOST = 255
