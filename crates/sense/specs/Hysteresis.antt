-- Document 02, Q-2, "Voltage hysteresis as the chip has it", which amends document 01's "VH of BCh is stored and not used": when a voltage
-- channel is in error, and the bit that a reading then sets. Channels count from 0. Assumes nothing.
use Rattle.std.specs.Prelude.{Bool, not, List, ℕ, ◌+◌, eqb, leb, ltb, get_or, Option, Some, None}
use Rattle.std.specs.Int.Bits.{bit_and}
use Rattle.laws.specs.Pick.{pick, both, either}
use Rattle.map.specs.Names.{SPECIAL_FUNCTION_CONTROL_1, VH}
use Rattle.sense.specs.Errors.{marked_volt, low_limit, high_limit, is_outside}

-- VH: bits 2 to 0 of BCh
unfoldable pub hysteresis_of : List ℕ → ℕ
hysteresis_of file = bit_and (get_or file SPECIAL_FUNCTION_CONTROL_1 0) VH

-- by how much VH moves a limit: "A low limit of 00h and a high limit of FFh are not moved", each by itself
unfoldable pub low_move : ℕ → ℕ → ℕ
low_move low vh = pick (eqb low 0x00) 0 vh

unfoldable pub high_move : ℕ → ℕ → ℕ
high_move high vh = pick (eqb high 0xFF) 0 vh

-- "at least low plus VH and at most high minus VH", of plain numbers. The sum may be above 255. The difference may be below 0, so it is said
-- as a sum: n plus what is taken away is at most high.
unfoldable pub ends_error : ℕ → ℕ → ℕ → ℕ → Bool
ends_error low high vh n = both (leb (low + low_move low vh) n) (leb (n + high_move high vh) high)

-- "a channel is in error from a taken reading outside its limits until one that is at least low plus VH and at most high minus VH": whether
-- it is after a reading of n, from whether it was before. In between it is as it was.
unfoldable pub erring_on : ℕ → ℕ → ℕ → Bool → ℕ → Bool
erring_on low high vh before n = either (is_outside low high n) (both before (not (ends_error low high vh n)))

-- with the limits and VH as they stand at the reading; "Missing readings neither start nor end it."
unfoldable pub erring_after : List ℕ → ℕ → Bool → Option ℕ → Bool
erring_after file i before None = before
erring_after file i before (Some n) = erring_on (low_limit file i) (high_limit file i) (hysteresis_of file) before n

-- "each taken reading in between sets the bit again": a taken reading that leaves the channel in error sets its bit in both groups
unfoldable pub erred_volt : List ℕ → ℕ → Bool → Option ℕ → List ℕ
erred_volt file i before None = file
erred_volt file i before (Some n) = pick (erring_after file i before (Some n)) (marked_volt file i) file

-- the register file after a voltage, and whether its channel is in error; one that is not there changes nothing
unfoldable pub voltage_file : List ℕ → ℕ → Bool → Option ℕ → List ℕ
voltage_file file channel before n = pick (ltb channel 16) (erred_volt file channel before n) file

unfoldable pub voltage_erring : List ℕ → ℕ → Bool → Option ℕ → Bool
voltage_erring file channel before n = pick (ltb channel 16) (erring_after file channel before n) before
