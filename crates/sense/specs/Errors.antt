-- Document 01, "Errors and ALERT": the error bits of voltages and fans, over the register file, as document 02, Q-12, amends them: "A masked
-- bit is neither set nor counted". Channels and fans count from 0. Assumes nothing.
use Rattle.std.specs.Prelude.{Bool, List, ℕ, ◌+◌, ◌*◌, ◌/◌, ◌%◌, ◌^◌, ltb, get_or, set, Option, Some, None}
use Rattle.std.specs.Int.Bits.{bit_or}
use Rattle.laws.specs.Pick.{pick, either}
use Rattle.map.specs.Names.{B_ERROR_STATUS_2, B_FAN_ERROR_STATUS, H_ERROR_STATUS_2, H_FAN_ERROR_STATUS, AD_IN1_LOW_LIMIT, FAN_TACH_1_LIMIT_LSB}
use Rattle.masks.specs.Masks.{volt_masked, fan_masked}

-- the register file with a bit of register a set
unfoldable pub with_bit : List ℕ → ℕ → ℕ → List ℕ
with_bit file a bit = set file a (bit_or (get_or file a 0) bit)

-- "sets its bit in both groups", in the BMC group's register and in the Host group's, unless it is masked
unfoldable pub marked : Bool → List ℕ → ℕ → ℕ → ℕ → List ℕ
marked masked file bmc host bit = pick masked file (with_bit (with_bit file bmc bit) host bit)

-- "sets the channel's bit (BMC: 41h and 42h, channel 1 at bit 0 of 41h) in the BMC and the Host group"
unfoldable pub marked_volt : List ℕ → ℕ → List ℕ
marked_volt file i = marked (volt_masked file i) file (B_ERROR_STATUS_2 + i / 8) (H_ERROR_STATUS_2 + i / 8) (2 ^ (i % 8))

-- of a fan: 47h and 4Fh
unfoldable pub marked_fan : List ℕ → ℕ → List ℕ
marked_fan file i = marked (fan_masked file i) file B_FAN_ERROR_STATUS H_FAN_ERROR_STATUS (2 ^ i)

-- a voltage's limits
unfoldable pub low_limit : List ℕ → ℕ → ℕ
low_limit file i = get_or file (AD_IN1_LOW_LIMIT + 2 * i) 0

unfoldable pub high_limit : List ℕ → ℕ → ℕ
high_limit file i = get_or file (AD_IN1_LOW_LIMIT + 2 * i + 1) 0

-- "below its low or above its high limit"; "equal is inside"
unfoldable pub is_outside : ℕ → ℕ → ℕ → Bool
is_outside low high n = either (ltb n low) (ltb high n)

-- "A taken voltage below its low or above its high limit sets the channel's bit": document 01's rule, which 02, Q-2, amends (Hysteresis).
-- With VH 0 the amended one is this (InError).
unfoldable pub compared_volt : List ℕ → ℕ → Option ℕ → List ℕ
compared_volt file i None = file
compared_volt file i (Some n) = pick (is_outside (low_limit file i) (high_limit file i) n) (marked_volt file i) file

-- a fan's 14-bit limit: six bits in the low byte's top, eight in the high byte
unfoldable pub fan_limit : ℕ → ℕ → ℕ
fan_limit low high = low / 4 + high * 64

unfoldable pub fan_limit_at : List ℕ → ℕ → ℕ
fan_limit_at file i = fan_limit (get_or file (FAN_TACH_1_LIMIT_LSB + 2 * i) 0) (get_or file (FAN_TACH_1_LIMIT_LSB + 2 * i + 1) 0)

-- "A taken fan count above its 14-bit limit sets its bit in both groups."
unfoldable pub compared_fan : List ℕ → ℕ → Option ℕ → List ℕ
compared_fan file i None = file
compared_fan file i (Some n) = pick (ltb (fan_limit_at file i) n) (marked_fan file i) file

-- the register file after a fan count; one that is not there changes nothing
unfoldable pub fan_file : List ℕ → ℕ → Option ℕ → List ℕ
fan_file file fan n = pick (ltb fan 4) (compared_fan file fan n) file
