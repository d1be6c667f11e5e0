-- The registers, block commands and bits that definitions speak of, by their names in source document 000 (crates/map/src has them all).
-- Assumes nothing.
use Rattle.std.specs.Prelude.{ℕ}

-- ---- registers

abbrev pub TEMPERATURE_SOURCE_SELECT : ℕ
TEMPERATURE_SOURCE_SELECT = 0x31

abbrev pub FAN_CONTROL_BINDINGS : ℕ
FAN_CONTROL_BINDINGS = 0x35

abbrev pub B_ERROR_STATUS_1 : ℕ
B_ERROR_STATUS_1 = 0x40

abbrev pub B_ERROR_STATUS_2 : ℕ
B_ERROR_STATUS_2 = 0x41

abbrev pub B_ERROR_STATUS_3 : ℕ
B_ERROR_STATUS_3 = 0x42

abbrev pub B_FAN_ERROR_STATUS : ℕ
B_FAN_ERROR_STATUS = 0x47

abbrev pub H_ERROR_STATUS_1 : ℕ
H_ERROR_STATUS_1 = 0x48

abbrev pub H_ERROR_STATUS_2 : ℕ
H_ERROR_STATUS_2 = 0x49

abbrev pub H_FAN_ERROR_STATUS : ℕ
H_FAN_ERROR_STATUS = 0x4F

abbrev pub FAN_TACH_1_LSB : ℕ
FAN_TACH_1_LSB = 0x6E

abbrev pub FAN_TACH_1_MSB : ℕ
FAN_TACH_1_MSB = 0x6F

abbrev pub ZONE_1_LOW_TEMP : ℕ
ZONE_1_LOW_TEMP = 0x78

abbrev pub AD_IN1_LOW_LIMIT : ℕ
AD_IN1_LOW_LIMIT = 0x90

abbrev pub FAN_TACH_1_LIMIT_LSB : ℕ
FAN_TACH_1_LIMIT_LSB = 0xB4

abbrev pub SPECIAL_FUNCTION_CONTROL_1 : ℕ
SPECIAL_FUNCTION_CONTROL_1 = 0xBC

abbrev pub SPECIAL_FUNCTION_CONTROL_2 : ℕ
SPECIAL_FUNCTION_CONTROL_2 = 0xBD

abbrev pub PWM_RAMP_CONTROL : ℕ
PWM_RAMP_CONTROL = 0xBF

abbrev pub CONFIGURATION : ℕ
CONFIGURATION = 0xE3

abbrev pub SLEEP_STATE_CONTROL : ℕ
SLEEP_STATE_CONTROL = 0xE4

abbrev pub S1_FAN_MASK : ℕ
S1_FAN_MASK = 0xE6

abbrev pub S3_FAN_MASK : ℕ
S3_FAN_MASK = 0xE8

abbrev pub S3_TEMPERATURE_VOLTAGE_MASK : ℕ
S3_TEMPERATURE_VOLTAGE_MASK = 0xE9

abbrev pub S4_5_TEMPERATURE_VOLTAGE_MASK : ℕ
S4_5_TEMPERATURE_VOLTAGE_MASK = 0xEB

-- ---- block commands: the first, the second and the last of the twelve fixed blocks

abbrev pub FIXED_BLOCK_0 : ℕ
FIXED_BLOCK_0 = 0xF2

abbrev pub FIXED_BLOCK_1 : ℕ
FIXED_BLOCK_1 = 0xF3

abbrev pub FIXED_BLOCK_11 : ℕ
FIXED_BLOCK_11 = 0xFD

-- ---- bits

-- of 31h
abbrev pub INT_AD11 : ℕ
INT_AD11 = 0x01

abbrev pub EXT_AD15 : ℕ
EXT_AD15 = 0x02

abbrev pub Z1BE : ℕ
Z1BE = 0x04

abbrev pub Z2BE : ℕ
Z2BE = 0x08

abbrev pub INT_WR_E : ℕ
INT_WR_E = 0x10

-- of 35h
abbrev pub LUT1_Z1 : ℕ
LUT1_Z1 = 0x10

abbrev pub LUT2_Z2 : ℕ
LUT2_Z2 = 0x20

abbrev pub LUT3_Z1 : ℕ
LUT3_Z1 = 0x40

abbrev pub LUT4_Z2 : ℕ
LUT4_Z2 = 0x80

-- of BCh: the voltage hysteresis, bits 2 to 0
abbrev pub VH : ℕ
VH = 0x07

-- of BDh
abbrev pub LT12_RS : ℕ
LT12_RS = 0x10

abbrev pub LT34_RS : ℕ
LT34_RS = 0x20

-- of E3h
abbrev pub LOCK : ℕ
LOCK = 0x02

abbrev pub GMSK : ℕ
GMSK = 0x04

-- of E4h: the field of the sleep state, and S4/S5 in it
abbrev pub SB : ℕ
SB = 0x03

abbrev pub S4_5 : ℕ
S4_5 = 0x03

-- of E9h and EBh: zones 1 and 2
abbrev pub TEMP_MSK : ℕ
TEMP_MSK = 0x08

-- of 10h, 12h, 14h, 16h, 20h and 22h: the half bit
abbrev pub HALF : ℕ
HALF = 0x80
