-- Document 01, "Errors and ALERT", as document 02, Q-12, amends it: the errors that stand, and ALERT. Zones 1 to 4, channels and fans count
-- from 0. Assumes nothing.
use Rattle.std.specs.Prelude.{Bool, not, List, ℕ, ◌+◌, ◌/◌, ◌%◌, ◌^◌, ltb, get_or}
use Rattle.laws.specs.Count.{count_to}
use Rattle.laws.specs.Pick.{both}
use Rattle.map.specs.Bits.{is_set}
use Rattle.map.specs.Names.{B_ERROR_STATUS_1, B_ERROR_STATUS_2, B_FAN_ERROR_STATUS, CONFIGURATION, GMSK}
use Rattle.masks.specs.Masks.{zone_masked, volt_masked, fan_masked}

-- a bit of the BMC group counts if it stands and is not masked: 02, "A masked bit is neither set nor counted, and one already standing
-- remains until cleared but no longer holds ALERT"
unfoldable pub zone_counts : List ℕ → ℕ → Bool
zone_counts file i = both (is_set (get_or file B_ERROR_STATUS_1 0) (2 ^ i)) (not (zone_masked file i))

unfoldable pub volt_counts : List ℕ → ℕ → Bool
volt_counts file i = both (is_set (get_or file (B_ERROR_STATUS_2 + i / 8) 0) (2 ^ (i % 8))) (not (volt_masked file i))

unfoldable pub fan_counts : List ℕ → ℕ → Bool
fan_counts file i = both (is_set (get_or file B_FAN_ERROR_STATUS 0) (2 ^ i)) (not (fan_masked file i))

-- "The number of errors standing is the number of ones in those bits"; 02: "The error count takes in the zone bits": the sum of the four
-- zone bits of 40h, the sixteen of 41h and 42h and the four fan bits of 47h, each 1 if it counts, 0 to 24
unfoldable pub errors_standing : List ℕ → ℕ
errors_standing file = count_to (zone_counts file) 4 + count_to (volt_counts file) 16 + count_to (fan_counts file) 4

-- "ALERT is active exactly if GMSK is clear and a voltage or fan bit stands in the BMC group.", amended: or a zone bit, and one that is not
-- masked
unfoldable pub alert_active : List ℕ → Bool
alert_active file = both (not (is_set (get_or file CONFIGURATION 0) GMSK)) (ltb 0 (errors_standing file))
