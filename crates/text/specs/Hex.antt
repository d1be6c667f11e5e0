-- Document 01, "Lines and refusals": "bus fields as two capital hex digits". Bytes: 48 to 57 are 0 to 9, 65 to 70 are A to F.
-- Assumes nothing.
use Rattle.std.specs.Prelude.{ℕ, ◌+◌, ◌-◌, ◌*◌, Bool, true, false, Option, None, Some, List, eqb, leb, length, get_or}
use Rattle.laws.specs.Pick.{pick, both}
use Rattle.laws.specs.Tab.{tab}
use Rattle.laws.specs.Every.{every}
use Rattle.text.specs.Fields.{field_at}

-- the value of a capital hex digit, and None for any other byte
unfoldable pub nibble_of : ℕ → Option ℕ
nibble_of b = pick (both (leb 48 b) (leb b 57)) (Some (b - 48)) (pick (both (leb 65 b) (leb b 70)) (Some (b - 65 + 10)) None)

-- the byte of two digits, if both are
abbrev pub byte_by : Option ℕ → Option ℕ → Option ℕ
byte_by None low = None
byte_by (Some high) None = None
byte_by (Some high) (Some low) = Some (high * 16 + low)

-- a byte, and None where it is spelled wrong
unfoldable pub hex_byte_of : List ℕ → Option ℕ
hex_byte_of s = pick (eqb (length s) 2) (byte_by (nibble_of (get_or s 0 0)) (nibble_of (get_or s 1 0))) None

-- ---- bus fields one after the other

-- spelled right
unfoldable pub is_hex : Option ℕ → Bool
is_hex None = false
is_hex (Some b) = true

-- the byte, 0 where it is spelled wrong
unfoldable pub hex_value : Option ℕ → ℕ
hex_value None = 0
hex_value (Some b) = b

-- whether n fields from field k on are all spelled right
unfoldable pub hexes_spelt : List ℕ → ℕ → ℕ → Bool
hexes_spelt s k n = every n (λ i. is_hex (hex_byte_of (field_at s (k + i))))

-- their bytes
unfoldable pub hexes_of : List ℕ → ℕ → ℕ → List ℕ
hexes_of s k n = tab (λ i. hex_value (hex_byte_of (field_at s (k + i)))) n
