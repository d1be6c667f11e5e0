-- Worked cases of spelling and of answers, from document 01, and answers to G and P. Assumes nothing.
use Rattle.std.specs.Prelude.{◌≡◌, refl, true, false, None, Some, [], ◌∷◌}
use Rattle.text.specs.declared.Number.TheVariants as number
use Rattle.text.specs.Fields.{first_field, other_fields, fields_of}
use Rattle.text.specs.Number.{is_digit, all_digits, value_of, run_of, plus_of, minus_of, decimal_of, saturated}
use Rattle.text.specs.Hex.{nibble_of, hex_byte_of}
use Rattle.text.specs.Answers.{digits_text, column_text, hex_digit, hex_text, digit_of, ack_text, byte_text, no_byte_text, bytes_text, block_text, tick_text, refusal_text}

-- "0", "70", "-254", "-", "65536"; wrong: "", "-0", "+1", "07", "1 ", "--1"
pub decimals : (decimal_of (48 ∷ []) ≡ Some (number.Plus 0)) × (decimal_of (55 ∷ 48 ∷ []) ≡ Some (number.Plus 70)) × (decimal_of (45 ∷ 50 ∷ 53 ∷ 52 ∷ []) ≡ Some (number.Minus 254)) × (decimal_of (45 ∷ []) ≡ Some number.Dash) × (decimal_of (54 ∷ 53 ∷ 53 ∷ 51 ∷ 54 ∷ []) ≡ Some (number.Plus 65536)) × (saturated (decimal_of (54 ∷ 53 ∷ 53 ∷ 51 ∷ 54 ∷ [])) ≡ Some (number.Plus 65535)) × (decimal_of [] ≡ None) × (decimal_of (45 ∷ 48 ∷ []) ≡ None) × (decimal_of (43 ∷ 49 ∷ []) ≡ None) × (decimal_of (48 ∷ 55 ∷ []) ≡ None) × (decimal_of (49 ∷ 32 ∷ []) ≡ None) × (decimal_of (45 ∷ 45 ∷ 49 ∷ []) ≡ None)
unfolding decimal_of plus_of minus_of run_of all_digits is_digit value_of saturated
decimals = (refl, refl, refl, refl, refl, refl, refl, refl, refl, refl, refl, refl)

-- "2C" is a byte; "2c", "C", "-", "-0", "02C" are not
pub bytes : (hex_byte_of (50 ∷ 67 ∷ []) ≡ Some 0x2C) × (hex_byte_of (50 ∷ 99 ∷ []) ≡ None) × (hex_byte_of (67 ∷ []) ≡ None) × (hex_byte_of (45 ∷ []) ≡ None) × (hex_byte_of (45 ∷ 48 ∷ []) ≡ None) × (hex_byte_of (48 ∷ 50 ∷ 67 ∷ []) ≡ None)
unfolding hex_byte_of nibble_of
bytes = (refl, refl, refl, refl, refl, refl)

-- "T\t1\t70" has three fields, "\t" two empty ones, and the empty line one
pub fields : (fields_of (84 ∷ 9 ∷ 49 ∷ 9 ∷ 55 ∷ 48 ∷ []) ≡ (84 ∷ []) ∷ (49 ∷ []) ∷ (55 ∷ 48 ∷ []) ∷ []) × (fields_of (9 ∷ []) ≡ [] ∷ [] ∷ []) × (fields_of [] ≡ [] ∷ [])
unfolding fields_of first_field other_fields
fields = (refl, refl, refl)

-- "K\t0\t96\t80\t128\t128\t0\n", "W\t1\n", "R\t1\t21\n", "R\t0\t--\n", "E\t12\t2\n"
pub answers : (tick_text false 96 80 128 128 0 ≡ 75 ∷ 9 ∷ 48 ∷ 9 ∷ 57 ∷ 54 ∷ 9 ∷ 56 ∷ 48 ∷ 9 ∷ 49 ∷ 50 ∷ 56 ∷ 9 ∷ 49 ∷ 50 ∷ 56 ∷ 9 ∷ 48 ∷ 10 ∷ []) × (ack_text 87 true ≡ 87 ∷ 9 ∷ 49 ∷ 10 ∷ []) × (byte_text 0x21 ≡ 82 ∷ 9 ∷ 49 ∷ 9 ∷ 50 ∷ 49 ∷ 10 ∷ []) × (no_byte_text 82 ≡ 82 ∷ 9 ∷ 48 ∷ 9 ∷ 45 ∷ 45 ∷ 10 ∷ []) × (refusal_text 12 2 ≡ 69 ∷ 9 ∷ 49 ∷ 50 ∷ 9 ∷ 50 ∷ 10 ∷ [])
unfolding tick_text ack_text byte_text no_byte_text refusal_text column_text digits_text hex_text hex_digit digit_of
answers = (refl, refl, refl, refl, refl)

-- "P\t0\n", "G\t0\t--\n"; the block 17h, 00h, FCh, 80h is "G\t1\t04\t17\t00\tFC\t80\n", the empty one "G\t1\t00\n"
pub blocks : (ack_text 80 false ≡ 80 ∷ 9 ∷ 48 ∷ 10 ∷ []) × (no_byte_text 71 ≡ 71 ∷ 9 ∷ 48 ∷ 9 ∷ 45 ∷ 45 ∷ 10 ∷ []) × (block_text (0x17 ∷ 0x00 ∷ 0xFC ∷ 0x80 ∷ []) ≡ 71 ∷ 9 ∷ 49 ∷ 9 ∷ 48 ∷ 52 ∷ 9 ∷ 49 ∷ 55 ∷ 9 ∷ 48 ∷ 48 ∷ 9 ∷ 70 ∷ 67 ∷ 9 ∷ 56 ∷ 48 ∷ 10 ∷ []) × (block_text [] ≡ 71 ∷ 9 ∷ 49 ∷ 9 ∷ 48 ∷ 48 ∷ 10 ∷ [])
unfolding ack_text no_byte_text block_text bytes_text hex_text hex_digit digit_of
blocks = (refl, refl, refl, refl)
