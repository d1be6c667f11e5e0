-- Document 01, "Lines and refusals", and document 02, Q-1: the text of the answers. Bytes: 9 is the tab, 10 the line feed, 45 the minus
-- sign, 48 to 57 the digits, 65 to 70 A to F, 69 E, 71 G, 75 K, 82 R. Assumes nothing.
use Rattle.std.specs.Prelude.{◌≡◌, Bool, List, [], ◌∷◌, ◌++◌, ℕ, zero, suc, ◌+◌, ◌-◌, ◌/◌, ◌%◌, ◌≤◌, leb, ltb, length, drop}
use Rattle.std.proofs.lemmas.List.Edits.{sets}
use Rattle.laws.specs.Pick.{pick}
use Rattle.text.specs.declared.Output.{Output}

-- n in decimal without leading zeros, where it has at most k digits
unfoldable pub digits_text : ℕ → ℕ → List ℕ
digits_text zero n = []
digits_text (suc k) n = pick (ltb n 10) ((48 + n) ∷ []) (digits_text k (n / 10) ++ ((48 + n % 10) ∷ []))

-- a tab and a number; twenty digits are enough for any
unfoldable pub column_text : ℕ → List ℕ
column_text n = 9 ∷ digits_text 20 n

unfoldable pub hex_digit : ℕ → ℕ
hex_digit d = pick (ltb d 10) (48 + d) (65 + (d - 10))

-- a tab and a byte as two capital hex digits
unfoldable pub hex_text : ℕ → List ℕ
hex_text b = 9 ∷ hex_digit (b / 16) ∷ hex_digit (b % 16) ∷ []

-- 1 or 0
unfoldable pub digit_of : Bool → ℕ
digit_of on = pick on 49 48

-- "W prints ack (1 or 0)"; 02: "P prints ack"
unfoldable pub ack_text : ℕ → Bool → List ℕ
ack_text letter ack = letter ∷ 9 ∷ digit_of ack ∷ 10 ∷ []

-- "R prints ack and the byte, or `--`"
unfoldable pub byte_text : ℕ → List ℕ
byte_text b = 82 ∷ 9 ∷ 49 ∷ (hex_text b ++ (10 ∷ []))

-- 02: G prints "0 and `--`"
unfoldable pub no_byte_text : ℕ → List ℕ
no_byte_text letter = letter ∷ 9 ∷ 48 ∷ 9 ∷ 45 ∷ 45 ∷ 10 ∷ []

-- a tab before each byte
unfoldable pub bytes_text : List ℕ → List ℕ
bytes_text [] = []
bytes_text (b ∷ bytes) = hex_text b ++ bytes_text bytes

-- 02: "a count byte, then the data", "G prints ack, count and bytes as hex fields". A block has at most 32 bytes; more are no block, and of those there is no text
unfoldable pub block_text : List ℕ → List ℕ
block_text bytes =
    pick (leb (length bytes) 32) (71 ∷ 9 ∷ 49 ∷ (hex_text (length bytes) ++ (bytes_text bytes ++ (10 ∷ [])))) []

-- "K prints alert, duty 1, duty 2, output 1, output 2, errors"
unfoldable pub tick_text : Bool → ℕ → ℕ → ℕ → ℕ → ℕ → List ℕ
tick_text alert duty1 duty2 output1 output2 errors =
    75 ∷ 9 ∷ digit_of alert
    ∷ (column_text duty1 ++ (column_text duty2 ++ (column_text output1 ++ (column_text output2 ++ (column_text errors ++ (10 ∷ []))))))

-- "a refused line prints E, its line number from 1, the refusal"
unfoldable pub refusal_text : ℕ → ℕ → List ℕ
refusal_text number refusal = 69 ∷ (column_text number ++ (column_text refusal ++ (10 ∷ [])))

-- ---- into a lent buffer: one that has less than the room for such a text stays as it is

-- "the lent output has under 64 bytes"; 02: "for a line that begins with G, an output under 128 bytes"
abbrev pub ROOM : ℕ
ROOM = 64

abbrev pub BLOCK_ROOM : ℕ
BLOCK_ROOM = 128

unfoldable pub wrote_length : ℕ → List ℕ → List ℕ → ℕ
wrote_length room text out = pick (ltb (length out) room) 0 (length text)

-- the text at the start of the buffer; the bytes behind stay
unfoldable pub wrote_into : ℕ → List ℕ → List ℕ → List ℕ
wrote_into room text out = pick (ltb (length out) room) out (text ++ drop (length text) out)

-- `after` is `before` with text written from `at` on, where it ends at `next`; the bytes around it are as they were
pub record Wrote (before : List ℕ) (at : ℕ) (text : List ℕ) (next : ℕ) (after : List ℕ) : Type 0 where
  pub ends : next ≡ at + length text
  pub holds : after ≡ sets before at text

-- ---- a lent buffer, and how much of it is written

-- n more bytes fit
abbrev pub HasRoom : Output → ℕ → Type 0
HasRoom output n = output.written + n ≤ length output.out.now

-- `after` is `before` with text behind what was written, in the same buffer
pub record Writes (before : Output) (text : List ℕ) (after : Output) : Type 0 where
  pub same : after.out.ghost_name ≡ before.out.ghost_name
  pub whole : length after.out.now ≡ length before.out.now
  pub wrote : Wrote before.out.now before.written text after.written after.out.now
