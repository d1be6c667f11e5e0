-- Text behind text in a lent buffer, and how long the answers are. Assumes nothing.
use Rattle.std.specs.Prelude.{◌≡◌, refl, Bool, List, [], ◌∷◌, ◌++◌, ℕ, zero, suc, ◌+◌, ◌*◌, ◌^◌, ◌≤◌, ◌<◌, ltb, length, get_or, set, take, drop}
use Rattle.std.proofs.Common.{ap, ◌∙◌, add-zero, zero-add, add-suc, suc-add, arith, length-append, lt-ltb, le-ltb, le-leb}
use Rattle.std.proofs.Math.Logic.{by_cases}
use Rattle.std.proofs.Math.Decide.{dec_le}
use Rattle.std.proofs.lemmas.List.Edits.{sets, sets-eq}
use Rattle.std.proofs.lemmas.Bool.{lt-leb}
use Rattle.laws.specs.Pointwise.{pick_each}
use Rattle.text.specs.Answers.{Wrote, column_text, digits_text, hex_text, ack_text, byte_text, no_byte_text, bytes_text, block_text, tick_text, refusal_text, BLOCK_ROOM, wrote_length, wrote_into}
use Rattle.text.specs.Decimal.{digits_length, digits_fuel}

-- ---- text behind text

-- b written where a ends is a and then b
sets_append : (l : List ℕ) (i : ℕ) (a b : List ℕ) → sets (sets l i a) (i + length a) b ≡ sets l i (a ++ b)
sets_append l i [] b = rw add-zero
sets_append l i (x ∷ a) b = rw (add-suc, ← suc-add) (sets_append (set l i x) (suc i) a b)

-- t was written at `at` and ends at a; then u at a, which ends at b
pub behind : {l₀ l₁ l₂ t u : List ℕ} {at a b : ℕ} → Wrote l₀ at t a l₁ → Wrote l₁ a u b l₂ → Wrote l₀ at (t ++ u) b l₂
behind p q =
    record {
      ends = rw length-append (omega (arith, p.ends, q.ends));
      holds = rw (← sets_append, ← p.ends, ← p.holds) q.holds;
    }

-- the bytes of a block, one after the other
pub bytes_more : (bytes : List ℕ) (k : ℕ) → k < length bytes → bytes_text (take (k + 1) bytes) ≡ bytes_text (take k bytes) ++ hex_text (get_or bytes k 0)
unfolding bytes_text hex_text
bytes_more [] k h = absurd (omega arith)
bytes_more (b ∷ bytes) zero h = refl
bytes_more (b ∷ bytes) (suc k) h = rw suc-add (ap (λ (t : List ℕ). hex_text b ++ t) (bytes_more bytes k (omega arith)))

-- ---- from the start of a buffer

-- one with less than the room stays as it is
pub no_room : (room : ℕ) (t out : List ℕ) → length out < room → (0 ≡ wrote_length room t out) × (out ≡ wrote_into room t out)
unfolding wrote_length wrote_into
no_room room t out h = rw (lt-ltb (length out) room h) (refl, refl)

-- any other takes a text that the room is enough for
pub with_room : (room : ℕ) {t out later : List ℕ} {n : ℕ} → room ≤ length out → length t ≤ room → Wrote out 0 t n later → (n ≡ wrote_length room t out) × (later ≡ wrote_into room t out)
unfolding wrote_length wrote_into
with_room room {t} {out} h l w =
    rw (le-ltb (length out) room h)
    (w.ends ∙ zero-add (length t), w.holds ∙ sets-eq t out 0 (omega arith) ∙ ap (λ (k : ℕ). t ++ drop k out) (zero-add (length t)))

-- the empty text leaves the buffer
pub wrote_none : (room : ℕ) (out : List ℕ) → wrote_into room [] out ≡ out
unfolding wrote_into
wrote_none room out = pick_each (λ (l : List ℕ). l ≡ out) (ltb (length out) room) refl refl

-- and has no length
pub wrote_zero : (room : ℕ) (out : List ℕ) → wrote_length room [] out ≡ 0
unfolding wrote_length
wrote_zero room out = pick_each (λ (n : ℕ). n ≡ 0) (ltb (length out) room) refl refl

-- ---- how long the answers are

-- a tab and at most twenty digits
pub column_length : (n : ℕ) → length (column_text n) ≤ 21
unfolding column_text
column_length n = omega (arith, digits_length 20 n)

-- a tab and at most k digits, for a number that has no more
pub column_fuel : (k n : ℕ) → 0 < k → n < 10 ^ k → k ≤ 20 → column_text n ≡ 9 ∷ digits_text k n
unfolding column_text
column_fuel k n p h l = ap (λ (d : List ℕ). 9 ∷ d) (digits_fuel k 20 n p h l)

-- so at most five of a number below 100,000
pub column_short : (n : ℕ) → n < 100000 → length (column_text n) ≤ 6
column_short n h = rw (column_fuel 5 n (omega arith) h (omega arith)) (omega (arith, digits_length 5 n))

-- the answer to W or P
pub ack_length : (letter : ℕ) (ack : Bool) → length (ack_text letter ack) ≡ 4
unfolding ack_text
ack_length letter ack = refl

-- to R, where it was acknowledged
pub byte_length : (b : ℕ) → length (byte_text b) ≡ 7
unfolding byte_text hex_text
byte_length b = refl

-- and to R or G, where it was not
pub no_byte_length : (letter : ℕ) → length (no_byte_text letter) ≡ 7
unfolding no_byte_text
no_byte_length letter = refl

-- three for each byte of a block
pub bytes_length : (bytes : List ℕ) → length (bytes_text bytes) ≡ 3 * length bytes
unfolding bytes_text hex_text
bytes_length [] = refl
bytes_length (b ∷ bytes) = omega (arith, bytes_length bytes)

-- the answer to G, where that is a block
pub block_some : (bytes : List ℕ) → length bytes ≤ 32 → block_text bytes ≡ 71 ∷ 9 ∷ 49 ∷ (hex_text (length bytes) ++ (bytes_text bytes ++ (10 ∷ [])))
unfolding block_text
block_some bytes h = rw (le-leb (length bytes) 32 h)

-- and where it is none
pub block_none : (bytes : List ℕ) → 32 < length bytes → block_text bytes ≡ []
unfolding block_text
block_none bytes h = rw (lt-leb (length bytes) 32 h)

-- so it fits its room
pub block_length : (bytes : List ℕ) → length (block_text bytes) ≤ BLOCK_ROOM
unfolding hex_text
block_length bytes =
    by_cases (dec_le (length bytes) 32) (λ h. rw (block_some bytes h) (simp length-append (omega (arith, bytes_length bytes))))
    (λ h. rw (block_none bytes (omega arith)) (omega arith))

-- the answer to K, with duties and outputs below 100,000
pub tick_length : (alert : Bool) (duty1 duty2 output1 output2 errors : ℕ) → duty1 < 100000 → duty2 < 100000 → output1 < 100000 → output2 < 100000 → length (tick_text alert duty1 duty2 output1 output2 errors) ≤ 64
unfolding tick_text
tick_length alert d₁ d₂ o₁ o₂ e p q r s =
    simp length-append
    (omega (arith, column_short d₁ p, column_short d₂ q, column_short o₁ r, column_short o₂ s, column_length e))

-- what a refused line prints
pub refusal_length : (number refusal : ℕ) → length (refusal_text number refusal) ≤ 64
unfolding refusal_text
refusal_length n r = simp length-append (omega (arith, column_length n, column_length r))
