-- Document 02, Q-12: "A masked bit is neither set nor counted": a mark that sets no new bit, and a count and an ALERT that do not depend on
-- what is masked. Assumes nothing.
use Rattle.std.specs.Prelude.{◌≡◌, Bool, List, ℕ, ◌+◌, ◌/◌, ◌%◌, ◌^◌, ◌<◌, get_or}
use Rattle.std.proofs.Math.Path.{refl}
use Rattle.std.proofs.Math.Bool.{true, false}
use Rattle.std.specs.Int.Bits.{bit_or}
use Rattle.std.proofs.Math.Dec.{T}
use Rattle.laws.specs.Binary.{or_other}
use Rattle.laws.specs.Never.{never}
use Rattle.laws.specs.Store.{set_cases}
use Rattle.map.specs.Bits.{is_set}
use Rattle.map.specs.Names.{B_ERROR_STATUS_1, B_ERROR_STATUS_2, B_FAN_ERROR_STATUS, CONFIGURATION}
use Rattle.masks.specs.Masks.{volt_masked, fan_masked, zone_masked}
use Rattle.masks.specs.Table.{SameMasks}
use Rattle.sense.specs.Errors.{with_bit, marked}

-- ---- not set

-- bit k of register a stands in next only if it stood in file
pub record NoNew (a k : ℕ) (file next : List ℕ) : Type 0 where
  pub stood : T (is_set (get_or next a 0) (2 ^ k)) → T (is_set (get_or file a 0) (2 ^ k))

module _ {a k : ℕ} where
  pub none_same : {file next : List ℕ} → get_or next a 0 ≡ get_or file a 0 → NoNew a k file next
  none_same e = record { stood = rw e (λ t. t) }

  pub none_then : {file next last : List ℕ} → NoNew a k file next → NoNew a k next last → NoNew a k file last
  none_then p q = record { stood = λ t. p.stood (q.stood t) }

  -- a bit of another place is set
  bit_none : (file : List ℕ) (b j : ℕ) → (b ≡ a → j ≡ k → ⊥) → NoNew a k file (with_bit file b (2 ^ j))
  unfolding with_bit is_set
  bit_none file b j other = record {
    stood = set_cases (λ (x : ℕ). T (is_set x (2 ^ k)) → T (is_set (get_or file a 0) (2 ^ k))) file b a (bit_or (get_or file b 0) (2 ^ j)) 0 (λ t. t)
        (λ e. rw (or_other (get_or file b 0) j k (other e), e) (λ t. t));
  }

  -- an error bit, if where it is this one it is masked
  pub marked_none : (masked : Bool) (file : List ℕ) (b h j : ℕ) → (b ≡ a → j ≡ k → masked ≡ true) → (h ≡ a → j ≡ k → masked ≡ true) → NoNew a k file (marked masked file b h (2 ^ j))
  unfolding marked
  marked_none true file b h j p q = none_same refl
  marked_none false file b h j p q =
      none_then (bit_none file b j (λ e f. let r = p e f in never (cc))) (bit_none (with_bit file b (2 ^ j)) h j (λ e f. let r = q e f in never (cc)))

-- ---- not counted

-- of two register files the masks and E3h are the same, and so are the bits of the BMC group that are not masked
pub record SameUnmasked (f g : List ℕ) : Type 0 where
  pub masks : SameMasks f g
  pub configuration : get_or f CONFIGURATION 0 ≡ get_or g CONFIGURATION 0
  pub volts : (i : ℕ) → i < 16 → volt_masked f i ≡ false → is_set (get_or f (B_ERROR_STATUS_2 + i / 8) 0) (2 ^ (i % 8)) ≡ is_set (get_or g (B_ERROR_STATUS_2 + i / 8) 0) (2 ^ (i % 8))
  pub fans : (i : ℕ) → i < 4 → fan_masked f i ≡ false → is_set (get_or f B_FAN_ERROR_STATUS 0) (2 ^ i) ≡ is_set (get_or g B_FAN_ERROR_STATUS 0) (2 ^ i)
  pub zones : (i : ℕ) → i < 4 → zone_masked f i ≡ false → is_set (get_or f B_ERROR_STATUS_1 0) (2 ^ i) ≡ is_set (get_or g B_ERROR_STATUS_1 0) (2 ^ i)
