-- The machine's count of ones, of bytes from which the masked bits are taken, is the definition's sum. Assumes nothing.
use Rattle.std.specs.Prelude.{◌≡◌, Bool, not, List, ℕ, ◌+◌, ◌-◌, ◌*◌, ◌/◌, ◌%◌, ◌^◌, ◌<◌, ◌≤◌, get_or}
use Rattle.std.proofs.Math.Path.{sym, ap}
use Rattle.std.proofs.Common.{◌∙◌, mod-lt}
use native.Mathlib.Omega.{arith}
use Rattle.std.specs.Int.Bits.{bit_and}
use Rattle.std.specs.Int.Count.{ones}
use Rattle.std.proofs.lemmas.Nat.{ones_cat}
use Rattle.laws.specs.Binary.{has_digit, mod_digit, without_digit, digits_lt, ones_count}
use Rattle.laws.specs.Count.{count_to, count_same, count_split}
use Rattle.laws.specs.Pick.{both}
use Rattle.map.specs.Bits.{is_set}
use Rattle.map.specs.Names.{B_ERROR_STATUS_1, B_ERROR_STATUS_2, B_ERROR_STATUS_3, B_FAN_ERROR_STATUS}
use Rattle.masks.specs.Masks.{zone_masked, volt_masked, fan_masked, zone_masks, volt_masks, fan_masks}
use Rattle.masks.specs.Table.{group_bit, fan_bit, zone_bit}
use Rattle.sense.specs.Standing.{zone_counts, volt_counts, fan_counts, errors_standing}

-- ---- the ones of two bytes and the low halves of two more, put side by side

low_half : (x : ℕ) → ones (x % 16) ≡ count_to (has_digit x) 4
low_half x = ones_count 4 (x % 16) (mod-lt x (omega arith)) ∙ count_same (has_digit (x % 16)) (has_digit x) 4 (λ k l. mod_digit x 4 k l)

pub ones_four : (l h f z : ℕ) → l < 2 ^ 8 → h < 2 ^ 8 → ones (((z % 16 * 16 + f % 16) * 256 + h) * 256 + l) ≡ count_to (has_digit l) 8 + count_to (has_digit h) 8 + count_to (has_digit f) 4 + count_to (has_digit z) 4
ones_four l h f z pl ph =
    let a = ones_cat 8 ((z % 16 * 16 + f % 16) * 256 + h) l pl in
    let b = ones_cat 8 (z % 16 * 16 + f % 16) h ph in
    let c = ones_cat 4 (z % 16) (f % 16) (mod-lt f (omega arith)) in
    omega (arith, ones_count 8 l pl, ones_count 8 h ph, low_half f, low_half z)

-- ---- less what is masked

-- of a byte and its masks, up to bit n
unmasked_counts : (b m n : ℕ) (p : ℕ → Bool) → m < 256 → n ≤ 8 → ((k : ℕ) → k < n → is_set m (2 ^ k) ≡ p k) → count_to (has_digit (bit_and b (255 - m))) n ≡ count_to (λ k. both (is_set b (2 ^ k)) (not (p k))) n
unfolding is_set
unmasked_counts b m n p l h same =
    count_same (has_digit (bit_and b (255 - m))) (λ k. both (is_set b (2 ^ k)) (not (p k))) n (λ k q. without_digit 8 b m k l (omega arith) ∙ rw (same k q))

module _ (file : List ℕ) where
  -- bit k of a group of voltages
  group_counts : (group k : ℕ) → k < 8 → volt_counts file (group * 8 + k) ≡ both (is_set (get_or file (B_ERROR_STATUS_2 + group) 0) (2 ^ k)) (not (volt_masked file (group * 8 + k)))
  unfolding volt_counts
  group_counts group k l =
      let q : (group * 8 + k) / 8 ≡ group = omega arith in
      let r : (group * 8 + k) % 8 ≡ k = omega arith in
      rw (q, r)

  group_ones : (group : ℕ) → count_to (has_digit (bit_and (get_or file (B_ERROR_STATUS_2 + group) 0) (255 - volt_masks file group))) 8 ≡ count_to (λ k. volt_counts file (group * 8 + k)) 8
  unfolding volt_masks
  group_ones group =
      unmasked_counts (get_or file (B_ERROR_STATUS_2 + group) 0) (volt_masks file group) 8 (λ k. volt_masked file (group * 8 + k)) (digits_lt _ 8) (omega arith) (group_bit file group)
      ∙ count_same _ _ 8 (λ k l. sym (group_counts group k l))

  -- the definition's sum, byte by byte
  pub errors_are : count_to (has_digit (bit_and (get_or file B_ERROR_STATUS_2 0) (255 - volt_masks file 0))) 8 + count_to (has_digit (bit_and (get_or file B_ERROR_STATUS_3 0) (255 - volt_masks file 1))) 8 + count_to (has_digit (bit_and (get_or file B_FAN_ERROR_STATUS 0) (255 - fan_masks file))) 4 + count_to (has_digit (bit_and (get_or file B_ERROR_STATUS_1 0) (255 - zone_masks file))) 4 ≡ errors_standing file
  unfolding errors_standing fan_masks zone_masks fan_counts zone_counts
  errors_are =
      let fans = unmasked_counts (get_or file B_FAN_ERROR_STATUS 0) (fan_masks file) 4 (fan_masked file) (omega (arith, digits_lt (λ k. fan_masked file k) 4)) (omega arith) (fan_bit file) in
      let zones = unmasked_counts (get_or file B_ERROR_STATUS_1 0) (zone_masks file) 4 (zone_masked file) (omega (arith, digits_lt (λ k. zone_masked file k) 4)) (omega arith) (zone_bit file) in
      let first = count_same (λ k. volt_counts file (0 * 8 + k)) (volt_counts file) 8 (λ k l. ap (volt_counts file) {x = 0 * 8 + k} {y = k} (omega arith)) in
      omega (arith, group_ones 0, group_ones 1, count_split (volt_counts file) 8 8)
