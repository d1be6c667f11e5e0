-- The digits that are written are the number's decimal. Assumes nothing.
use Rattle.std.specs.Prelude.{◌≡◌, refl, Bool, true, false, Some, List, [], ◌∷◌, ◌++◌, ℕ, zero, suc, ◌+◌, ◌-◌, ◌*◌, ◌/◌, ◌%◌, ◌^◌, ◌≤◌, ◌<◌, length, get_or}
use Rattle.std.proofs.Common.{sym, ◌∙◌, pow-suc, le_of_suc-le-suc, sub-one, arith, length-append, lt-ltb, le-ltb}
use Rattle.std.proofs.Math.Logic.{by_cases}
use Rattle.std.proofs.Math.Decide.{dec_lt}
use Rattle.std.proofs.Math.ListN.{get_or-append}
use Rattle.laws.specs.Pick.{both}
use Rattle.text.specs.declared.Number.TheVariants.{Plus}
use Rattle.text.specs.Number.{all_digits, value_of, run_of, plus_of, decimal_of, as_plus}
use Rattle.text.specs.Run.{digit_low, digit_is}
use Rattle.text.specs.Spelling.{plus_one, plus_more, decimal_plus}
use Rattle.text.specs.Answers.{digits_text}

-- ---- the digits, one by one

-- no room, no digits
pub digits_none : (n : ℕ) → digits_text 0 n ≡ []
unfolding digits_text
digits_none n = refl

-- a number below 10 is its digit
pub digits_one : (k n : ℕ) → 0 < k → n < 10 → digits_text k n ≡ (48 + n) ∷ []
unfolding digits_text
digits_one zero n p h = absurd (omega arith)
digits_one (suc k) n p h = rw (digits_text, lt-ltb n 10 h)

-- any other is its tenth, and its last digit
digits_suc : (k n : ℕ) → (n < 10 → ⊥) → digits_text (suc k) n ≡ digits_text k (n / 10) ++ ((48 + n % 10) ∷ [])
unfolding digits_text
digits_suc k n h = rw (digits_text, le-ltb n 10 (omega arith))

-- the same, as the code counts the room
pub digits_more : (k n : ℕ) → 0 < k → 10 ≤ n → digits_text k n ≡ digits_text (k - 1) (n / 10) ++ ((48 + n % 10) ∷ [])
digits_more zero n p h = absurd (omega arith)
digits_more (suc k) n p h = rw sub-one (digits_suc k n (omega arith))

-- at most k of them
pub digits_length : (k n : ℕ) → length (digits_text k n) ≤ k
digits_length zero n = rw digits_none (omega arith)
digits_length (suc k) n =
    by_cases (dec_lt n 10) (λ h. rw (digits_one (suc k) n (omega arith) h) (omega arith))
    (λ h. rw (digits_suc k n h, length-append) (omega (arith, digits_length k (n / 10))))

-- and at least one
digits_some : (k n : ℕ) → 0 < k → 0 < length (digits_text k n)
digits_some k n p =
    by_cases (dec_lt n 10) (λ h. rw (digits_one k n p h) (omega arith))
    (λ h. rw (digits_more k n p (omega arith), length-append) (omega arith))

both_both : (a b c : Bool) → both (both a b) c ≡ both a (both b c)
both_both true b c = refl
both_both false b c = refl

all_append : (s t : List ℕ) → all_digits (s ++ t) ≡ both (all_digits s) (all_digits t)
unfolding all_digits
all_append [] t = refl
all_append (b ∷ s) t = rw (all_append s t, both_both)

all_one : (b : ℕ) → b < 10 → all_digits ((48 + b) ∷ []) ≡ true
unfolding all_digits
all_one b h = rw (digit_is (48 + b) (omega arith) (omega arith))

-- all of them are digits
pub digits_all : (k n : ℕ) → all_digits (digits_text k n) ≡ true
unfolding all_digits
digits_all zero n = rw digits_none
digits_all (suc k) n =
    by_cases (dec_lt n 10) (λ h. rw (digits_one (suc k) n (omega arith) h) (all_one n h))
    (λ h. rw (digits_suc k n h, all_append, digits_all k (n / 10)) (all_one (n % 10) (omega arith)))

-- and so the first is no minus sign, which is 45
first_digit : (s : List ℕ) → 0 < length s → all_digits s ≡ true → 48 ≤ get_or s 0 0
unfolding all_digits
first_digit [] p e = absurd (omega arith)
first_digit (b ∷ s) p e =
    by_cases (dec_lt b 48)
    (λ h. absurd (let f = rw (digit_low b h) at e in let z : ◌≡◌ {A = ℕ} 0 1 = cc in omega arith))
    (λ h. omega arith)

-- ---- a number of at most k digits

-- without its last digit it has one fewer, and there are some left if it is 10 or more
tenth : (k n : ℕ) → n < 10 ^ suc k → n / 10 < 10 ^ k
tenth k n h = let e = pow-suc 10 k in omega arith

fewer : (k n : ℕ) → (n < 10 → ⊥) → n < 10 ^ suc k → 0 < k
fewer zero n p h = absurd (omega (arith, pow-suc 10 0))
fewer (suc k) n p h = omega arith

-- more room writes the same digits. (With no room at all, 0 would have none.)
pub digits_fuel : (k j n : ℕ) → 0 < k → n < 10 ^ k → k ≤ j → digits_text j n ≡ digits_text k n
digits_fuel zero j n p h l = absurd (omega arith)
digits_fuel (suc k) zero n p h l = absurd (omega arith)
digits_fuel (suc k) (suc j) n p h l =
    by_cases (dec_lt n 10) (λ t. digits_one (suc j) n (omega arith) t ∙ sym (digits_one (suc k) n p t))
    (λ t. rw (digits_suc j n t, digits_suc k n t, digits_fuel k j (n / 10) (fewer k n t h) (tenth k n h) (le_of_suc-le-suc l)))

-- digits behind digits
value_append : (v : ℕ) (s t : List ℕ) → value_of v (s ++ t) ≡ value_of (value_of v s) t
unfolding value_of
value_append v [] t = refl
value_append v (b ∷ s) t = value_append (v * 10 + (b - 48)) s t

-- the digits spell the number
pub digits_value : (k n : ℕ) → n < 10 ^ k → value_of 0 (digits_text k n) ≡ n
unfolding value_of
digits_value zero n h = rw digits_none (omega arith)
digits_value (suc k) n h =
    by_cases (dec_lt n 10) (λ t. rw (digits_one (suc k) n (omega arith) t) (omega arith))
    (λ t. rw (digits_suc k n t, value_append, digits_value k (n / 10) (tenth k n h)) (omega arith))

-- the first is no 0, but for the number 0
pub digits_first : (k n : ℕ) → 0 < n → n < 10 ^ k → get_or (digits_text k n) 0 0 ≡ 48 → ⊥
digits_first zero n p h e = absurd (omega arith)
digits_first (suc k) n p h e =
    by_cases (dec_lt n 10) (λ t. let f = rw (digits_one (suc k) n (omega arith) t) at e in omega arith)
    (λ t. digits_first k (n / 10) (omega arith) (tenth k n h) (rw (digits_suc k n t, get_or-append (digits_text k (n / 10)) ((48 + n % 10) ∷ []) 0 0 (digits_some k (n / 10) (fewer k n t h))) at e))

-- ---- a number of at most k digits, and k not 0

module _ (k n : ℕ) (p : 0 < k) (h : n < 10 ^ k) where
  some : length (digits_text k n) ≡ 0 → ⊥
  some e = omega (arith, digits_some k n p)

  unsigned : get_or (digits_text k n) 0 0 ≡ 45 → ⊥
  unsigned e = omega (arith, first_digit (digits_text k n) (digits_some k n p) (digits_all k n))

  spelled : plus_of (digits_text k n) ≡ as_plus (run_of (digits_text k n))
  spelled =
      by_cases (dec_lt n 10) (λ t. plus_one (digits_text k n) some (rw (digits_one k n p t) (omega arith)))
      (λ t. plus_more (digits_text k n) some (digits_first k n (omega arith) h))

  run : as_plus (run_of (digits_text k n)) ≡ Some (Plus n)
  unfolding run_of
  run = rw (digits_all k n, digits_value k n h)

  -- a decimal field reads the digits as the number
  pub decimal_digits : decimal_of (digits_text k n) ≡ Some (Plus n)
  decimal_digits = decimal_plus (digits_text k n) some unsigned ∙ spelled ∙ run
