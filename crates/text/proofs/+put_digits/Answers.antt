-- The digits are those of the number, each behind the one before.
use Rattle.std.proofs.Common.{◌≡◌, ℕ, ◌/◌, ◌%◌, ◌<◌, ◌+◌, ◌≤◌, ◌^◌, [], ◌∷◌, ◌++◌, length, length-append, ◌∙◌, arith}
use Rattle.text.specs.Answers.{digits_text}
use Rattle.text.specs.Decimal.{digits_one, digits_more, digits_fuel}
use Rattle.text.specs.Written.{behind}
use Rattle.text.proofs.+put_digits.Goals as goal

-- the last digit stands behind those of the tenth
last : (n : ℕ) → n < 2 ^ 64 → 10 ≤ n → digits_text 20 n ≡ digits_text 20 (n / 10) ++ ((48 + n % 10) ∷ [])
last n w h =
    let f : digits_text 20 (n / 10) ≡ digits_text 19 (n / 10) = digits_fuel 19 20 (n / 10) (omega arith) (omega arith) (omega arith) in
    digits_more 20 n (omega arith) h ∙ rw f

last_length : (n : ℕ) → n < 2 ^ 64 → 10 ≤ n → length (digits_text 20 n) ≡ length (digits_text 20 (n / 10)) + 1
last_length n w h = rw (last n w h) (length-append (digits_text 20 (n / 10)) ((48 + n % 10) ∷ []))

one_length : (n : ℕ) → n < 10 → length (digits_text 20 n) ≡ 1
one_length n h = rw (digits_one 20 n (omega arith) h)

pub put_digits-last-requires : goal.put_digits-last-requires
put_digits-last-requires t c = (omega arith, omega (arith, last_length c.args.n (omega arith) c.if-n-lt10.false))

pub put-requires : goal.put-requires
put-requires t c = omega (arith, one_length c.args.n c.if-n-lt10.true)

pub put-requires-2 : goal.put-requires-2
put-requires-2 t c =
    let d = c.put_digits-last in
    omega (arith, d.ensures.ends, d.auto.out, last_length c.args.n (omega arith) c.if-n-lt10.false)

pub returns-then-n-lt10 : goal.returns-then-n-lt10
returns-then-n-lt10 t c = rw (digits_one 20 c.args.n (omega arith) c.if-n-lt10.true) c.put.ensures

pub returns : goal.returns
returns t c = rw (last c.args.n (omega arith) c.if-n-lt10.false) (behind c.put_digits-last.ensures c.put-2.ensures)
