-- The code reads a line from numbers held to 65535, and hands on what it would of the exact ones. Assumes nothing.
use Rattle.std.specs.Prelude.{◌≡◌, refl, Bool, List, Option, None, Some, ℕ, min, ℤ, pos, neg_ℤ}
use Rattle.std.proofs.Common.{arith}
use Rattle.temperature.specs.declared.Stated.{Stated}
use Rattle.event.specs.declared.Event.{Event}
use Rattle.text.specs.declared.Number.{Number}
use Rattle.text.specs.declared.Number.TheVariants.{Dash, Plus, Minus}
use Rattle.text.specs.Number.{is_spelt, saturated}
use Rattle.text.specs.Saturated.{saturated_spelt}
use Rattle.parse.specs.Parse.{index_of, spelled_stated, count_of, both_of, temperature_line, voltage_line, fan_line, hot_line, pin_by, alone_line, write_by, write_line, read_by, read_line, read_block_by, read_block_line, write_block_by, write_block_line}
use Rattle.parse.specs.Pairs.{pair_line, counted_by}
use Rattle.parse.specs.Clamped.{held, saturated_pair, clamped_index, clamped_signed, clamped_stated, clamped_count, clamped_event, clamped_parsed}

-- ---- numbers

-- as the code finds it: m is the number that it has, t what it says of m
pub spelt_as : (n : Option Number) {m : Option Number} {t u : Bool} → m ≡ saturated n → t ≡ is_spelt m → t ≡ u → is_spelt n ≡ u
spelt_as n p q r = cc (saturated_spelt n)

-- what is spelled right stays so
saturated_some : (n : Number) → saturated (Some n) ≡ Some (held n)
unfolding saturated held
saturated_some n = grind arith

pub index_held : (n : Number) → clamped_index (index_of (held n)) ≡ clamped_index (index_of n)
unfolding index_of held
index_held n = grind arith

pub count_held : (n : Number) → clamped_count (count_of (held n)) ≡ clamped_count (count_of n)
unfolding count_of held
count_held n = grind arith

-- a number below 0 is held to -32767, as one above to 32767
pub clamped_minus : (v : ℕ) → clamped_signed (neg_ℤ (pos v)) ≡ neg_ℤ (pos (min v 32767))
clamped_minus v = grind arith

min_min : (v : ℕ) → min (min v 65535) 32767 ≡ min v 32767
min_min v = omega arith

-- a temperature is held as its count is
pub clamped_counted : (letter : ℕ) (n : ℤ) → clamped_stated (counted_by letter n) ≡ counted_by letter (clamped_signed n)
unfolding counted_by
clamped_counted letter n = grind arith

stated_held : (counted : ℤ → Stated) → ((z : ℤ) → clamped_stated (counted z) ≡ counted (clamped_signed z)) → (n : Number) → clamped_stated (spelled_stated counted (held n)) ≡ clamped_stated (spelled_stated counted n)
unfolding spelled_stated held
stated_held counted c Dash = refl
stated_held counted c (Plus v) = rw (c (pos (min v 65535)), c (pos v), min_min v)
stated_held counted c (Minus v) =
    rw (c (neg_ℤ (pos (min v 65535))), c (neg_ℤ (pos v)), clamped_minus (min v 65535), clamped_minus v, min_min v)

-- ---- lines

-- two numbers make a pair or none
pub both_held : (i v : Option Number) → saturated_pair (both_of i v) ≡ both_of (saturated i) (saturated v)
unfolding saturated_pair saturated
both_held i v = grind (arith, saturated_some)

-- handed on as the same
abbrev SameClamped : Option Event → Option Event → Type 0
SameClamped x y = clamped_parsed x ≡ clamped_parsed y

pub pin_held : (n : Option Number) → SameClamped (pin_by (saturated n)) (pin_by n)
unfolding saturated
pin_held n = grind (arith, saturated_some, count_held)

temperature_held : (counted : ℤ → Stated) → ((z : ℤ) → clamped_stated (counted z) ≡ counted (clamped_signed z)) → (p : Option (Number × Number)) → SameClamped (temperature_line counted (saturated_pair p)) (temperature_line counted p)
unfolding saturated_pair
temperature_held counted c None = refl
temperature_held counted c (Some (i, v)) = rw (index_held i, stated_held counted c v)

voltage_held : (p : Option (Number × Number)) → SameClamped (voltage_line (saturated_pair p)) (voltage_line p)
unfolding saturated_pair
voltage_held p = grind (arith, index_held, count_held)

fan_held : (p : Option (Number × Number)) → SameClamped (fan_line (saturated_pair p)) (fan_line p)
unfolding saturated_pair
fan_held p = grind (arith, index_held, count_held)

hot_held : (p : Option (Number × Number)) → SameClamped (hot_line (saturated_pair p)) (hot_line p)
unfolding saturated_pair
hot_held p = grind (arith, index_held, count_held)

-- what a pair says is handed on as of the exact one
pub pair_held : (letter : ℕ) (p : Option (Number × Number)) → SameClamped (pair_line letter (saturated_pair p)) (pair_line letter p)
unfolding saturated_pair pair_line
pair_held letter p = grind (arith, index_held, count_held, stated_held)

-- as the code finds it: q is the pair that it has
pub pair_read : (letter : ℕ) (p q : Option (Number × Number)) → q ≡ saturated_pair p → clamped_parsed (pair_line letter p) ≡ clamped_parsed (pair_line letter q)
pair_read letter p q e = rw (e, pair_held letter p)

pub pin_read : (n m : Option Number) → m ≡ saturated n → clamped_parsed (pin_by n) ≡ clamped_parsed (pin_by m)
pin_read n m e = rw (e, pin_held n)

-- ---- a letter alone, and bus fields, have no number to hold

abbrev Kept : Option Event → Type 0
Kept p = clamped_parsed p ≡ p

pub alone_clamped : (e : Event) (s : List ℕ) → clamped_event e ≡ e → Kept (alone_line e s)
unfolding alone_line
alone_clamped e s h = grind arith

write_by_clamped : (t : Option (ℕ × ℕ × ℕ)) → Kept (write_by t)
write_by_clamped t = grind arith

read_by_clamped : (t : Option (ℕ × ℕ)) → Kept (read_by t)
read_by_clamped t = grind arith

read_block_by_clamped : (t : Option (ℕ × ℕ)) → Kept (read_block_by t)
read_block_by_clamped t = grind arith

write_block_by_clamped : (t : Option (ℕ × ℕ × ℕ)) (s : List ℕ) → Kept (write_block_by t s)
write_block_by_clamped t s = grind arith

pub write_clamped : (s : List ℕ) → Kept (write_line s)
unfolding write_line
write_clamped s = grind arith

pub read_clamped : (s : List ℕ) → Kept (read_line s)
unfolding read_line
read_clamped s = grind arith

pub read_block_clamped : (s : List ℕ) → Kept (read_block_line s)
unfolding read_block_line
read_block_clamped s = grind arith

pub write_block_clamped : (s : List ℕ) → Kept (write_block_line s)
unfolding write_block_line
write_block_clamped s = grind arith
