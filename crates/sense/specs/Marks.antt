-- What setting error bits does to the register file: bits that stand stay, and no register but an error status register changes.
-- Assumes nothing.
use Rattle.std.specs.Prelude.{◌≡◌, refl, Bool, List, ℕ, ◌+◌, ◌/◌, ◌%◌, ◌^◌, ◌≤◌, ◌<◌, T, length, get_or}
use Rattle.std.proofs.Common.{sym, subst, ◌∙◌, length-set, get_or-set_same, get_or-set_other}
use Rattle.std.proofs.Math.Bool.{true, false}
use Rattle.std.specs.Int.Bits.{bit_or}
use Rattle.laws.specs.Pick.{pick}
use Rattle.laws.specs.Store.{set_cases}
use Rattle.map.specs.Bits.{is_set}
use Rattle.map.specs.Names.{B_ERROR_STATUS_1, B_ERROR_STATUS_2, B_FAN_ERROR_STATUS, H_ERROR_STATUS_1, H_ERROR_STATUS_2, H_FAN_ERROR_STATUS}
use Rattle.sense.specs.Errors.{with_bit}
use Rattle.sense.specs.ZoneLimits.{zone_number}
use Rattle.sense.specs.IsSet.{set_new, set_stays}

-- an error status register: 40h to 4Fh
pub record Status (a : ℕ) : Type 0 where
  pub low : B_ERROR_STATUS_1 ≤ a
  pub high : a ≤ H_FAN_ERROR_STATUS

-- what marks leave of the file: its length, every other register, and each bit that stands
pub record Marks (file next : List ℕ) : Type 0 where
  pub long : length next ≡ length file
  pub other : (a : ℕ) → (Status a → ⊥) → get_or next a 0 ≡ get_or file a 0
  pub stays : (a bit : ℕ) → T (is_set (get_or file a 0) bit) → T (is_set (get_or next a 0) bit)

-- no mark, and marks after marks
pub marks_none : (file : List ℕ) → Marks file file
marks_none file = record { long = refl; other = λ a n. refl; stays = λ a bit t. t }

pub marks_then : {file next last : List ℕ} → Marks file next → Marks next last → Marks file last
marks_then m n = record {
  long = n.long ∙ m.long;
  other = λ a o. n.other a o ∙ m.other a o;
  stays = λ a bit t. n.stays a bit (m.stays a bit t);
}

-- a mark, if a test says so
pub marks_if : {file next : List ℕ} (t : Bool) → Marks file next → Marks file (pick t next file)
marks_if true m = m
marks_if {file} false m = marks_none file

-- ---- one bit

-- a bit that stands stays when a bit of any register is set
pub bit_stays : (file : List ℕ) (s new a bit : ℕ) → T (is_set (get_or file a 0) bit) → T (is_set (get_or (with_bit file s new) a 0) bit)
unfolding with_bit
bit_stays file s new a bit t =
    set_cases (λ (b : ℕ). T (is_set b bit)) file s a (bit_or (get_or file s 0) new) 0 t (λ e.
    set_stays (get_or file s 0) bit new (subst (λ (k : ℕ). T (is_set (get_or file k 0) bit)) (sym e) t))

-- a bit of an error status register marks
pub bit_marks : (file : List ℕ) (s bit : ℕ) → Status s → Marks file (with_bit file s bit)
unfolding with_bit
bit_marks file s bit p = record {
  long = length-set file s (bit_or (get_or file s 0) bit);
  other = λ a o. get_or-set_other file s a (bit_or (get_or file s 0) bit) 0 (λ e. o (subst Status (sym e) p));
  stays = bit_stays file s bit;
}

-- a bit that is set stands
pub bit_stands : (file : List ℕ) (s bit : ℕ) → s < length file → T (is_set (get_or (with_bit file s bit) s 0) bit)
unfolding with_bit
bit_stands file s bit l = rw (get_or-set_same file s (bit_or (get_or file s 0) bit) 0 l) (set_new (get_or file s 0) bit)

-- ---- the error bit of a voltage, a fan or a zone, in both groups

-- the bit stands in the BMC group's register b and the Host group's register h
pub record Stands (file : List ℕ) (b h bit : ℕ) : Type 0 where
  pub bmc : T (is_set (get_or file b 0) bit)
  pub host : T (is_set (get_or file h 0) bit)

-- the error bit of voltage i stands, that of fan i, that of zone i
abbrev pub VoltStands : List ℕ → ℕ → Type 0
VoltStands file i = Stands file (B_ERROR_STATUS_2 + i / 8) (H_ERROR_STATUS_2 + i / 8) (2 ^ (i % 8))

abbrev pub FanStands : List ℕ → ℕ → Type 0
FanStands file i = Stands file B_FAN_ERROR_STATUS H_FAN_ERROR_STATUS (2 ^ i)

abbrev pub ZoneStands : List ℕ → ℕ → Type 0
ZoneStands file i = Stands file B_ERROR_STATUS_1 H_ERROR_STATUS_1 (2 ^ zone_number i)

-- it stays under marks
pub stands_stay : {file next : List ℕ} {b h bit : ℕ} → Marks file next → Stands file b h bit → Stands next b h bit
stands_stay {b = b} {h = h} {bit = bit} m s = record { bmc = m.stays b bit s.bmc; host = m.stays h bit s.host }
