-- A fan's duty is at least what a bound table asks, so it is 256 where that table follows a missing reading. Assumes nothing.
use Rattle.std.proofs.Common.{⊎_elim, sym, ap, ◌∙◌, eq-or-lt_of_le, le_of_suc-le-suc, mod-eq_of_lt, arith}
use Rattle.std.specs.Prelude.{◌≡◌, List, ℕ, zero, suc, ◌%◌, ◌^◌, ◌≤◌, ◌<◌, T, get_or, None}
use Rattle.std.specs.Int.Bits.{bit_and}
use Rattle.std.proofs.lemmas.Nat.{and_mod}
use Rattle.std.proofs.Math.Dec.{eqb_refl}
use Rattle.std.specs.Float.Ieee.Bits.{is_true}
use Rattle.std.proofs.Math.Pow.{pow-lt}
use Rattle.laws.specs.Pointwise.{firsts_at}
use Rattle.map.specs.Bits.{is_set}
use Rattle.map.specs.Names.{TEMPERATURE_SOURCE_SELECT, FAN_CONTROL_BINDINGS}
use Rattle.temperature.specs.declared.Reading.TheVariants.{Missing}
use Rattle.state.specs.declared.Chip.{Chip}
use Rattle.state.specs.declared.Setup.{Setup}
use Rattle.state.specs.Parts.{no_override, register_at}
use Rattle.state.specs.PowerOn.{power_on}
use Rattle.state.specs.Valid.{Valid}
use Rattle.sense.specs.IsSet.{set_eq}
use Rattle.sense.specs.Missing.{missed}
use Rattle.sense.proofs.Alerts.{missed_marks}
use Rattle.sense.specs.Keeps.{missed_keeps}
use Rattle.drive.specs.Tables.{asked_duty}
use Rattle.drive.specs.Duties.{bound_largest, tables_ask, fan_duty}
use Rattle.drive.specs.Tick.{followed, ask_after, asks_after, duty_after, duty_of}
use Rattle.drive.specs.Range.{duty_of_le}
use Rattle.event.specs.Run.{Given, chip_after}
use Rattle.event.specs.Reached.{run_setup, reached_in_range}

-- the largest of the bound values is at least each of them
bound_at : (bound : ℕ) (xs : List ℕ) (n i : ℕ) → i < n → T (is_set bound (2 ^ i)) → get_or xs i 0 ≤ bound_largest bound xs n
unfolding bound_largest
bound_at bound xs zero i l t = omega arith
bound_at bound xs (suc n) i l t =
    ⊎_elim
    (λ (e : suc i ≡ suc n). let f : i ≡ n = omega arith in rw (← f, is_true (is_set bound (2 ^ i)) t) (omega arith))
    (λ (m : suc i < suc n). omega (arith, bound_at bound xs n i (le_of_suc-le-suc m) t))
    (eq-or-lt_of_le l)

-- a table's bit of a binding is one of its four lowest
table_bit : (binding i : ℕ) → i < 4 → T (is_set binding (2 ^ i)) → T (is_set (binding % 16) (2 ^ i))
unfolding is_set
table_bit binding i l t =
    let small : 2 ^ i % 16 ≡ 2 ^ i = mod-eq_of_lt (pow-lt l) in
    let low : bit_and (binding % 16) (2 ^ i % 16) ≡ 2 ^ i % 16 = sym (and_mod binding (2 ^ i) 4) ∙ ap (λ (n : ℕ). n % 16) (set_eq binding (2 ^ i) t) in
    rw (rw small at low) (eqb_refl (2 ^ i))

module _ (c : Chip) (fan table : ℕ) (l : table < 4) (bound : T (is_set (get_or c.setup.bindings fan 0) (2 ^ table))) (off : get_or c.setup.overrides fan no_override ≡ None) where
  -- without an override a fan's duty is at least what a bound table asks
  asked_le_duty : (ask_after c table).duty ≤ duty_of c fan
  unfolding duty_of duty_after fan_duty tables_ask asks_after
  asked_le_duty = rw off (omega (arith, bound_at _ (asks_after c) 4 table l (table_bit _ table l bound), firsts_at (λ i. (ask_after c i).duty) 4 table 0 l))

  -- so it is 256 or more where what the table follows is missing
  missing_le_duty : followed c table ≡ Missing → 256 ≤ duty_of c fan
  unfolding ask_after asked_duty
  missing_le_duty m = rw m at asked_le_duty

-- the marks of a tick change nothing of what a table follows
marks_follow : (c : Chip) (table : ℕ) → followed (missed c) table ≡ followed c table
unfolding followed register_at
marks_follow c table =
    cc ((missed_keeps c).zones, (missed_marks c).other TEMPERATURE_SOURCE_SELECT (λ s. omega arith), (missed_marks c).other FAN_CONTROL_BINDINGS (λ s. omega arith))

-- from power-on, a fan whose bound table follows a missing reading has a duty of 256 after a tick
pub missing_duty : (s : Setup) → Valid s → (gs : List Given) (fan table : ℕ) → table < 4 → T (is_set (get_or s.bindings fan 0) (2 ^ table)) → get_or s.overrides fan no_override ≡ None → followed (chip_after (power_on s) gs) table ≡ Missing → duty_of (missed (chip_after (power_on s) gs)) fan ≡ 256
unfolding power_on
missing_duty s v gs fan table l bound off m =
    let c = missed (chip_after (power_on s) gs) in
    let same : c.setup ≡ s = (missed_keeps _).setup ∙ run_setup (power_on s) gs in
    let least : 256 ≤ duty_of c fan = missing_le_duty c fan table l (rw same bound) (rw same off) (marks_follow _ table ∙ m) in
    let most : duty_of c fan ≤ 256 = duty_of_le c (rw (missed_keeps (chip_after (power_on s) gs)).drive (reached_in_range s gs v).levels) (rw same v) fan in
    omega arith
