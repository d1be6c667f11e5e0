-- Document 02, Q-4, "Fan counts that are not torn", in any state that events reach from power-on. Fans count from 0. Assumes nothing.
use Rattle.std.specs.Prelude.{◌≡◌, refl, true, List, ℕ, ◌+◌, ◌-◌, ◌*◌, ◌/◌, ◌<◌, ltb, Option, Some, None}
use Rattle.std.proofs.Common.{arith, leb-true}
use Rattle.laws.specs.Both.{both_right}
use Rattle.laws.specs.Pointwise.{pick_each, replicate_each}
use Rattle.laws.specs.Store.{set_cases}
use Rattle.map.specs.FanBytes.{low_place, high_place}
use Rattle.state.specs.declared.Chip.{Chip}
use Rattle.state.specs.declared.Setup.{Setup}
use Rattle.state.specs.Parts.{no_gauge, no_kept, fan_at, kept_at}
use Rattle.state.specs.With.{with_fan}
use Rattle.state.specs.PowerOn.{power_on}
use Rattle.sense.specs.Events.{took_fan}
use Rattle.sense.proofs.Keeps.{voltage_keeps}
use Rattle.bus.specs.Read.{fan_word, low_byte, high_byte}
use Rattle.bus.specs.KeptBytes.{count_bytes}
use Rattle.event.specs.declared.Event.{Event}
use Rattle.event.specs.declared.Event.TheVariants.{Read}
use Rattle.event.specs.declared.Answer.TheVariants.{Byte}
use Rattle.event.specs.Event.{count_in, index_in, event_in, quiet_step, taken_step, stepped_chip}
use Rattle.event.specs.Run.{Given, given_step, chip_after}
use Rattle.event.specs.Refusal.{taken_in, step_cases}
use Rattle.event.specs.Reached.{run_keeps, reached_sized}
use Rattle.event.specs.NotTorn.{NoneReads}
use Rattle.event.proofs.NotTorn.{not_torn, unkept_present, high_drops}
use Rattle.theorems.specs.Gauges.{Gives, volt, fan as fan-count, neither, gives}

-- ---- every fan count that is reached has 14 bits

abbrev Fits : Option ℕ → Type 0
Fits g = fan_word g < 0x4000

abbrev AllFit : Chip → Type 0
AllFit c = (i : ℕ) → fan_word (fan_at c i) < 0x4000

-- "0 to 16383, or missing"
count_fits : (n : Option ℕ) → count_in 16383 n ≡ true → Fits n
unfolding count_in fan_word
count_fits None e = omega arith
count_fits (Some n) e = omega (arith, leb-true n 16383 e)

module _ (c : Chip) (fits : AllFit c) where
  fan_fits : (j : ℕ) (n : Option ℕ) → count_in 16383 n ≡ true → AllFit (took_fan c j n)
  unfolding took_fan with_fan fan_at
  fan_fits j n e i =
      pick_each (λ (d : Chip). fan_word (fan_at d i) < 0x4000) (ltb j 4) (set_cases Fits c.fans j i n no_gauge (fits i) (λ q. count_fits n e)) (fits i)

  taken_fits : {e : Event} (bytes : List ℕ) → Gives e → event_in e ≡ true → AllFit (taken_step c e bytes).chip
  unfolding event_in taken_step quiet_step fan_at
  taken_fits bytes (volt channel n) r i = rw (voltage_keeps c (channel - 1) n).fans (fits i)
  taken_fits bytes (fan-count number n) r i = fan_fits (number - 1) n (both_right (index_in 4 number) _ r) i
  taken_fits bytes (neither f) r i = rw ((f c bytes).fans, fan_at) (fits i)

  step_fits : (g : Given) → AllFit (given_step c g).chip
  step_fits g =
      step_cases c g.event g.bytes AllFit fits (λ z. taken_fits g.bytes (gives g.event) (taken_in g.event g.bytes z))

module _ (s : Setup) where
  power_fits : AllFit (power_on s)
  unfolding power_on fan_at fan_word
  power_fits i = replicate_each Fits 4 no_gauge (omega arith) (omega arith) i

  reached_fits : (gs : List Given) → AllFit (chip_after (power_on s) gs)
  reached_fits gs = run_keeps AllFit (λ c g f. step_fits c f g) gs (power_on s) power_fits

-- ---- the two bytes

-- the two bytes of the count that the fan has, 3FFFh where it is missing, and the count that they make
pub record WholeCount (c : Chip) (fan lower upper : ℕ) : Type 0 where
  pub is_low_byte : lower ≡ low_byte (fan_at c fan)
  pub is_high_byte : upper ≡ high_byte (fan_at c fan)
  pub count : upper * 64 + lower / 4 ≡ fan_word (fan_at c fan)

-- From power-on, through any events, the low and then the high byte of one fan, both acknowledged, with any events between them but an
-- acknowledged R of either byte, make the count at the first read.
pub whole_counts : (s : Setup) (gs : List Given) (fan : ℕ) → fan < 4
    → (first second : ℕ) (beside after : List ℕ) (between : List Given) {lower upper : ℕ}
    → (stepped_chip (chip_after (power_on s) gs) (Read first (low_place fan)) beside).answer ≡ Byte (Some lower)
    → NoneReads fan (stepped_chip (chip_after (power_on s) gs) (Read first (low_place fan)) beside).chip between
    → (stepped_chip (chip_after (stepped_chip (chip_after (power_on s) gs) (Read first (low_place fan)) beside).chip between) (Read second (high_place fan)) after).answer ≡ Byte (Some upper)
    → WholeCount (chip_after (power_on s) gs) fan lower upper
whole_counts s gs fan h first second beside after between l u r =
    let w = not_torn (chip_after (power_on s) gs) (reached_sized s gs).kept fan h first second beside after between l u r in
    record { is_low_byte = w.0; is_high_byte = w.1; count = rw (w.0, w.1) (count_bytes _ (reached_fits s gs fan)) }

-- ---- a high byte without one kept

power_none : (s : Setup) (i : ℕ) → kept_at (power_on s) i ≡ None
unfolding power_on kept_at
power_none s i = replicate_each (λ (k : Option ℕ). k ≡ None) 4 no_kept refl refl i

-- From power-on, before any acknowledged R of either byte of a fan, an R of its high byte shows the present one.
pub present_at_first : (s : Setup) (gs : List Given) (fan : ℕ) → fan < 4 → NoneReads fan (power_on s) gs
    → (address : ℕ) (beside : List ℕ) {upper : ℕ} → (stepped_chip (chip_after (power_on s) gs) (Read address (high_place fan)) beside).answer ≡ Byte (Some upper)
    → upper ≡ high_byte (fan_at (chip_after (power_on s) gs) fan)
present_at_first s gs fan h u address beside r = unkept_present (power_on s) fan h (power_none s fan) gs u address beside r

-- And so does one behind another R of the high byte, with any events between them but an acknowledged R of either byte.
pub present_again : (s : Setup) (gs : List Given) (fan : ℕ) → fan < 4
    → (first second : ℕ) (beside after : List ℕ) (between : List Given) {shown upper : ℕ}
    → (stepped_chip (chip_after (power_on s) gs) (Read first (high_place fan)) beside).answer ≡ Byte (Some shown)
    → NoneReads fan (stepped_chip (chip_after (power_on s) gs) (Read first (high_place fan)) beside).chip between
    → (stepped_chip (chip_after (stepped_chip (chip_after (power_on s) gs) (Read first (high_place fan)) beside).chip between) (Read second (high_place fan)) after).answer ≡ Byte (Some upper)
    → upper ≡ high_byte (fan_at (chip_after (stepped_chip (chip_after (power_on s) gs) (Read first (high_place fan)) beside).chip between) fan)
present_again s gs fan h first second beside after between l u r =
    unkept_present _ fan h (high_drops (chip_after (power_on s) gs) (reached_sized s gs).kept fan h first beside l) between u second after r
