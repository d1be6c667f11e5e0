-- What events leave of the voltages, of the channels in error and of the fan counts: a reading that is missing stays so until its own event
-- gives one. Assumes nothing.
use Rattle.std.specs.Prelude.{◌≡◌, refl, true, List, [], ◌∷◌, ltb, get_or, set, Option, Some, None}
use Rattle.std.proofs.Common.{ap, ◌∙◌, arith}
use Prim.Native.Nat.{ℕ, zero, suc, ◌-◌}
use Rattle.laws.specs.Pointwise.{pick_each}
use Rattle.laws.specs.Store.{set_cases}
use Rattle.state.specs.declared.Chip.{Chip}
use Rattle.state.specs.Parts.{no_gauge, volt_at, fan_at}
use Rattle.state.specs.With.{with_zone, with_volt, with_in_error, with_fan}
use Rattle.sense.specs.Missing.{missed}
use Rattle.sense.specs.Events.{read_zone, fed_zone, fed_each, read_volt, took_voltage, took_fan}
use Rattle.sense.specs.Keeps.{hot_keeps, pin_keeps, reset_keeps, missed_keeps}
use Rattle.sense.proofs.Keeps.{temperature_keeps, voltage_keeps, fan_keeps}
use Rattle.laws.specs.Never.{never}
use Rattle.bus.specs.Transactions.{write_keeps, read_keeps, read_block_keeps, write_block_lem, after, after_all}
use Rattle.bus.proofs.Transactions.{transactions_keep}
use Rattle.drive.specs.TickOrder.{tick_keeps}
use Rattle.event.specs.declared.Event.{Event}
use Rattle.event.specs.declared.Event.TheVariants.{Temperature, Voltage, Fan, Hot, Pin, Tick, Reset, Write, Read, ReadBlock, WriteBlock}
use Rattle.event.specs.Event.{index_in, event_in, quiet_step, tick_answer, written_answer, read_answer, seen_block_answer, written_block_answer, taken_step}
use Rattle.event.specs.Run.{Given, given_step}
use Rattle.event.specs.Refusal.{taken_in, step_cases}
use Rattle.theorems.specs.Taken.{IsTaken}

-- ---- events that give no voltage and no fan count

-- d has the voltages and the fan counts of c, and the same channels in error
pub record SameGauges (c d : Chip) : Type 0 where
  pub volts : d.volts ≡ c.volts
  pub erring : d.erring ≡ c.erring
  pub fans : d.fans ≡ c.fans

-- an event gives a voltage, or a fan count, or neither
pub data Gives : Event → Type 0 where
  volt : (channel : ℕ) (n : Option ℕ) → Gives (Voltage channel n)
  fan : (number : ℕ) (n : Option ℕ) → Gives (Fan number n)
  neither : {e : Event} → ((c : Chip) (bytes : List ℕ) → SameGauges c (taken_step c e bytes).chip) → Gives e

-- T, U, H, A, K, X, W, R, G and P leave them
pub gives : (e : Event) → Gives e
unfolding taken_step quiet_step tick_answer written_answer read_answer seen_block_answer written_block_answer after after_all
gives (Temperature zone s) =
    neither (λ c bytes. let k = temperature_keeps c (zone - 1) _ in record { volts = k.volts; erring = k.erring; fans = k.fans })
gives (Voltage channel n) = volt channel n
gives (Fan number n) = fan number n
gives (Hot input level) = neither (λ c bytes. let k = hot_keeps c (input - 1) _ in record { volts = k.volts; erring = k.erring; fans = k.fans })
gives (Pin level) = neither (λ c bytes. let k = pin_keeps c _ in record { volts = k.volts; erring = k.erring; fans = k.fans })
gives Tick =
    neither (λ c bytes. let k = tick_keeps (missed c) in
    record { volts = k.volts ∙ (missed_keeps c).volts; erring = k.erring ∙ (missed_keeps c).erring; fans = k.fans ∙ (missed_keeps c).fans })
gives Reset = neither (λ c bytes. record { volts = (reset_keeps c).volts; erring = (reset_keeps c).erring; fans = (reset_keeps c).fans })
gives (Write address a byte) =
    neither (λ c bytes. let k = write_keeps c address a byte in record { volts = k.volts; erring = k.erring; fans = k.fans })
gives (Read address a) =
    neither (λ c bytes. let k = (read_keeps c address a).keeps in record { volts = k.volts; erring = k.erring; fans = k.fans })
gives (ReadBlock address command) =
    neither (λ c bytes. let k = (read_block_keeps c address command).rest.keeps in record { volts = k.volts; erring = k.erring; fans = k.fans })
gives (WriteBlock address command) =
    neither (λ c bytes. let k = transactions_keep c (write_block_lem address command bytes ∷ []) in record { volts = k.volts; erring = k.erring; fans = k.fans })

-- ---- V and F

-- a missing reading stays so if what is stored in its own place is missing
stays : (l : List (Option ℕ)) (i j : ℕ) (n : Option ℕ) → get_or l i no_gauge ≡ None → (j ≡ i → n ≡ None) → get_or (set l j n) i no_gauge ≡ None
stays l i j n m own = set_cases (λ (g : Option ℕ). g ≡ None) l j i n no_gauge m own

-- the zone that a voltage feeds is none of the voltages
fed_volts : (c : Chip) (channel : ℕ) (n : Option ℕ) → (fed_zone c channel n).volts ≡ c.volts
unfolding read_zone with_zone
fed_volts c channel n = fed_each (λ (d : Chip). d.volts ≡ c.volts) c channel n refl refl refl

-- what an event gives reading i is missing, if the event gives it no taken one; events count from 1
unless_taken : (event : ℕ → Option ℕ → Event) (i k : ℕ) (n : Option ℕ) → ((m : ℕ) → event (suc k) n ≡ event (suc i) (Some m) → ⊥) → suc k - 1 ≡ i → n ≡ None
unless_taken event i k None h e = refl
unless_taken event i k (Some m) h e = absurd (h m (ap (λ (j : ℕ). event (suc j) (Some m)) (omega arith)))

module _ (c : Chip) (i : ℕ) where
  -- V
  voltage_missing : (j : ℕ) (n : Option ℕ) → volt_at c i ≡ None → (j ≡ i → n ≡ None) → volt_at (took_voltage c j n) i ≡ None
  unfolding took_voltage read_volt with_volt with_in_error volt_at
  voltage_missing j n m own =
      pick_each (λ (d : Chip). volt_at d i ≡ None) (ltb j 16) (rw (fed_volts _ j n) (stays c.volts i j n m own)) m

  -- F
  fan_missing : (j : ℕ) (n : Option ℕ) → fan_at c i ≡ None → (j ≡ i → n ≡ None) → fan_at (took_fan c j n) i ≡ None
  unfolding took_fan with_fan fan_at
  fan_missing j n m own = pick_each (λ (d : Chip). fan_at d i ≡ None) (ltb j 4) (stays c.fans i j n m own) m

  volt_left : {e : Event} (bytes : List ℕ) → Gives e → ((n : ℕ) → e ≡ Voltage (suc i) (Some n) → ⊥) → event_in e ≡ true → volt_at c i ≡ None → volt_at (taken_step c e bytes).chip i ≡ None
  unfolding event_in index_in taken_step quiet_step volt_at
  volt_left bytes (volt zero n) h r m = absurd (never (cc))
  volt_left bytes (volt (suc k) n) h r m = voltage_missing (suc k - 1) n m (unless_taken Voltage i k n h)
  volt_left bytes (fan number n) h r m = rw (fan_keeps c (number - 1) n).volts m
  volt_left bytes (neither f) h r m = rw ((f c bytes).volts, volt_at) m

  fan_left : {e : Event} (bytes : List ℕ) → Gives e → ((n : ℕ) → e ≡ Fan (suc i) (Some n) → ⊥) → event_in e ≡ true → fan_at c i ≡ None → fan_at (taken_step c e bytes).chip i ≡ None
  unfolding event_in index_in taken_step quiet_step fan_at
  fan_left bytes (volt channel n) h r m = rw (voltage_keeps c (channel - 1) n).fans m
  fan_left bytes (fan zero n) h r m = absurd (never (cc))
  fan_left bytes (fan (suc k) n) h r m = fan_missing (suc k - 1) n m (unless_taken Fan i k n h)
  fan_left bytes (neither f) h r m = rw ((f c bytes).fans, fan_at) m

  -- a missing voltage stays missing under an event that does not give it a taken reading
  pub volt_stays : (g : Given) → (IsTaken g → (n : ℕ) → g.event ≡ Voltage (suc i) (Some n) → ⊥) → volt_at c i ≡ None → volt_at (given_step c g).chip i ≡ None
  volt_stays g h m =
      step_cases c g.event g.bytes (λ (d : Chip). volt_at d i ≡ None) m (λ t. volt_left g.bytes (gives g.event) (h t) (taken_in g.event g.bytes t) m)

  -- a missing fan count stays missing under an event that does not give it a taken reading
  pub fan_stays : (g : Given) → (IsTaken g → (n : ℕ) → g.event ≡ Fan (suc i) (Some n) → ⊥) → fan_at c i ≡ None → fan_at (given_step c g).chip i ≡ None
  fan_stays g h m =
      step_cases c g.event g.bytes (λ (d : Chip). fan_at d i ≡ None) m (λ t. fan_left g.bytes (gives g.event) (h t) (taken_in g.event g.bytes t) m)
