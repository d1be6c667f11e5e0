-- What events leave of a zone: what its reading has, P, it has until an event gives it a reading that has not. So one that is missing stays so
-- until it is given a taken one. Assumes nothing.
use Rattle.std.specs.Prelude.{◌≡◌, refl, true, List, T, ltb, Option}
use Rattle.std.proofs.Common.{◌∙◌, arith, ltb→lt}
use Prim.Native.Nat.{ℕ, zero, suc, ◌-◌}
use Rattle.map.specs.Names.{TEMPERATURE_SOURCE_SELECT}
use Rattle.temperature.specs.declared.Reading.{Reading}
use Rattle.temperature.specs.declared.Reading.TheVariants.{Taken, Missing}
use Rattle.temperature.specs.Temperature.{stated_reading, with_half}
use Rattle.state.specs.declared.Chip.{Chip}
use Rattle.state.specs.Parts.{register_at, zone_at, in_error}
use Rattle.state.specs.With.{with_volt, with_in_error}
use Rattle.sense.specs.Missing.{missed}
use Rattle.sense.proofs.Marks.{erred_volt_marks}
use Rattle.sense.specs.Events.{zone_heard, took_temperature, volt_reading, feeds_three, feeds_four, fed_zone, read_volt, took_voltage}
use Rattle.sense.specs.Keeps.{hot_keeps, pin_keeps, reset_keeps, missed_keeps}
use Rattle.sense.proofs.Keeps.{fan_keeps}
use Rattle.laws.specs.Never.{never}
use Rattle.bus.specs.Transactions.{read_keeps, read_block_keeps}
use Rattle.drive.specs.TickOrder.{tick_keeps}
use Rattle.event.specs.declared.Event.{Event}
use Rattle.event.specs.declared.Event.TheVariants.{Temperature, Voltage, Fan, Hot, Pin, Tick, Reset, Write, Read, ReadBlock, WriteBlock}
use Rattle.event.specs.Event.{index_in, event_in, quiet_step, tick_answer, written_answer, read_answer, seen_block_answer, written_block_answer, taken_step}
use Rattle.event.specs.Run.{Given, given_step}
use Rattle.event.specs.Refusal.{taken_in, step_cases}
use Rattle.theorems.specs.Taken.{IsTaken}
use Rattle.theorems.specs.Zones.{source_of, Feeds, three, four, Gives, heard, fed, written, in_block, GivesZone}
use Rattle.theorems.specs.ZoneWrites.{pick_where, HalfKeeps, Has, set_has, write_has, block_has}
use Rattle.theorems.specs.ZoneReadings.{Lost}

module _ {P : Reading → Type 0} (h : HalfKeeps P) (z : ℕ) (c : Chip) (m : Has P z c) where
  -- T and U
  temperature_has : (i : ℕ) (r : Reading) → (T (zone_heard (source_of c) i) → i ≡ z → P r) → Has P z (took_temperature c i r)
  unfolding took_temperature
  temperature_has i r own = pick_where (Has P z) (zone_heard (source_of c) i) (λ t. set_has h z c m i r (own t)) m

  -- V, the zone that a channel feeds
  fed_has : (channel : ℕ) (n : Option ℕ) → (Feeds (source_of c) channel z → P (volt_reading n)) → Has P z (fed_zone c channel n)
  unfolding fed_zone
  fed_has channel n own =
      pick_where (Has P z) (feeds_three (source_of c) channel) (λ t. set_has h z c m 4 (volt_reading n) (λ e. own (rw (← e) (three t))))
      (pick_where (Has P z) (feeds_four (source_of c) channel) (λ t. set_has h z c m 5 (volt_reading n) (λ e. own (rw (← e) (four t)))) m)

-- events count from 1
from_one : (k : ℕ) → suc k - 1 ≡ k
from_one k = omega arith

module _ {P : Reading → Type 0} (h : HalfKeeps P) (z : ℕ) (c : Chip) (m : Has P z c) where
  -- V
  voltage_has : (channel : ℕ) (n : Option ℕ) → (Feeds (source_of c) channel z → P (volt_reading n)) → Has P z (took_voltage c channel n)
  unfolding took_voltage read_volt with_volt with_in_error zone_at register_at
  voltage_has channel n own =
      pick_where (Has P z) (ltb channel 16)
      (λ l. let same = (erred_volt_marks c.registers channel (ltb→lt channel 16 l) (in_error c channel) n).other TEMPERATURE_SOURCE_SELECT (λ s. omega arith) in
      fed_has h z (read_volt c channel n) m channel n (rw same own))
      m

  -- a chip with the same zones
  zones_has : (d : Chip) → d.zones ≡ c.zones → Has P z d
  unfolding zone_at
  zones_has d e = rw e m

  -- an event that is taken
  taken_has : (e : Event) (bytes : List ℕ) → ((r : Reading) → Gives c z e bytes r → P r) → event_in e ≡ true → Has P z (taken_step c e bytes).chip
  unfolding event_in index_in taken_step quiet_step tick_answer written_answer read_answer seen_block_answer written_block_answer
  taken_has (Temperature zero s) bytes own i = absurd (never (cc))
  taken_has (Temperature (suc k) s) bytes own i = rw (from_one k) (temperature_has h z c m k (stated_reading s) (λ t e. own _ (rw e (heard (rw e at t)))))
  taken_has (Voltage zero n) bytes own i = absurd (never (cc))
  taken_has (Voltage (suc k) n) bytes own i = rw (from_one k) (voltage_has k n (λ f. own _ (fed f)))
  taken_has (Fan k n) bytes own i = zones_has _ (fan_keeps c (k - 1) n).zones
  taken_has (Hot k n) bytes own i = zones_has _ (hot_keeps c (k - 1) _).zones
  taken_has (Pin n) bytes own i = zones_has _ (pin_keeps c _).zones
  taken_has Tick bytes own i = zones_has _ ((tick_keeps (missed c)).zones ∙ (missed_keeps c).zones)
  taken_has Reset bytes own i = zones_has _ (reset_keeps c).zones
  taken_has (Write address a byte) bytes own i = write_has h z c m address a byte (λ o w. own _ (written o w))
  taken_has (Read address a) bytes own i = zones_has _ (read_keeps c address a).zones
  taken_has (ReadBlock address command) bytes own i = zones_has _ (read_block_keeps c address command).rest.zones
  taken_has (WriteBlock address command) bytes own i = block_has h z c m address command bytes (λ first k o l b w. own _ (in_block o l b w))

  -- an event: where it is taken, what it gives has P
  pub step_has : (g : Given) → (IsTaken g → (r : Reading) → Gives c z g.event g.bytes r → P r) → Has P z (given_step c g).chip
  step_has g own =
      step_cases c g.event g.bytes (Has P z) m (λ t. taken_has g.event g.bytes (own t) (taken_in g.event g.bytes t))

-- so it stays at an event that gives it no taken reading, where it is taken
pub step_lost : (c : Chip) (z : ℕ) → Lost z c → (g : Given) → (IsTaken g → GivesZone c z g.event g.bytes → ⊥) → Lost z (given_step c g).chip
unfolding with_half
step_lost c z m g none = step_has (λ half r e. rw e) z c m g own
  where
    own : IsTaken g → (r : Reading) → Gives c z g.event g.bytes r → r ≡ Missing
    own t Missing k = refl
    own t (Taken n) k = absurd (none t (record { count = n; gives = k }))
