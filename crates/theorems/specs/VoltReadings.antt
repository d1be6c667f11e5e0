-- Document 02, Q-2, "Voltage hysteresis as the chip has it", of one event: whether a channel is in error after it, and the bit that it sets.
-- Channels count from 0 here, and from 1 in V. Assumes nothing.
use Rattle.std.specs.Prelude.{◌≡◌, Bool, List, T, leb, Option, Some, None}
use Rattle.std.proofs.Math.Path.{refl}
use Rattle.std.proofs.Common.{sym, ap, ◌∙◌, arith}
use Rattle.std.proofs.Math.Bool.{true, false}
use Prim.Native.Nat.{ℕ, zero, suc, ◌+◌, ◌-◌, ◌/◌, ◌%◌, ◌^◌, ◌≤◌, ◌<◌}
use borrow.Author.Tests.{eqb-true, eqb-false, leb-true}
use Rattle.std.proofs.Math.Dec.{eqb}
use Rattle.laws.specs.Pick.{both}
use Rattle.laws.specs.Both.{both_left, both_right}
use Rattle.laws.specs.Never.{never}
use Rattle.map.specs.Bits.{is_set}
use Rattle.map.specs.Names.{B_ERROR_STATUS_2, H_ERROR_STATUS_2}
use Rattle.masks.specs.Masks.{volt_masked}
use Rattle.masks.specs.Table.{volt_same}
use Rattle.state.specs.declared.Chip.{Chip}
use Rattle.state.specs.Parts.{register_at, in_error}
use Rattle.state.specs.Order.{SameButZones}
use Rattle.sense.specs.Errors.{low_limit, high_limit, is_outside, compared_volt}
use Rattle.sense.specs.Hysteresis.{hysteresis_of, ends_error, erring_after, erred_volt}
use Rattle.sense.specs.InError.{outside_starts, ended_by, unended_holds, inside_was, sound_sets_none, volt_erring}
use Rattle.sense.proofs.InError.{erring_stands, volt_registers, zero_registers}
use Rattle.sense.specs.Events.{took_voltage}
use Rattle.sense.proofs.Keeps.{voltage_keeps, fan_keeps}
use Rattle.sense.specs.Marks.{Status, VoltStands}
use Rattle.sense.proofs.Marks.{erred_volt_marks}
use Rattle.sense.specs.ButZones.{but_masks, volt_stands_but}
use Rattle.sense.specs.Alerts.{Alerts, volt_alerts, marks_masks}
use Rattle.event.specs.declared.Event.{Event}
use Rattle.event.specs.declared.Event.TheVariants.{Voltage, Fan}
use Rattle.event.specs.Event.{index_in, count_in, event_in, refusal_of, quiet_step, refused_step, taken_step}
use Rattle.event.specs.Run.{Given, given_step}
use Rattle.event.specs.Refusal.{taken_in, step_taken, step_refused}
use Rattle.event.specs.Lasting.{Sized}
use Rattle.theorems.specs.Taken.{IsTaken}
use Rattle.theorems.specs.ShownBytes.{ShowsBit, status_shown, status_read}
use Rattle.state.specs.declared.Refusal.{Refusal}
use Rattle.theorems.specs.Gauges.{Gives, volt, fan, neither, gives}

-- ---- what is said

-- an event gives channel i a count, which may be missing, and is not refused
pub record GivesCount (i : ℕ) (n : Option ℕ) (g : Given) : Type 0 where
  pub event : g.event ≡ Voltage (suc i) n
  pub taken : IsTaken g

-- "a taken reading outside its limits", and "one that is at least low plus VH and at most high minus VH": the limits and VH are those that
-- stand at the reading
pub data Starts (i : ℕ) (c : Chip) (g : Given) : Type 0 where
  outside : (n : ℕ) → GivesCount i (Some n) g → is_outside (low_limit c.registers i) (high_limit c.registers i) n ≡ true → Starts i c g

pub data Ends (i : ℕ) (c : Chip) (g : Given) : Type 0 where
  within : (n : ℕ) → GivesCount i (Some n) g → ends_error (low_limit c.registers i) (high_limit c.registers i) (hysteresis_of c.registers) n ≡ true → Ends i c g

-- a channel is in error after an event: since then, or since before it
pub data From (i : ℕ) (c : Chip) (g : Given) : Type 0 where
  now : Starts i c g → From i c g
  before : in_error c i ≡ true → From i c g

-- the bit of channel i shows in both groups, to byte reads as in the dump and in blocks, and is counted; ALERT is active but while GMSK is
-- set
pub record ShowsError (i : ℕ) (c : Chip) : Type 0 where
  pub in_bmc : ShowsBit c (B_ERROR_STATUS_2 + i / 8) (2 ^ (i % 8))
  pub in_host : ShowsBit c (H_ERROR_STATUS_2 + i / 8) (2 ^ (i % 8))
  pub alerts : Alerts c.registers

-- ---- V for the channel

module _ {i : ℕ} {n : Option ℕ} {g : Given} (r : GivesCount i n g) where
  volt_in : event_in (Voltage (suc i) n) ≡ true
  volt_in = rw (← r.event) (taken_in g.event g.bytes r.taken)

  -- it is one of sixteen
  there : i < 16
  unfolding event_in index_in
  there =
      let e = both_left (both (leb 1 (suc i)) (leb (suc i) 16)) _ volt_in in
      leb-true (suc i) 16 (both_right (leb 1 (suc i)) (leb (suc i) 16) e)

  step_volt : (c : Chip) → (given_step c g).chip ≡ took_voltage c i n
  unfolding taken_step quiet_step
  step_volt c = rw (step_taken c g.event g.bytes r.taken, r.event) (ap (λ (k : ℕ). took_voltage c k n) (omega arith))

  -- the registers, but for the error bit of a zone that the voltage feeds
  pub count_registers : (c : Chip) → SameButZones (erred_volt c.registers i (in_error c i) n) (given_step c g).chip.registers
  count_registers c = rw (step_volt c) (volt_registers c i n there)

  -- with VH 0 they are those of document 01's rule, whether or not the channel was in error before
  pub zero_count : (c : Chip) → hysteresis_of c.registers ≡ 0 → SameButZones (compared_volt c.registers i n) (given_step c g).chip.registers
  zero_count c z = rw (step_volt c) (zero_registers c i n there z)

  -- the limits and VH that stand decide
  pub count_erring : (c : Chip) → Sized c → in_error (given_step c g).chip i ≡ erring_after c.registers i (in_error c i) n
  count_erring c z = rw (step_volt c) (volt_erring c i n there z.erring)

-- a taken count is at most 255
pub in_range : {i n : ℕ} {g : Given} → GivesCount i (Some n) g → n ≤ 255
unfolding event_in count_in
in_range {i} {n} r = leb-true n 255 (both_right (index_in 16 (suc i)) (leb n 255) (volt_in r))

-- ---- any event

-- an event gives channel i a count, or leaves whether it is in error
data Does (i : ℕ) (c : Chip) (g : Given) : Type 0 where
  counts : (n : Option ℕ) → GivesCount i n g → Does i c g
  leaves : in_error (given_step c g).chip i ≡ in_error c i → Does i c g

from_one : (n : Option ℕ) → event_in (Voltage zero n) ≡ true → ⊥
unfolding event_in index_in
from_one n e = never (cc)

module _ (i : ℕ) (c : Chip) (bytes : List ℕ) where
  -- one that is taken: T, F, H, A, K, X, W, R, G and P leave it, and so does V for another channel
  taken_does : {e : Event} → Gives e → IsTaken (record { event = e; bytes = bytes }) → Does i c (record { event = e; bytes = bytes })
  unfolding taken_step quiet_step in_error
  taken_does (volt zero n) t = absurd (from_one n (taken_in (Voltage zero n) bytes t))
  taken_does (volt (suc k) n) t = go (eqb k i) refl
    where
      go : (own : Bool) → eqb k i ≡ own → Does i c (record { event = Voltage (suc k) n; bytes = bytes })
      go true e = counts n (record { event = rw (eqb-true k i e); taken = t })
      go false e = leaves (rw (step_taken c (Voltage (suc k) n) bytes t) ((voltage_keeps c (suc k - 1) n).erring i (λ q. eqb-false k i e (omega arith))))
  taken_does (fan number n) t = leaves (rw (step_taken c (Fan number n) bytes t, (fan_keeps c (number - 1) n).erring))
  taken_does (neither f) t = leaves (rw (step_taken c _ bytes t, (f c bytes).erring))

does : (i : ℕ) (c : Chip) (g : Given) → Does i c g
unfolding refused_step
does i c g = go (refusal_of g.event g.bytes) refl
  where
    go : (r : Option Refusal) → refusal_of g.event g.bytes ≡ r → Does i c g
    go None e = taken_does i c g.bytes (gives g.event) e
    go (Some r) e = leaves (rw (step_refused c g.event g.bytes e))

stands_shown : (i : ℕ) → i < 16 → (c : Chip) → volt_masked c.registers i ≡ false → VoltStands c.registers i → ShowsError i c
unfolding register_at
stands_shown i l c u s = record { in_bmc = shown (omega arith) s.bmc; in_host = shown (omega arith) s.host; alerts = volt_alerts c.registers i l u s.bmc }
  where
    shown : {a : ℕ} → Status a → T (is_set (register_at c a) (2 ^ (i % 8))) → ShowsBit c a (2 ^ (i % 8))
    shown {a} p t = (rw (status_read c a p) t, rw (status_shown c a p) t)

module _ (i : ℕ) (c : Chip) (sized : Sized c) (g : Given) where
  -- ---- in error or not

  -- nothing but a taken reading of its own starts or ends it: not limits or VH written, its bit cleared, X, a tick, a reading of another
  -- channel or what is refused, and "Missing readings neither start nor end it."
  pub untaken_leaves : ((n : ℕ) → GivesCount i (Some n) g → ⊥) → in_error (given_step c g).chip i ≡ in_error c i
  unfolding erring_after
  untaken_leaves o = go (does i c g)
    where
      go : Does i c g → in_error (given_step c g).chip i ≡ in_error c i
      go (leaves e) = e
      go (counts None r) = count_erring r c sized
      go (counts (Some n) r) = absurd (o n r)

  -- a reading outside its limits starts it, and one that is at least low plus VH and at most high minus VH ends it
  pub started : Starts i c g → in_error (given_step c g).chip i ≡ true
  unfolding erring_after
  started (outside n r e) = count_erring r c sized ∙ outside_starts _ _ _ n _ e

  pub ended : Ends i c g → in_error (given_step c g).chip i ≡ false
  unfolding erring_after
  ended (within n r e) = count_erring r c sized ∙ ended_by _ _ _ n _ e

  -- in error it stays so under an event that does not end it
  pub held : (Ends i c g → ⊥) → in_error c i ≡ true → in_error (given_step c g).chip i ≡ true
  unfolding erring_after
  held o e = go (does i c g)
    where
      go : Does i c g → in_error (given_step c g).chip i ≡ true
      go (leaves q) = q ∙ e
      go (counts None r) = count_erring r c sized ∙ e
      go (counts (Some n) r) = count_erring r c sized ∙ rw e (unended_holds _ _ _ n (λ q. o (within n r q)))

  -- and it is in error after an event only if that starts it, or if it was before
  pub comes_from : in_error (given_step c g).chip i ≡ true → From i c g
  unfolding erring_after
  comes_from e = go (does i c g)
    where
      go : Does i c g → From i c g
      go (leaves q) = before (sym q ∙ e)
      go (counts None r) = before (sym (count_erring r c sized) ∙ e)
      go (counts (Some n) r) = on (is_outside (low_limit c.registers i) (high_limit c.registers i) n) refl
        where
          on : (t : Bool) → is_outside (low_limit c.registers i) (high_limit c.registers i) n ≡ t → From i c g
          on true q = now (outside n r q)
          on false q = before (inside_was _ _ _ n (in_error c i) q (sym (count_erring r c sized) ∙ e))

  -- ---- the bits

  -- a reading that leaves the channel in error sets its bit in both groups, unless it is masked
  pub reading_sets : (n : ℕ) → GivesCount i (Some n) g → volt_masked c.registers i ≡ false → in_error (given_step c g).chip i ≡ true → ShowsError i (given_step c g).chip
  reading_sets n r u e =
      let b = count_registers r c in
      let m = erred_volt_marks c.registers i (there r) (in_error c i) (Some n) in
      let unmasked = sym (volt_same (but_masks b) i) ∙ volt_same (marks_masks m) i ∙ u in
      stands_shown i (there r) _ unmasked (volt_stands_but b (there r) (erring_stands c.registers i (in_error c i) n (there r) sized.registers u (sym (count_erring r c sized) ∙ e)))

  -- and one that does not sets none, but for that of a zone that the voltage feeds
  pub reading_sets_none : (n : ℕ) → GivesCount i (Some n) g → in_error (given_step c g).chip i ≡ false → SameButZones c.registers (given_step c g).chip.registers
  reading_sets_none n r e =
      rw (sound_sets_none c.registers i (in_error c i) n (sym (count_erring r c sized) ∙ e)) at (count_registers r c)
