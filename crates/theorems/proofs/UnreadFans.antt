-- A fan that was never read shows no count, to byte reads as in the dump and in blocks, whatever its kept byte. Fans count from 0.
-- Assumes nothing.
use Rattle.std.specs.Prelude.{◌≡◌, refl, List, ℕ, ◌<◌, get_or, Option, None}
use Rattle.laws.specs.Pointwise.{replicate_each}
use Rattle.laws.specs.Store.{set_cases}
use Rattle.map.specs.FanBytes.{FanByte, neither, low, high, fan_byte_at}
use Rattle.state.specs.declared.Chip.{Chip}
use Rattle.state.specs.declared.Setup.{Setup}
use Rattle.state.specs.Parts.{no_kept, fan_at, kept_at}
use Rattle.state.specs.PowerOn.{power_on}
use Rattle.bus.specs.Latch.{transacted}
use Rattle.bus.specs.Read.{fan_word, low_byte, high_byte, given_byte, kept_as, kept_after}
use Rattle.bus.specs.KeptBytes.{shown_low, shown_high, read_low, read_high}
use Rattle.bus.specs.Transactions.{read_cases}
use Rattle.event.specs.declared.Event.{Event}
use Rattle.event.specs.Event.{read_answer, taken_step}
use Rattle.event.specs.Run.{Given, given_step, chip_after}
use Rattle.event.specs.Refusal.{step_cases}
use Rattle.event.specs.NotTorn.{ReadOrNot, read, other, read_or_not}
use Rattle.theorems.specs.Taken.{IsTaken}
use Rattle.theorems.specs.Gauges.{fan_stays}
use Rattle.theorems.specs.Sensors.{fan, IsMissing, GivesTaken, speed}
use Rattle.theorems.specs.Unread.{power_unread}
use Rattle.theorems.specs.Healthy.{NeverRead, none, more}
use Rattle.theorems.specs.UnreadFans.{ShowsNoCount}

-- no byte is kept, or FFh
abbrev NoneOrFFh : Option ℕ → Type 0
NoneOrFFh k = given_byte k 0xFF ≡ 0xFF

-- fan i has no reading, and a byte read of its high byte shows that
record Uncounted (i : ℕ) (c : Chip) : Type 0 where
  missing : fan_at c i ≡ None
  kept : NoneOrFFh (get_or c.kept i no_kept)

module _ (i : ℕ) (c : Chip) (u : Uncounted i c) where
  -- R keeps FFh of it, or drops what is kept
  read_uncounted : (b : FanByte) → NoneOrFFh (get_or (kept_as c b) i no_kept)
  unfolding kept_as given_byte high_byte fan_word
  read_uncounted neither = u.kept
  read_uncounted (low j) = set_cases NoneOrFFh c.kept j i _ no_kept u.kept (λ e. rw (e, u.missing))
  read_uncounted (high j) = set_cases NoneOrFFh c.kept j i no_kept no_kept u.kept (λ e. refl)

module _ (i : ℕ) (c : Chip) (u : Uncounted i c) where
  taken_keeps : {e : Event} (bytes : List ℕ) → ReadOrNot e → NoneOrFFh (get_or (taken_step c e bytes).chip.kept i no_kept)
  unfolding taken_step read_answer transacted kept_after fan_at
  taken_keeps bytes (read address a) =
      read_cases c address (λ (d : Chip). NoneOrFFh (get_or d.kept i no_kept)) a u.kept
      (read_uncounted i (transacted c address) (record { missing = u.missing; kept = u.kept }) (fan_byte_at a))
  taken_keeps bytes (other k) = rw (k c bytes) u.kept

  -- an event that does not give it a reading leaves it so
  step_uncounted : (l : i < 4) (g : Given) → (IsTaken g → GivesTaken c g (fan i l) → ⊥) → Uncounted i (given_step c g).chip
  step_uncounted l g h = record {
    missing = fan_stays c i g (λ t n e. h t (speed n e)) u.missing;
    kept = step_cases c g.event g.bytes (λ (d : Chip). NoneOrFFh (get_or d.kept i no_kept)) u.kept (λ t. taken_keeps g.bytes (read_or_not g.event));
  }

-- so do all that do not
stays_uncounted : {i : ℕ} {l : i < 4} {c : Chip} {gs : List Given} → NeverRead (fan i l) c gs → Uncounted i c → Uncounted i (chip_after c gs)
unfolding chip_after
stays_uncounted none u = u
stays_uncounted {i} {l} {c} (more {g = g} h rest) u = stays_uncounted rest (step_uncounted i c u l g h)

-- at power-on it has none
power_uncounted : (i : ℕ) → i < 4 → (s : Setup) → Uncounted i (power_on s)
unfolding IsMissing power_on given_byte
power_uncounted i l s = record {
  missing = power_unread (fan i l) s;
  kept = replicate_each NoneOrFFh 4 no_kept refl refl i;
}

uncounted_shows : {i : ℕ} → i < 4 → (c : Chip) → Uncounted i c → ShowsNoCount i c
unfolding low_byte high_byte fan_word kept_at
uncounted_shows {i} l c u =
    let m = u.missing in
    record {
      low = (rw (read_low c i l, m), rw (shown_low c i l, m));
      high = (rw (read_high c i l, m) u.kept, rw (shown_high c i l, m));
    }

-- From power-on, through any events none of which gives it a taken reading, a fan shows 3FFFh, FCh and FFh, whether or not its high byte
-- is kept. An event that is refused may say anything.
pub unread_shows : (i : ℕ) (l : i < 4) (s : Setup) (gs : List Given) → NeverRead (fan i l) (power_on s) gs → ShowsNoCount i (chip_after (power_on s) gs)
unread_shows i l s gs n = uncounted_shows l _ (stays_uncounted n (power_uncounted i l s))
