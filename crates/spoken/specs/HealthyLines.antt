-- A sensor that was never read cannot look healthy, said of lines of text, an S line too, and of what they print. Assumes nothing.
use Rattle.std.specs.Prelude.{◌≡◌, refl, true, false, List, [], ◌∷◌, ℕ, ◌≤◌, T, None, Result, Ok, Err}
use Rattle.map.specs.Bits.{is_set}
use Rattle.map.specs.Names.{CONFIGURATION, FIXED_BLOCK_0, FIXED_BLOCK_1, GMSK}
use Rattle.state.specs.Parts.{register_at}
use Rattle.state.specs.PowerOn.{default_setup}
use Rattle.event.specs.declared.Event.{Event}
use Rattle.event.specs.declared.Tick.{Tick as Shown}
use Rattle.text.specs.Answers.{tick_text}
use Rattle.line.specs.declared.Session.{Session}
use Rattle.line.specs.declared.Asked.{Asked}
use Rattle.line.specs.declared.Asked.TheVariants as asked
use Rattle.line.specs.Line.{Judged, start_session, asked_text, refused_line, begun_line, setup_line, event_line, judged_by, judged_line, answer_text}
use Rattle.line.specs.Session.{session_after, printed_by, printed_unless}
use Rattle.theorems.specs.Sensors.{Sensor, IsMissing, is_watched, is_masked, GivesTaken, bmc_register, host_register, error_bit, LooksBroken}
use Rattle.theorems.specs.ShownBytes.{ShowsBit}
use Rattle.theorems.specs.Unread.{power_unread}
use Rattle.theorems.proofs.Unread.{step_unread, unread_broken}
use Rattle.spoken.specs.TakenLine.{given_by}
use Rattle.spoken.specs.SaidLines.{lines_sized}
use Rattle.spoken.specs.TickLine.{K, tick_line}
use Rattle.spoken.specs.ReadLines.{PrintsBit, bit_printed}
use Rattle.state.specs.declared.Refusal.{Refusal}
use Rattle.spoken.specs.BlockLines.{PrintsBitIn, block_printed}

-- no line asks for an event that gives the sensor a taken reading, from a session on; a line that is refused may say anything, since it asks
-- for no event
pub data NeverReadBy (x : Sensor) : Session → List (List ℕ) → Type 0 where
  none : {s : Session} → NeverReadBy x s []
  more : {s : Session} {l : List ℕ} {ls : List (List ℕ)} → ((e : Event) → asked_text s.begun l ≡ Ok (asked.Event e) → GivesTaken s.chip (given_by l e) x → ⊥) → NeverReadBy x (judged_line s l).session ls → NeverReadBy x s (l ∷ ls)

-- a line that is taken and prints a tick with an error, and with ALERT unless GMSK is set; after it both groups show the sensor's bit,
-- to byte reads as in the dump, and R lines print it, and so do G lines of F2h, the BMC group, and of F3h, the Host group
pub record PrintsBroken (x : Sensor) (line : Judged) : Type 0 where
  pub taken : line.refusal ≡ None
  pub tick : Shown
  pub prints : (n : ℕ) → printed_by line n ≡ tick_text tick.alert tick.duty1 tick.duty2 tick.output1 tick.output2 tick.errors
  pub alert : (T (is_set (register_at line.session.chip CONFIGURATION) GMSK) → ⊥) → tick.alert ≡ true
  pub errors : 1 ≤ tick.errors
  pub in_bmc : ShowsBit line.session.chip (bmc_register x) (error_bit x)
  pub in_host : ShowsBit line.session.chip (host_register x) (error_bit x)
  pub read_bmc : PrintsBit line.session (bmc_register x) (error_bit x)
  pub read_host : PrintsBit line.session (host_register x) (error_bit x)
  pub block_bmc : PrintsBitIn line.session FIXED_BLOCK_0 (bmc_register x) (error_bit x)
  pub block_host : PrintsBitIn line.session FIXED_BLOCK_1 (host_register x) (error_bit x)

-- ---- K

-- what a tick tells of a sensor, K prints
broken_prints : (x : Sensor) (s : Session) → LooksBroken x s.chip → PrintsBroken x (judged_line s K)
unfolding event_line begun_line printed_by printed_unless answer_text
broken_prints x s b = rw (tick_line s) (record {
  taken = refl;
  tick = b.tick;
  prints = λ n. rw b.answers;
  alert = b.alert;
  errors = b.errors;
  in_bmc = b.in_bmc;
  in_host = b.in_host;
  read_bmc = bit_printed _ _ _ b.in_bmc.0;
  read_host = bit_printed _ _ _ b.in_host.0;
  block_bmc = block_printed _ _ _ _ b.block_bmc;
  block_host = block_printed _ _ _ _ b.block_host;
})

-- ---- the lines before it

-- what a line asks for, if it does not give the sensor a reading, leaves it without
asked_unread : (x : Sensor) (s : Session) (l : List ℕ) (a : Result Asked Refusal) → ((e : Event) → a ≡ Ok (asked.Event e) → GivesTaken s.chip (given_by l e) x → ⊥) → IsMissing x s.chip → IsMissing x (judged_by s l a).session.chip
unfolding judged_by setup_line refused_line event_line begun_line
asked_unread x s l (Ok asked.Setup) h m = power_unread x _
asked_unread x s l (Err n) h m = m
asked_unread x s l (Ok (asked.Event e)) h m = step_unread x s.chip (given_by l e) (λ t k. h e refl k) m

-- so do the lines, one after the other
stays_unread : {x : Sensor} {s : Session} {ls : List (List ℕ)} → NeverReadBy x s ls → IsMissing x s.chip → IsMissing x (session_after s ls).chip
unfolding session_after judged_line
stays_unread none m = m
stays_unread {x} {s} (more {l = l} h rest) m = stays_unread rest (asked_unread x s l (asked_text s.begun l) h m)

module _ (x : Sensor) (ls : List (List ℕ)) where
  -- A sensor without a taken reading when a line K comes, watched and not masked then, looks broken in what that line prints and R and G lines
  -- after it. The lines are any that can come before a K, G and P among them.
  pub missing_broken_lines : IsMissing x (session_after start_session ls).chip → T (is_watched x (session_after start_session ls).chip) → is_masked x (session_after start_session ls).chip.registers ≡ false → PrintsBroken x (judged_line (session_after start_session ls) K)
  missing_broken_lines m w u = broken_prints x _ (unread_broken x _ (lines_sized ls).registers m w u)

  -- and one that was never read is such a sensor
  pub never_read_lines : NeverReadBy x start_session ls → T (is_watched x (session_after start_session ls).chip) → is_masked x (session_after start_session ls).chip.registers ≡ false → PrintsBroken x (judged_line (session_after start_session ls) K)
  unfolding start_session
  never_read_lines r = missing_broken_lines (stays_unread r (power_unread x default_setup))
