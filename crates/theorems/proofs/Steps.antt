-- Alike events, none refused, leave a chip that is no hotter than another no hotter, and answer no higher duties. Assumes nothing.
use Rattle.std.specs.Prelude.{◌≡◌, Bool, List, [], ℕ, ◌-◌, eqb, Option, Some, None}
use Rattle.laws.specs.Pointwise.{pick_related}
use Rattle.map.specs.declared.Block.{Block}
use Rattle.temperature.specs.Temperature.{stated_reading}
use Rattle.temperature.specs.Order.{no_hotter_refl}
use Rattle.state.specs.declared.Chip.{Chip}
use Rattle.state.specs.declared.Drive.{Drive}
use Rattle.state.specs.Valid.{Valid}
use Rattle.state.specs.Order.{DriveNoHigher, SameButZones}
use Rattle.sense.specs.Missing.{missed}
use Rattle.laws.specs.Never.{never}
use Rattle.drive.specs.TickOrder.{duty_rises, tick_cooler}
use Rattle.event.specs.declared.Event.{Event}
use Rattle.event.specs.declared.Event.TheVariants.{Temperature, Voltage, Fan, Hot, Pin, Tick, Reset, Write, Read, ReadBlock, WriteBlock}
use Rattle.event.specs.declared.Answer.TheVariants.{Nothing, Refused, Acknowledged, Ticked, BlockWritten}
use Rattle.event.specs.declared.Tick.{Tick as Shown}
use Rattle.event.specs.Event.{event_in, refusal_of, quiet_step, refused_step, written_answer, seen_answer, read_answer, block_answer, seen_block_answer, written_block_answer, taken_step, stepped_chip}
use Rattle.event.specs.Run.{Given, given_step}
use Rattle.event.specs.Refusal.{step_taken, taken_number}
use Rattle.event.specs.SameShape.{missed_shape}
use Rattle.event.specs.Ticking.{tick_chip, tick_leaves, tick_shown, tick_answers}
use Rattle.theorems.specs.Alike.{Alike, same, hotter, ticks, others}
use Rattle.theorems.specs.Beside.{ZonesCooler, Under, beside, under_beside}
use Rattle.theorems.specs.Events.{itself, temperature_under, voltage_under, fan_under, hot_under, pin_under, reset_under, missed_under, write_under, read_under, read_block_under, write_block_under}
use Rattle.state.specs.declared.Refusal.{Refusal}
use Rattle.temperature.specs.declared.Reading.{Reading}
use Rattle.std.specs.Option.{option_map_or}
use Rattle.theorems.specs.Steps.{NotRefused, Rises}

-- ---- answers that are no tick's

nothing : (t : Shown) → Nothing ≡ Ticked t → ⊥
nothing t e = never (cc)

refused : (r : Refusal) (t : Shown) → Refused r ≡ Ticked t → ⊥
refused n t e = never (cc)

acknowledged : (ack : Bool) (t : Shown) → Acknowledged ack ≡ Ticked t → ⊥
acknowledged ack t e = never (cc)

seen : (shown : Option ℕ) (t : Shown) → seen_answer shown ≡ Ticked t → ⊥
unfolding seen_answer
seen shown t e = never (cc)

block : (b : Option Block) (t : Shown) → block_answer b ≡ Ticked t → ⊥
unfolding block_answer
block b t e = never (cc)

block_written : (ack : Bool) (t : Shown) → BlockWritten ack ≡ Ticked t → ⊥
block_written ack t e = never (cc)

-- a taken event that answers nothing
quiet_rises : {c d : Chip} → Under c d → Rises (quiet_step c) (quiet_step d)
unfolding quiet_step
quiet_rises k = record { chips = k; answers = others nothing nothing }

-- a refused event
refused_rises : (refusal : Refusal) {c d : Chip} → Under c d → Rises (refused_step c refusal) (refused_step d refusal)
unfolding refused_step
refused_rises refusal k = record { chips = k; answers = others (refused refusal) (refused refusal) }

-- an event that is not refused is taken
not_refused_taken : (c : Chip) (g : Given) → NotRefused c g → given_step c g ≡ taken_step c g.event g.bytes
not_refused_taken c g f = step_taken c g.event g.bytes (taken_number c g.event g.bytes f)

-- ---- the same event

module _ (c : Chip) {file : List ℕ} {zs : List Reading} {x : Drive} (v : Valid c.setup) (b : SameButZones c.registers file) (z : ZonesCooler c.zones zs) (n : DriveNoHigher c.drive x) where
  abbrev d : Chip
  d = beside c file zs x

  -- K: the missing marks are the same but for the zones', and the tick goes by order
  tick_rises : Rises (stepped_chip c Tick []) (stepped_chip d Tick [])
  unfolding tick_shown
  tick_rises = record {
    chips = record {
      many = rw ((tick_leaves c).zones, (tick_leaves d).zones) u.many;
      cooler = rw (tick_chip c, tick_chip d) (tick_cooler valid u.cooler);
    };
    answers = rw (tick_answers c, tick_answers d) (ticks (duty_rises valid u.cooler 0) (duty_rises valid u.cooler 1));
  }
    where
      u : Under (missed c) (missed d)
      u = missed_under c b z n

      valid : Valid (missed c).setup
      valid = rw (missed_shape c).setup v

  -- each event, taken by both
  taken_rises : (e : Event) (bytes : List ℕ) → Rises (taken_step c e bytes) (taken_step d e bytes)
  unfolding stepped_chip refusal_of event_in taken_step written_answer read_answer seen_block_answer written_block_answer
  taken_rises (Temperature zone s) bytes = quiet_rises (temperature_under c b z n (zone - 1) (no_hotter_refl (stated_reading s)))
  taken_rises (Voltage channel count) bytes = quiet_rises (voltage_under c b z n (channel - 1) count)
  taken_rises (Fan fan count) bytes = quiet_rises (fan_under c b z n (fan - 1) count)
  taken_rises (Hot input level) bytes = quiet_rises (hot_under c b z n (input - 1) _)
  taken_rises (Pin level) bytes = quiet_rises (pin_under c b z n _)
  taken_rises Tick bytes = tick_rises
  taken_rises Reset bytes = quiet_rises (reset_under c b z n)
  taken_rises (Write address a byte) bytes = record { chips = write_under c b z n address a byte; answers = others (acknowledged _) (acknowledged _) }
  taken_rises (Read address a) bytes = record { chips = read_under c b z n address a; answers = others (seen _) (seen _) }
  taken_rises (ReadBlock address command) bytes = record { chips = read_block_under c b z n address command; answers = others (block _) (block _) }
  taken_rises (WriteBlock address command) bytes =
      record { chips = write_block_under c b z n address command bytes; answers = others (block_written _) (block_written _) }

  -- taken by both or refused by both
  same_rises : (g : Given) → Rises (given_step c g) (given_step d g)
  unfolding stepped_chip
  same_rises g =
      go (refusal_of g.event g.bytes)
    where
      go : (r : Option Refusal) → Rises (option_map_or (refused_step c) r (taken_step c g.event g.bytes)) (option_map_or (refused_step d) r (taken_step d g.event g.bytes))
      go None = taken_rises g.event g.bytes
      go (Some r) = refused_rises r (itself c b z n)

  -- alike events: the same, or a T or U that is hotter for the second
  alike_rises : {g h : Given} → Alike g h → NotRefused c g → NotRefused d h → Rises (given_step c g) (given_step d h)
  unfolding taken_step
  alike_rises (same g) p q = same_rises g
  alike_rises (hotter zone bytes {r} {s} t) p q =
      rw (not_refused_taken c _ p, not_refused_taken d _ q) (quiet_rises (temperature_under c b z n (zone - 1) {r = stated_reading r} {s = stated_reading s} t))

-- alike events, not refused, of any two chips of which the first is no hotter
pub steps_rise : {c d : Chip} {g h : Given} → Valid c.setup → Under c d → Alike g h → NotRefused c g → NotRefused d h → Rises (given_step c g) (given_step d h)
steps_rise {c} {g = g} {h = h} v u a p =
    under_beside (λ (d : Chip). NotRefused d h → Rises (given_step c g) (given_step d h)) (λ file zs x b z n q. alike_rises c v b z n a p q) u
