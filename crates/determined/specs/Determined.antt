-- Document 01, "What counts as done": of each public function, any two results that keep its promise are the same. Assumes nothing.
-- No promise is copied here: `Learnt` in a function's `Reads` is what the function's `ensures` in src/lib.rt tells a caller, and is made from it.
-- Each public function of the libraries has its statement under its own name, and one law, `determined`, proves them all.
use Rattle.std.specs.Prelude.{◌≡◌, List, ℕ}
use Rattle.std.proofs.Common.{sym, ◌∙◌}
use Rattle.std.specs.declared.clone.Clone.{Ghosts}
use denote.RattleType.{RattleType}
use denote.Param.Laws.{Laws, IsCopy}
use mir.Syntax.{Dict, w64}
use mir.Val.{Fits}
use Rattle.map.proofs.default_of.Reads.{Learnt as default-of-promise}
use Rattle.map.proofs.writable_of.Reads.{Learnt as writable-of-promise}
use Rattle.map.proofs.lock_marked.Reads.{Learnt as lock-marked-promise}
use Rattle.map.proofs.home_of.Reads.{Learnt as home-of-promise}
use Rattle.map.proofs.is_set.Reads.{Learnt as is-set-promise}
use Rattle.map.proofs.kind_of.Reads.{Learnt as kind-of-promise}
use Rattle.map.proofs.slave_address.Reads.{Learnt as slave-address-promise}
use Rattle.map.proofs.block_of.Reads.{Learnt as block-of-promise}
use Rattle.masks.proofs.SleepStateFromU8.from.Reads.{Learnt as sleep-state-promise}
use Rattle.masks.proofs.volt_masks.Reads.{Learnt as volt-masks-promise}
use Rattle.masks.proofs.fan_masks.Reads.{Learnt as fan-masks-promise}
use Rattle.masks.proofs.zone_masks.Reads.{Learnt as zone-masks-promise}
use Rattle.temperature.proofs.whole_byte.Reads.{Learnt as whole-byte-promise}
use Rattle.temperature.proofs.half_set.Reads.{Learnt as half-set-promise}
use Rattle.temperature.proofs.from_degrees.Reads.{Learnt as from-degrees-promise}
use Rattle.temperature.proofs.from_byte.Reads.{Learnt as from-byte-promise}
use Rattle.temperature.proofs.from_count.Reads.{Learnt as from-count-promise}
use Rattle.temperature.proofs.with_half.Reads.{Learnt as with-half-promise}
use Rattle.temperature.proofs.hotter.Reads.{Learnt as hotter-promise}
use Rattle.state.proofs.default_setup.Reads.{Learnt as default-setup-promise}
use Rattle.state.proofs.power_again.Reads.{Learnt as power-again-promise}
use Rattle.state.proofs.power_on.Reads.{Learnt as power-on-promise}
use Rattle.state.proofs.U8FromRefusal.from.Reads.{Learnt as refusal-number-promise}
use Rattle.state.proofs.at.Reads.{Learnt as at-promise}
use Rattle.state.proofs.with.Reads.{Learnt as with-promise}
use Rattle.state.proofs.zone_enabled.Reads.{Learnt as zone-enabled-promise}
use Rattle.sense.proofs.mark_missing.Reads.{Learnt as mark-missing-promise}
use Rattle.sense.proofs.errors_standing.Reads.{Learnt as errors-standing-promise}
use Rattle.sense.proofs.alert_active.Reads.{Learnt as alert-active-promise}
use Rattle.sense.proofs.compare_voltage.Reads.{Learnt as compare-voltage-promise}
use Rattle.sense.proofs.compare_count.Reads.{Learnt as compare-count-promise}
use Rattle.sense.proofs.compare_zone.Reads.{Learnt as compare-zone-promise}
use Rattle.sense.proofs.hears_zone.Reads.{Learnt as hears-zone-promise}
use Rattle.sense.proofs.volt_reading.Reads.{Learnt as volt-reading-promise}
use Rattle.sense.proofs.feeds_three.Reads.{Learnt as feeds-three-promise}
use Rattle.sense.proofs.feeds_four.Reads.{Learnt as feeds-four-promise}
use Rattle.sense.proofs.take_reset.Reads.{Learnt as take-reset-promise}
use Rattle.bus.proofs.transact.Reads.{Learnt as transact-promise}
use Rattle.bus.proofs.answers.Reads.{Learnt as answers-promise}
use Rattle.bus.proofs.change_of.Reads.{Learnt as change-of-promise}
use Rattle.bus.proofs.read_register.Reads.{Learnt as read-register-promise}
use Rattle.bus.proofs.dump.Reads.{Learnt as dump-promise}
use Rattle.bus.proofs.block_read.Reads.{Learnt as block-read-promise}
use Rattle.bus.proofs.block_written.Reads.{Learnt as block-written-promise}
use Rattle.bus.proofs.show_block.Reads.{Learnt as show-block-promise}
use Rattle.bus.proofs.write_block.Reads.{Learnt as write-block-promise}
use Rattle.drive.proofs.followed_zone.Reads.{Learnt as followed-zone-promise}
use Rattle.drive.proofs.Table.new_step.Reads.{Learnt as new-step-promise}
use Rattle.drive.proofs.asked_duty.Reads.{Learnt as asked-duty-promise}
use Rattle.drive.proofs.is_boosted.Reads.{Learnt as is-boosted-promise}
use Rattle.drive.proofs.delay_of.Reads.{Learnt as delay-of-promise}
use Rattle.drive.proofs.ramped_on.Reads.{Learnt as ramped-on-promise}
use Rattle.drive.proofs.fan_duty.Reads.{Learnt as fan-duty-promise}
use Rattle.drive.proofs.kicked_fan.Reads.{Learnt as kicked-fan-promise}
use Rattle.drive.proofs.tick.Reads.{Learnt as tick-promise}
use Rattle.event.proofs.refusal_of.Reads.{Learnt as refusal-of-promise}
use Rattle.event.proofs.take.Reads.{Learnt as take-promise}
use Rattle.event.proofs.step.Reads.{Learnt as step-promise}
use Rattle.event.proofs.dump.Reads.{Learnt as event-dump-promise}
use Rattle.event.proofs.show_block.Reads.{Learnt as event-show-block-promise}
use Rattle.text.proofs.width.Reads.{Learnt as width-promise}
use Rattle.text.proofs.line_width.Reads.{Learnt as line-width-promise}
use Rattle.text.proofs.count_fields.Reads.{Learnt as count-fields-promise}
use Rattle.text.proofs.field.Reads.{Learnt as field-promise}
use Rattle.text.proofs.next_field.Reads.{Learnt as next-field-promise}
use Rattle.text.proofs.decimal.Reads.{Learnt as decimal-promise}
use Rattle.text.proofs.hex_byte.Reads.{Learnt as hex-byte-promise}
use Rattle.text.proofs.hex_fields.Reads.{Learnt as hex-fields-promise}
use Rattle.text.proofs.write_ack.Reads.{Learnt as write-ack-promise}
use Rattle.text.proofs.write_shown.Reads.{Learnt as write-shown-promise}
use Rattle.text.proofs.write_not_shown.Reads.{Learnt as write-not-shown-promise}
use Rattle.text.proofs.write_block_shown.Reads.{Learnt as write-block-shown-promise}
use Rattle.text.proofs.write_tick.Reads.{Learnt as write-tick-promise}
use Rattle.text.proofs.write_refusal.Reads.{Learnt as write-refusal-promise}
use Rattle.parse.proofs.letter_of.Reads.{Learnt as letter-of-promise}
use Rattle.parse.proofs.event_of.Reads.{Learnt as event-of-promise}
use Rattle.parse.proofs.data_of.Reads.{Learnt as data-of-promise}
use Rattle.settings.proofs.settings_of.Reads.{Learnt as settings-of-promise}
use Rattle.line.proofs.start.Reads.{Learnt as start-promise}
use Rattle.line.proofs.take_line.Reads.{Learnt as take-line-promise}
use Rattle.line.specs.declared.Session.{Session}
use Rattle.port.proofs.power_on.Reads.{Learnt as port-power-on-promise}
use Rattle.port.proofs.take_event.Reads.{Learnt as port-take-event-promise}
use Rattle.port.proofs.take_line.Reads.{Learnt as port-take-line-promise}
use Rattle.port.proofs.dump.Reads.{Learnt as port-dump-promise}
use Rattle.port.proofs.show_block.Reads.{Learnt as port-show-block-promise}
use Rattle.lent.proofs.power_again.Reads.{Learnt as lent-power-again-promise}
use Rattle.lent.proofs.take_event.Reads.{Learnt as lent-take-event-promise}
use Rattle.lent.proofs.take_line.Reads.{Learnt as lent-take-line-promise}
use Rattle.lent.proofs.dump.Reads.{Learnt as lent-dump-promise}
use Rattle.lent.proofs.show_block.Reads.{Learnt as lent-show-block-promise}

-- a promise speaks of the lifetimes κs, the parameters a, the result r, and e, the parameters as the call leaves them. It determines what
-- is seen of r and e: any two that keep it show the same
module _ {K : Type 0} {A R E S : K → Type 0} (promise : (κs : K) → A κs → R κs → E κs → Type 0) (seen : (κs : K) → R κs → E κs → S κs) where
  abbrev pub Determines : Type 0
  Determines = (κs : K) (a : A κs) (r r' : R κs) (e e' : E κs) → promise κs a r e → promise κs a r' e' → seen κs r e ≡ seen κs r' e'

module _ {K : Type 0} {A R E : K → Type 0} (promise : (κs : K) → A κs → R κs → E κs → Type 0) where
  -- the result. A chip is passed and answered by value, so the later chip is in the result
  abbrev pub Result : Type 0
  Result = Determines promise (λ κs r e. r)

  -- the result, and what is left in a buffer that was lent to be written
  abbrev pub ResultAnd : {B : Type 0} → ((κs : K) → E κs → B) → Type 0
  ResultAnd {B} left = Determines {S = λ κs. R κs × B} promise (λ κs r e. (r, left κs e))

  -- what is left in a register file or a buffer that was lent to be written, of a function that answers nothing
  abbrev pub Left : {B : Type 0} → ((κs : K) → E κs → B) → Type 0
  Left {B} left = Determines {S = λ κs. B} promise (λ κs r e. left κs e)

-- the law: a promise that says what is seen determines it
pub determined : {K : Type 0} {A R E S : K → Type 0} {promise : (κs : K) → A κs → R κs → E κs → Type 0} {seen : (κs : K) → R κs → E κs → S κs} {said : (κs : K) → A κs → S κs}
    → ((κs : K) (a : A κs) (r : R κs) (e : E κs) → promise κs a r e → seen κs r e ≡ said κs a) → Determines promise seen
determined says κs a r r' e e' p p' = says κs a r e p ∙ sym (says κs a r' e' p')

-- an equation of the result and one of the buffer say the pair
both : {X Y : Type 0} {x x' : X} {y y' : Y} → (x ≡ x') × (y ≡ y') → ◌≡◌ {A = X × Y} (x, y) (x', y')
both p i = (p.0 i, p.1 i)

-- ---- map: the register map

pub default_of_lem : Result default-of-promise
default_of_lem = determined (λ κs a r e p. p)

pub writable_of_lem : Result writable-of-promise
writable_of_lem = determined (λ κs a r e p. p)

pub lock_marked_lem : Result lock-marked-promise
lock_marked_lem = determined (λ κs a r e p. p)

pub home_of_lem : Result home-of-promise
home_of_lem = determined (λ κs a r e p. p)

pub is_set_lem : Result is-set-promise
is_set_lem = determined (λ κs a r e p. p)

pub kind_of_lem : Result kind-of-promise
kind_of_lem = determined (λ κs a r e p. p)

pub slave_address_lem : Result slave-address-promise
slave_address_lem = determined (λ κs a r e p. p)

pub block_of : Result block-of-promise
block_of = determined (λ κs a r e p. p)

-- ---- masks: sleep masks

pub sleep_state_from : Result sleep-state-promise
sleep_state_from = determined (λ κs a r e p. p)

pub volt_masks_lem : Result volt-masks-promise
volt_masks_lem = determined (λ κs a r e p. p)

pub fan_masks_lem : Result fan-masks-promise
fan_masks_lem = determined (λ κs a r e p. p)

pub zone_masks_lem : Result zone-masks-promise
zone_masks_lem = determined (λ κs a r e p. p)

-- ---- temperature: temperatures

pub whole_byte_lem : Result whole-byte-promise
whole_byte_lem = determined (λ κs a r e p. p)

pub half_set_lem : Result half-set-promise
half_set_lem = determined (λ κs a r e p. p)

pub from_degrees_lem : Result from-degrees-promise
from_degrees_lem = determined (λ κs a r e p. p)

pub from_byte : Result from-byte-promise
from_byte = determined (λ κs a r e p. p)

pub from_count_lem : Result from-count-promise
from_count_lem = determined (λ κs a r e p. p)

pub with_half_lem : Result with-half-promise
with_half_lem = determined (λ κs a r e p. p)

pub hotter : Result hotter-promise
hotter = determined (λ κs a r e p. p)

-- ---- state: the chip's state

pub default_setup_lem : Result default-setup-promise
default_setup_lem = determined (λ κs a r e p. p)

pub power_again_lem : Result power-again-promise
power_again_lem = determined (λ κs a r e p. p)

pub power_on_lem : Result power-on-promise
power_on_lem = determined (λ κs a r e p. p)

pub refusal_number : Result refusal-number-promise
refusal_number = determined (λ κs a r e p. p)

-- of parts of any type: the readings of zones, channels and fans, and the kept bytes
pub at_lem : (T : RattleType) (laws : Laws T) (copies : IsCopy T) (clones : Ghosts T.Denot) (d : Dict) → Result (at-promise T laws copies clones d)
at_lem T laws copies clones d = determined (λ κs a r e p. p)

pub with_lem : (T : RattleType) (n : ℕ) (laws : Laws T) (fits : Fits w64 n) (copies : IsCopy T) (clones : Ghosts T.Denot) (d : Dict) → Result (with-promise T n laws fits copies clones d)
with_lem T n laws fits copies clones d = determined (λ κs a r e p. p)

pub zone_enabled_lem : Result zone-enabled-promise
zone_enabled_lem = determined (λ κs a r e p. p)

-- ---- sense: readings, errors and ALERT

pub mark_missing_lem : Left mark-missing-promise (λ κs e. e.0.now)
mark_missing_lem = determined (λ κs a r e p. p)

pub errors_standing_lem : Result errors-standing-promise
errors_standing_lem = determined (λ κs a r e p. p)

pub alert_active_lem : Result alert-active-promise
alert_active_lem = determined (λ κs a r e p. p)

pub compare_voltage_lem : ResultAnd compare-voltage-promise (λ κs e. e.0.now)
compare_voltage_lem = determined (λ κs a r e p. both p)

pub compare_count_lem : Left compare-count-promise (λ κs e. e.0.now)
compare_count_lem = determined (λ κs a r e p. p)

pub compare_zone_lem : Left compare-zone-promise (λ κs e. e.0.now)
compare_zone_lem = determined (λ κs a r e p. p)

pub hears_zone_lem : Result hears-zone-promise
hears_zone_lem = determined (λ κs a r e p. p)

pub volt_reading_lem : Result volt-reading-promise
volt_reading_lem = determined (λ κs a r e p. p)

pub feeds_three_lem : Result feeds-three-promise
feeds_three_lem = determined (λ κs a r e p. p)

pub feeds_four_lem : Result feeds-four-promise
feeds_four_lem = determined (λ κs a r e p. p)

pub take_reset_lem : Left take-reset-promise (λ κs e. e.0.now)
take_reset_lem = determined (λ κs a r e p. p)

-- ---- bus: bus answers, the register dump, and blocks

pub transact : Result transact-promise
transact = determined (λ κs a r e p. p)

pub answers : Result answers-promise
answers = determined (λ κs a r e p. p)

pub change_of_lem : Result change-of-promise
change_of_lem = determined (λ κs a r e p. p)

pub read_register_lem : Result read-register-promise
read_register_lem = determined (λ κs a r e p. p)

pub dump : ResultAnd dump-promise (λ κs e. e.1.0.now)
dump = determined (λ κs a r e p. both p)

pub block_read : Result block-read-promise
block_read = determined (λ κs a r e p. p)

pub block_written : Result block-written-promise
block_written = determined (λ κs a r e p. p)

pub show_block_lem : Left show-block-promise (λ κs e. e.1.1.0.now)
show_block_lem = determined (λ κs a r e p. p)

pub write_block_lem : ResultAnd write-block-promise (λ κs e. e.0.now)
write_block_lem = determined (λ κs a r e p. both p)

-- ---- drive: fan duties

pub followed_zone_lem : Result followed-zone-promise
followed_zone_lem = determined (λ κs a r e p. p)

pub new_step_lem : Result new-step-promise
new_step_lem = determined (λ κs a r e p. p)

pub asked_duty_lem : Result asked-duty-promise
asked_duty_lem = determined (λ κs a r e p. p)

pub is_boosted_lem : Result is-boosted-promise
is_boosted_lem = determined (λ κs a r e p. p)

pub delay_of_lem : Result delay-of-promise
delay_of_lem = determined (λ κs a r e p. p)

pub ramped_on_lem : Result ramped-on-promise
ramped_on_lem = determined (λ κs a r e p. p)

pub fan_duty_lem : Result fan-duty-promise
fan_duty_lem = determined (λ κs a r e p. p)

pub kicked_fan_lem : Result kicked-fan-promise
kicked_fan_lem = determined (λ κs a r e p. p)

pub tick : Result tick-promise
tick = determined (λ κs a r e p. p)

-- ---- event: events

pub refusal_of_lem : Result refusal-of-promise
refusal_of_lem = determined (λ κs a r e p. p)

pub take_lem : ResultAnd take-promise (λ κs e. e.0.now)
take_lem = determined (λ κs a r e p. both p)

pub step : Result step-promise
step = determined (λ κs a r e p. p)

-- `dump` of a whole chip
pub event_dump : ResultAnd event-dump-promise (λ κs e. e.1.0.now)
event_dump = determined (λ κs a r e p. both p)

-- and `show_block`
pub event_show_block : Left event-show-block-promise (λ κs e. e.1.1.0.now)
event_show_block = determined (λ κs a r e p. p)

-- ---- text: fields, decimals, bus fields, and answers written into a lent buffer

-- its promise has two parts, and the second is the equation
pub width : Result width-promise
width = determined (λ κs a r e p. p.1)

-- as that of `width`
pub line_width_lem : Result line-width-promise
line_width_lem = determined (λ κs a r e p. p.1)

pub count_fields_lem : Result count-fields-promise
count_fields_lem = determined (λ κs a r e p. p)

-- it answers a part of the line that it was lent: the bytes are determined, and of where they lie the promise says nothing
pub field : Determines field-promise (λ κs r e. r.now)
field = determined (λ κs a r e p. p)

-- as that of `width`
pub next_field : Result next-field-promise
next_field = determined (λ κs a r e p. p.1)

pub decimal : Result decimal-promise
decimal = determined (λ κs a r e p. p)

pub hex_byte_lem : Result hex-byte-promise
hex_byte_lem = determined (λ κs a r e p. p)

pub hex_fields_lem : ResultAnd hex-fields-promise (λ κs e. e.1.1.0.now)
hex_fields_lem = determined (λ κs a r e p. both p)

pub write_ack_lem : ResultAnd write-ack-promise (λ κs e. e.0.now)
write_ack_lem = determined (λ κs a r e p. both p)

pub write_shown_lem : ResultAnd write-shown-promise (λ κs e. e.0.now)
write_shown_lem = determined (λ κs a r e p. both p)

pub write_not_shown_lem : ResultAnd write-not-shown-promise (λ κs e. e.0.now)
write_not_shown_lem = determined (λ κs a r e p. both p)

-- of the text of a block
pub write_block_shown_lem : ResultAnd write-block-shown-promise (λ κs e. e.0.now)
write_block_shown_lem = determined (λ κs a r e p. both p)

pub write_tick_lem : ResultAnd write-tick-promise (λ κs e. e.0.now)
write_tick_lem = determined (λ κs a r e p. both p)

pub write_refusal_lem : ResultAnd write-refusal-promise (λ κs e. e.0.now)
write_refusal_lem = determined (λ κs a r e p. both p)

-- ---- parse: events as lines

pub letter_of_lem : Result letter-of-promise
letter_of_lem = determined (λ κs a r e p. p)

pub event_of_lem : Result event-of-promise
event_of_lem = determined (λ κs a r e p. p)

pub data_of : ResultAnd data-of-promise (λ κs e. e.1.0.now)
data_of = determined (λ κs a r e p. both p)

-- ---- settings: the setup as a line

pub settings_of_lem : Result settings-of-promise
settings_of_lem = determined (λ κs a r e p. p)

-- ---- line: lines and refusals

pub start : Result start-promise
start = determined (λ κs a r e p. p)

pub take_line_lem : ResultAnd take-line-promise (λ κs e. e.1.1.0.now)
take_line_lem = determined (λ κs a r e p. both p)

-- ---- port: the chip that stays with the caller

pub port_power_on : ResultAnd port-power-on-promise (λ κs e. e.0.now)
port_power_on = determined (λ κs a r e p. both p)

pub port_take_event : ResultAnd port-take-event-promise (λ κs e. e.0.now)
port_take_event = determined (λ κs a r e p. both p)

pub port_take_line : ResultAnd port-take-line-promise {B = Session × List ℕ} (λ κs e. (e.0.now, e.1.1.0.now))
port_take_line = determined (λ κs a r e p. both (p.0, both (p.1, p.2)))

pub port_dump : ResultAnd port-dump-promise (λ κs e. e.1.0.now)
port_dump = determined (λ κs a r e p. both p)

pub port_show_block : Left port-show-block-promise (λ κs e. e.1.1.0.now)
port_show_block = determined (λ κs a r e p. p)

-- ---- lent: a chip by value, lent to port

pub lent_power_again : Result lent-power-again-promise
lent_power_again = determined (λ κs a r e p. p)

pub lent_take_event : Result lent-take-event-promise
lent_take_event = determined (λ κs a r e p. p)

pub lent_take_line : ResultAnd lent-take-line-promise (λ κs e. e.1.1.0.now)
lent_take_line = determined (λ κs a r e p. both p)

pub lent_dump : ResultAnd lent-dump-promise (λ κs e. e.1.0.now)
lent_dump = determined (λ κs a r e p. both p)

pub lent_show_block : Left lent-show-block-promise (λ κs e. e.1.1.0.now)
lent_show_block = determined (λ κs a r e p. p)
