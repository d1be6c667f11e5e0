-- What the code hands on: the same events, with numbers no larger than their types hold. No event can tell (law `clamped-taken`).
-- Assumes nothing.
use Rattle.std.specs.Prelude.{ℕ, ◌<◌, min, ◌≡◌, refl, Option, None, Some, ℤ, pos, negsuc}
use Rattle.std.proofs.Common.{arith}
use Rattle.laws.specs.Pick.{pick}
use Rattle.temperature.specs.declared.Stated.{Stated}
use Rattle.temperature.specs.declared.Stated.TheVariants as stated
use Rattle.event.specs.declared.Event.{Event}
use Rattle.event.specs.declared.Event.TheVariants.{Temperature, Voltage, Fan, Hot, Pin, Tick, Reset, Write, Read, ReadBlock, WriteBlock}
use Rattle.event.specs.Event.{index_in, reading_within, stated_in, count_in, level_in, event_in}
use Rattle.text.specs.declared.Number.{Number}
use Rattle.text.specs.declared.Number.TheVariants as number
use Rattle.text.specs.Number.{top}
use Rattle.parse.specs.Unseen.{Unseen, same, held_unseen, one_unseen, both_unseen}

-- a number that is spelled right, as `saturated` of `text` has it
unfoldable pub held : Number → Number
held number.Dash = number.Dash
held (number.Plus v) = number.Plus (min v top)
held (number.Minus v) = number.Minus (min v top)

unfoldable pub saturated_pair : Option (Number × Number) → Option (Number × Number)
saturated_pair None = None
saturated_pair (Some (i, v)) = Some (held i, held v)

abbrev pub clamped_index : ℕ → ℕ
clamped_index n = min n 255

abbrev pub clamped_signed : ℤ → ℤ
clamped_signed (pos n) = pos (min n 32767)
clamped_signed (negsuc n) = negsuc (min n 32766)

abbrev pub clamped_stated : Stated → Stated
clamped_stated stated.Missing = stated.Missing
clamped_stated (stated.Halves h) = stated.Halves (clamped_signed h)
clamped_stated (stated.Sixteenths n) = stated.Sixteenths (clamped_signed n)

abbrev pub clamped_count : Option ℕ → Option ℕ
clamped_count None = None
clamped_count (Some n) = Some (min n 65535)

abbrev pub clamped_event : Event → Event
clamped_event (Temperature zone s) = Temperature (clamped_index zone) (clamped_stated s)
clamped_event (Voltage channel n) = Voltage (clamped_index channel) (clamped_count n)
clamped_event (Fan fan n) = Fan (clamped_index fan) (clamped_count n)
clamped_event (Hot input level) = Hot (clamped_index input) (clamped_count level)
clamped_event (Pin level) = Pin (clamped_count level)
clamped_event Tick = Tick
clamped_event Reset = Reset
clamped_event (Write address a byte) = Write address a byte
clamped_event (Read address a) = Read address a
clamped_event (ReadBlock address command) = ReadBlock address command
clamped_event (WriteBlock address command) = WriteBlock address command

abbrev pub clamped_parsed : Option Event → Option Event
clamped_parsed None = None
clamped_parsed (Some e) = Some (clamped_event e)

-- ---- no range can tell

index_unseen : (n most : ℕ) → most < 255 → Unseen (index_in most) (clamped_index n) n
unfolding index_in
index_unseen n most h = grind (arith, held_unseen n 255 most h)

-- a signed number, of a range that begins below 0
signed_unseen : (n : ℤ) (least most : ℕ) → least < 32766 → most < 32767 → Unseen (reading_within (negsuc least) (pos most)) (clamped_signed n) n
unfolding reading_within
signed_unseen (pos n) least most h k = grind (arith, held_unseen n 32767 most k)
signed_unseen (negsuc n) least most h k = grind (arith, held_unseen n 32766 least h)

stated_unseen : (s : Stated) → Unseen stated_in (clamped_stated s) s
unfolding stated_in
stated_unseen stated.Missing = same refl
stated_unseen (stated.Halves h) = grind (arith, signed_unseen h 253 255)
stated_unseen (stated.Sixteenths n) = grind (arith, signed_unseen n 2031 2040)

count_unseen : (n : Option ℕ) (most : ℕ) → most < 65535 → Unseen (count_in most) (clamped_count n) n
unfolding count_in
count_unseen None most h = same refl
count_unseen (Some n) most h = grind (arith, held_unseen n 65535 most h)

level_unseen : (n : Option ℕ) (most : ℕ) → most < 65535 → Unseen (level_in most) (clamped_count n) n
unfolding level_in
level_unseen None most h = same refl
level_unseen (Some n) most h = grind (arith, held_unseen n 65535 most h)

-- no event can tell: what is made of it where its numbers are in range, and only there, is the same
pub clamped_taken : {A : Type 0} (made : Event → A) (refused : A) (e : Event) → pick (event_in (clamped_event e)) (made (clamped_event e)) refused ≡ pick (event_in e) (made e) refused
unfolding event_in
clamped_taken made refused (Temperature zone s) =
    both_unseen (λ i x. made (Temperature i x)) refused (index_unseen zone 5 (omega arith)) (stated_unseen s)
clamped_taken made refused (Voltage channel n) =
    both_unseen (λ i x. made (Voltage i x)) refused (index_unseen channel 16 (omega arith)) (count_unseen n 255 (omega arith))
clamped_taken made refused (Fan fan n) =
    both_unseen (λ i x. made (Fan i x)) refused (index_unseen fan 4 (omega arith)) (count_unseen n 16383 (omega arith))
clamped_taken made refused (Hot input level) =
    both_unseen (λ i x. made (Hot i x)) refused (index_unseen input 4 (omega arith)) (level_unseen level 1 (omega arith))
clamped_taken made refused (Pin level) = one_unseen (λ x. made (Pin x)) refused (level_unseen level 2 (omega arith))
clamped_taken made refused Tick = refl
clamped_taken made refused Reset = refl
clamped_taken made refused (Write address a byte) = refl
clamped_taken made refused (Read address a) = refl
clamped_taken made refused (ReadBlock address command) = refl
clamped_taken made refused (WriteBlock address command) = refl
