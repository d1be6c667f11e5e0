-- Document 01, "Lines and refusals", as document 02, Q-1, amends it: one line given to the chip. Assumes nothing.
use Rattle.std.specs.Prelude.{Bool, true, false, List, [], ℕ, Option, Some, None, Result, Ok, Err, eqb, ltb, length, get_or}
use Rattle.laws.specs.Pick.{pick}
use Rattle.state.specs.declared.Chip.{Chip}
use Rattle.state.specs.declared.Setup.{Setup}
use Rattle.state.specs.declared.Refusal.{Refusal}
use Rattle.state.specs.declared.Refusal.TheVariants as refusal
use Rattle.state.specs.Refusal.{number_of}
use Rattle.state.specs.PowerOn.{default_setup, power_on}
use Rattle.bus.specs.Block.{block_bytes}
use Rattle.event.specs.declared.Event.{Event}
use Rattle.event.specs.declared.Answer.{Answer}
use Rattle.event.specs.declared.Answer.TheVariants as answer
use Rattle.event.specs.Event.{refusal_of, stepped_chip}
use Rattle.text.specs.Answers.{ack_text, byte_text, no_byte_text, block_text, tick_text, ROOM, BLOCK_ROOM, wrote_length, wrote_into}
use Rattle.parse.specs.Parse.{letter_of, event_of, data_of}
use Rattle.settings.specs.Settings.{settings_of, setup_or_default}
use Rattle.line.specs.declared.Session.{Session}
use Rattle.line.specs.declared.Taken.{Taken}
use Rattle.line.specs.declared.Asked.{Asked}
use Rattle.line.specs.declared.Asked.TheVariants as asked

-- "Without a setup", and no line taken
unfoldable pub start_session : Session
start_session = record { chip = power_on default_setup; begun = false }

-- ---- what a line asks for: "The first that applies, in this order"

-- refusal 2 is the event's own, and so would be 4 for more than 32 bytes beside it, which no line carries (`asked-data`)
unfoldable pub asked_unless : Event → Option Refusal → Result Asked Refusal
asked_unless e None = Ok (asked.Event e)
asked_unless e (Some r) = Err r

unfoldable pub asked_event : Event → List ℕ → Result Asked Refusal
asked_event e bytes = asked_unless e (refusal_of e bytes)

-- an S line, by the refusal of its settings: 4 first; refusal 3: "S after any taken line"; then refusal 1
unfoldable pub asked_settings : Bool → Result Setup Refusal → Result Asked Refusal
asked_settings begun (Ok s) = pick begun (Err refusal.Late) (Ok asked.Setup)
asked_settings begun (Err r) = pick (eqb (number_of r) 4) (Err r) (pick begun (Err refusal.Late) (Err r))

-- a line that says no event: "S carries a setup", 83 is the letter S; refusal 4: "unknown letter, field count or spelling wrong"
unfoldable pub asked_other : Bool → List ℕ → Result Asked Refusal
asked_other begun line = pick (eqb (letter_of line) 83) (asked_settings begun (settings_of line)) (Err refusal.Spelling)

unfoldable pub asked_by : Bool → List ℕ → Option Event → Result Asked Refusal
asked_by begun line None = asked_other begun line
asked_by begun line (Some e) = asked_event e (data_of line)

-- refusal 4: "line too long", "at most 512 bytes before the line feed"
unfoldable pub asked_text : Bool → List ℕ → Result Asked Refusal
asked_text begun line = pick (ltb 512 (length line)) (Err refusal.Spelling) (asked_by begun line (event_of line))

-- "under 64 bytes"; 02: "for a line that begins with G, an output under 128 bytes is 5, in its old place". 71 is G
unfoldable pub room_for : List ℕ → ℕ
room_for line = pick (eqb (get_or line 0 0) 71) BLOCK_ROOM ROOM

-- refusal 5: the lent output has less than that
unfoldable pub asked_line : Bool → ℕ → List ℕ → Result Asked Refusal
asked_line begun room line = pick (ltb room (room_for line)) (Err refusal.Room) (asked_text begun line)

-- ---- what comes of it

-- what a line makes of a session: no refusal or its own, and its answer
pub record Judged : Type 0 where
  pub session : Session
  pub refusal : Option Refusal
  pub answer : Answer

-- "It returns its number and length 0; chip and buffers stay."
unfoldable pub refused_line : Session → Refusal → Judged
refused_line s r = record { session = s; refusal = Some r; answer = answer.Nothing }

-- a line that is taken: from now on S is refused
unfoldable pub begun_line : Chip → Answer → Judged
begun_line c a = record { session = record { chip = c; begun = true }; refusal = None; answer = a }

-- a setup that is taken
unfoldable pub setup_line : List ℕ → Judged
setup_line line = begun_line (power_on (setup_or_default (settings_of line))) answer.Nothing

-- an event that is taken, with the bytes beside it
unfoldable pub event_line : Chip → Event → List ℕ → Judged
event_line c e bytes = begun_line (stepped_chip c e bytes).chip (stepped_chip c e bytes).answer

-- by what the line asks for
unfoldable pub judged_by : Session → List ℕ → Result Asked Refusal → Judged
judged_by s line (Ok asked.Setup) = setup_line line
judged_by s line (Err r) = refused_line s r
judged_by s line (Ok (asked.Event e)) = event_line s.chip e (data_of line)

-- a line with room for its answer
unfoldable pub judged_line : Session → List ℕ → Judged
judged_line s line = judged_by s line (asked_text s.begun line)

-- ---- its reply, and the lent output

-- the text that an answer prints; the bytes of a block are those that the chip shows then. 87 is W, 82 R, 71 G, 80 P
unfoldable pub answer_text : Chip → Answer → List ℕ
answer_text c answer.Nothing = []
answer_text c (answer.Refused n) = []
answer_text c (answer.Acknowledged ack) = ack_text 87 ack
answer_text c (answer.Byte (Some b)) = byte_text b
answer_text c (answer.Byte None) = no_byte_text 82
answer_text c (answer.Ticked t) = tick_text t.alert t.duty1 t.duty2 t.output1 t.output2 t.errors
answer_text c (answer.Block (Some b)) = block_text (block_bytes c b.first b.count)
answer_text c (answer.Block None) = no_byte_text 71
answer_text c (answer.BlockWritten ack) = ack_text 80 ack

-- the room that it is written into
unfoldable pub answer_room : Answer → ℕ
answer_room answer.Nothing = ROOM
answer_room (answer.Refused n) = ROOM
answer_room (answer.Acknowledged ack) = ROOM
answer_room (answer.Byte b) = ROOM
answer_room (answer.Ticked t) = ROOM
answer_room (answer.Block (Some b)) = BLOCK_ROOM
answer_room (answer.Block None) = ROOM
answer_room (answer.BlockWritten ack) = ROOM

-- "It returns its number and length 0", "A taken line returns 0 and its answer's length" (`state`: Refusal has number and length of each)
unfoldable pub replied : Option Refusal → ℕ → Result ℕ Refusal
replied None n = Ok n
replied (Some r) n = Err r

-- the session, and the refusal or the answer's length
unfoldable pub taken_by : Judged → List ℕ → Taken
taken_by j out =
    record { session = j.session; reply = replied j.refusal (wrote_length (answer_room j.answer) (answer_text j.session.chip j.answer) out) }

-- the reply of a line that answers nothing
unfoldable pub silent_line : Judged → Taken
silent_line j = record { session = j.session; reply = replied j.refusal 0 }

-- the output with the answer's bytes at its start
unfoldable pub buffer_by : Judged → List ℕ → List ℕ
buffer_by j out = wrote_into (answer_room j.answer) (answer_text j.session.chip j.answer) out

-- a line with the output that is lent for its answer
unfoldable pub judged_in : Session → List ℕ → ℕ → Judged
judged_in s line room = judged_by s line (asked_line s.begun room line)

-- "A taken line returns 0 and its answer's length": `line::take_line`
unfoldable pub taken_line : Session → List ℕ → List ℕ → Taken
taken_line s line out = taken_by (judged_in s line (length out)) out

-- "and writes only that answer's bytes, line feed included"
unfoldable pub buffer_after : Session → List ℕ → List ℕ → List ℕ
buffer_after s line out = buffer_by (judged_in s line (length out)) out
