-- What the functions on a chip that stays with the caller promise: of what they are given, what they answer, and what they leave in its
-- place. Assumes nothing.
use Rattle.std.specs.Prelude.{◌≡◌, List, ℕ, Option, Some, None, Result, Ok, Err, length}
use Rattle.state.specs.declared.Chip.{Chip}
use Rattle.state.specs.declared.Setup.{Setup}
use Rattle.state.specs.Powered.{powered}
use Rattle.state.specs.declared.Refusal.{Refusal}
use Rattle.bus.specs.Dump.{dump_answer, dumped_into}
use Rattle.bus.specs.Block.{block_bytes}
use Rattle.event.specs.declared.Event.{Event}
use Rattle.event.specs.declared.Answer.{Answer}
use Rattle.event.specs.Event.{stepped_chip}
use Rattle.line.specs.declared.Session.{Session}
use Rattle.line.specs.Line.{taken_line, buffer_after}

-- nothing, or a refusal
abbrev pub refused_by : Option Refusal → Result (Unit {0}) Refusal
refused_by None = Ok tt
refused_by (Some r) = Err r

-- a chip, a setup; the answer, and the chip after
abbrev pub PowersOn : Chip → Setup → Result (Unit {0}) Refusal → Chip → Type 0
PowersOn c s r d = (r ≡ refused_by (powered c s).refusal) × (d ≡ (powered c s).chip)

-- a chip, an event, the bytes beside it; the answer, and the chip after
abbrev pub TakesEvent : Chip → Event → List ℕ → Answer → Chip → Type 0
TakesEvent c e bytes r d = (r ≡ (stepped_chip c e bytes).answer) × (d ≡ (stepped_chip c e bytes).chip)

-- a session, a line, the lent output; the reply, the session after, and the output after
abbrev pub TakesLine : Session → List ℕ → List ℕ → Result ℕ Refusal → Session → List ℕ → Type 0
TakesLine s line out r t left = (r ≡ (taken_line s line out).reply) × (t ≡ (taken_line s line out).session) × (left ≡ buffer_after s line out)

-- a chip, the lent buffer; the answer, and the buffer after
abbrev pub Dumps : Chip → List ℕ → Result ℕ Refusal → List ℕ → Type 0
Dumps c out r left = (r ≡ dump_answer out) × (left ≡ dumped_into c out)

-- a chip, the first register, the lent bytes; and those after
abbrev pub ShowsBlock : Chip → ℕ → List ℕ → List ℕ → Type 0
ShowsBlock c first bytes left = left ≡ block_bytes c first (length bytes)
