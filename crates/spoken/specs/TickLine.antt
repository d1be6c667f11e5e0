-- The line K asks for a tick. Assumes nothing.
use Rattle.std.specs.Prelude.{◌≡◌, refl, Bool, List, [], ◌∷◌, ℕ, Ok}
use Rattle.std.proofs.Common.{ap}
use Rattle.event.specs.declared.Event.TheVariants.{Tick}
use Rattle.event.specs.Event.{event_in, refusal_of}
use Rattle.text.specs.Fields.{first_field, other_fields, fields_of, field_at}
use Rattle.parse.specs.Parse.{letter_of, alone_line, event_by, data_of}
use Rattle.line.specs.declared.Session.{Session}
use Rattle.line.specs.declared.Asked.TheVariants as asked
use Rattle.line.specs.Line.{asked_event, asked_by, asked_text, event_line, judged_by, judged_line, asked_unless}

-- the byte K
abbrev pub K : List ℕ
K = 75 ∷ []

-- whether or not a line was taken before
pub tick_asked : (begun : Bool) → asked_text begun K ≡ Ok (asked.Event Tick)
unfolding asked_text asked_by asked_event asked_unless refusal_of event_in data_of event_by letter_of fields_of first_field other_fields field_at alone_line
tick_asked begun = refl

-- so it is taken, and is a tick, whatever the session
pub tick_line : (s : Session) → judged_line s K ≡ event_line s.chip Tick []
unfolding judged_line judged_by data_of
tick_line s = ap (judged_by s K) (tick_asked s.begun)
