-- An event that is not refused. Assumes nothing.
use Rattle.std.specs.Prelude.{◌≡◌, None}
use Rattle.event.specs.Event.{refusal_of}
use Rattle.event.specs.Run.{Given}

-- the event tells, with the bytes beside it
abbrev pub IsTaken : Given → Type 0
IsTaken g = refusal_of g.event g.bytes ≡ None
