-- A line asks for the same whether or not its event's numbers are clamped, and whatever bytes it carries. Assumes nothing.
use Rattle.std.specs.Prelude.{◌≡◌, refl, Bool, true, false, List, [], ℕ, ◌≤◌, eqb, length, Option, Some, None, Ok, Err, Result}
use Rattle.std.proofs.Common.{arith, le-leb}
use Rattle.laws.specs.Pick.{pick}
use Rattle.event.specs.declared.Event.{Event}
use Rattle.event.specs.Event.{event_in, refusal_of}
use Rattle.state.specs.declared.Refusal.{Refusal}
use Rattle.state.specs.declared.Refusal.TheVariants as refusal
use Rattle.parse.specs.Parse.{data_of}
use Rattle.parse.specs.Clamped.{clamped_parsed, clamped_event, clamped_taken}
use Rattle.parse.specs.Data.{data_short}
use Rattle.line.specs.declared.Asked.{Asked}
use Rattle.line.specs.declared.Asked.TheVariants as asked
use Rattle.line.specs.Line.{asked_unless, asked_event, asked_by}

-- with at most 32 bytes beside it, an event's refusal is 2
pub asked_is : (e : Event) (bytes : List ℕ) → length bytes ≤ 32 → asked_event e bytes ≡ pick (event_in e) (Ok (asked.Event e)) (Err refusal.Event)
unfolding asked_event asked_unless refusal_of
asked_is e bytes h = rw (le-leb (length bytes) 32 h) (go (event_in e))
  where
    go : (b : Bool) → asked_unless e (pick b None (Some refusal.Event)) ≡ pick b (Ok (asked.Event e)) (Err refusal.Event)
    go true = refl
    go false = refl

-- no line carries more, so its bytes make no difference
pub asked_data : (e : Event) (line : List ℕ) → asked_event e (data_of line) ≡ asked_event e []
asked_data e line = rw (asked_is e (data_of line) (data_short line), asked_is e [] (omega arith))

abbrev ask : Event → Result Asked Refusal
ask e = Ok (asked.Event e)

pub asked_clamped : (begun : Bool) (line : List ℕ) (p : Option Event) → asked_by begun line (clamped_parsed p) ≡ asked_by begun line p
unfolding asked_by
asked_clamped begun line None = refl
asked_clamped begun line (Some e) =
    rw (asked_is e (data_of line) (data_short line), asked_is (clamped_event e) (data_of line) (data_short line)) (clamped_taken ask (Err refusal.Event) e)
