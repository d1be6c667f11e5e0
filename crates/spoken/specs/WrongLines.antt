-- Document 01, "What counts as done", "Try these against it": "one that refuses every line". Assumes nothing.
use Rattle.std.specs.Prelude.{◌≡◌, false, List, ℕ, ◌≤◌, length, None, Result}
use Rattle.std.proofs.Common.{sym, ap, ◌∙◌, le-ltb}
use Rattle.line.specs.Line.{start_session, room_for, asked_line, begun_line, event_line, judged_by, taken_by, judged_in, taken_line, replied}
use Rattle.state.specs.declared.Refusal.{Refusal}
use Rattle.state.specs.Refusal.{number_returned}
use Rattle.spoken.specs.TickLine.{K, tick_asked}

-- with room for its answer, the first line of 01's session is taken
first_taken : (out : List ℕ) → 64 ≤ length out → number_returned (taken_line start_session K out).reply ≡ 0
unfolding taken_line taken_by replied judged_in asked_line room_for judged_by event_line begun_line start_session
first_taken out room = rw (le-ltb (length out) 64 room, tick_asked false)

-- so a program that answers any refusal to it does not answer by the definition
pub refuses_all : (out : List ℕ) → 64 ≤ length out → (r : Result ℕ Refusal) → (number_returned r ≡ 0 → ⊥) → (taken_line start_session K out).reply ≡ r → ⊥
refuses_all out room r refused e = refused (ap number_returned (sym e) ∙ first_taken out room)
