-- A line that is refused leaves everything as it was. Assumes nothing.
use Rattle.std.specs.Prelude.{◌≡◌, refl, List, ℕ, length, Result, Ok, Err}
use Rattle.std.proofs.Common.{ap}
use Rattle.line.specs.declared.Session.{Session}
use Rattle.line.specs.declared.Taken.{Taken}
use Rattle.state.specs.declared.Refusal.{Refusal}
use Rattle.state.specs.Refusal.{number_of, number_returned, length_returned}
use Rattle.line.specs.declared.Asked.{Asked}
use Rattle.line.specs.declared.Asked.TheVariants as asked
use Rattle.line.specs.Line.{asked_line, refused_line, begun_line, setup_line, event_line, replied, taken_by, silent_line, taken_line, buffer_after}
use Rattle.line.specs.Comes.{setup_comes, refused_comes, event_comes}

-- "It returns its number and length 0; chip and buffers stay."
pub record LineKept (s : Session) (line out : List ℕ) : Type 0 where
  pub session : (taken_line s line out).session ≡ s
  pub length : length_returned (taken_line s line out).reply ≡ 0
  pub buffer : buffer_after s line out ≡ out

pub refused_line_keeps : (s : Session) (line out : List ℕ) → (number_returned (taken_line s line out).reply ≡ 0 → ⊥) → LineKept s line out
unfolding setup_line event_line refused_line begun_line replied taken_by silent_line
refused_line_keeps s line out refused = go (asked_line s.begun (length out) line) refl
  where
    refusal : Taken → ℕ
    refusal t = number_returned t.reply

    go : (a : Result Asked Refusal) → asked_line s.begun (length out) line ≡ a → LineKept s line out
    go (Ok asked.Setup) e = absurd (refused (ap refusal (setup_comes s line out e).taken))
    go (Err r) e =
        let c = refused_comes s line out r e in
        record { session = ap (λ (t : Taken). t.session) c.taken; length = ap (λ (t : Taken). length_returned t.reply) c.taken; buffer = c.buffer }
    go (Ok (asked.Event f)) e = absurd (refused (ap refusal (event_comes s line out f e).taken))
