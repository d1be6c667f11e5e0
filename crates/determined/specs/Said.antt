-- Lines that say events print what the chip answers to the events. Assumes nothing.
use Rattle.std.specs.Prelude.{◌≡◌, Bool, List, [], ◌∷◌, ◌++◌, ℕ, ◌+◌, ltb, length, Option, Some, None}
use Rattle.std.proofs.Math.Path.{refl}
use Rattle.std.proofs.Math.Bool.{true, false}
use Rattle.laws.specs.Pick.{pick}
use Rattle.state.specs.declared.Chip.{Chip}
use Rattle.state.specs.declared.Refusal.{Refusal}
use Rattle.state.specs.Refusal.{number_of}
use Rattle.event.specs.declared.Answer.{Answer}
use Rattle.event.specs.declared.Answer.TheVariants.{Nothing, Refused, Acknowledged, Byte, Ticked, Block, BlockWritten}
use Rattle.event.specs.Event.{refusal_of, refused_step}
use Rattle.event.specs.Run.{Given, given_step, answers_to}
use Rattle.event.specs.Refusal.{in_taken, step_refused}
use Rattle.text.specs.Answers.{refusal_text}
use Rattle.parse.specs.Parse.{event_of, data_of}
use Rattle.line.specs.declared.Session.{Session}
use Rattle.line.specs.Line.{Judged, asked_unless, asked_event, asked_by, asked_text, refused_line, begun_line, event_line, judged_by, judged_line, answer_text}
use Rattle.line.specs.Session.{printed_unless, printed_by, printed_from}

-- ---- what is said

-- a line says an event: it is not too long, it is spelled as the event, and it carries the bytes beside it
pub data Says (l : List ℕ) (g : Given) : Type 0 where
  says : ltb 512 (length l) ≡ false → event_of l ≡ Some g.event → data_of l ≡ g.bytes → Says l g

-- line by line
pub data AllSay : List (List ℕ) → List Given → Type 0 where
  none : AllSay [] []
  more : {l : List ℕ} {g : Given} {ls : List (List ℕ)} {gs : List Given} → Says l g → AllSay ls gs → AllSay (l ∷ ls) (g ∷ gs)

-- ---- what is printed

-- of the answer to line n; the bytes of a block are those that the chip shows then
unfoldable pub text_at : ℕ → Chip → Answer → List ℕ
text_at n c (Refused r) = refusal_text n (number_of r)
text_at n c Nothing = answer_text c Nothing
text_at n c (Acknowledged a) = answer_text c (Acknowledged a)
text_at n c (Byte b) = answer_text c (Byte b)
text_at n c (Ticked t) = answer_text c (Ticked t)
text_at n c (Block b) = answer_text c (Block b)
text_at n c (BlockWritten a) = answer_text c (BlockWritten a)

-- of the answers to line n and those behind it, from a chip on
unfoldable pub text_from : ℕ → Chip → List Given → List ℕ
text_from n c [] = []
text_from n c (g ∷ gs) = text_at n (given_step c g).chip (given_step c g).answer ++ text_from (n + 1) (given_step c g).chip gs

-- ---- the law

-- what is made of an event: its answer is printed, and the chip is as the event leaves it
record Prints (s : Session) (g : Given) (j : Judged) : Type 0 where
  text : (n : ℕ) → printed_by j n ≡ text_at n (given_step s.chip g).chip (given_step s.chip g).answer
  chip : j.session.chip ≡ (given_step s.chip g).chip

-- of an answer that is no refusal, its text
text_taken : (n : ℕ) (c : Chip) (a : Answer) → ((r : Refusal) → a ≡ Refused r → ⊥) → answer_text c a ≡ text_at n c a
unfolding text_at
text_taken n c (Refused r) f = absurd (f r refl)
text_taken n c Nothing f = refl
text_taken n c (Acknowledged a) f = refl
text_taken n c (Byte b) f = refl
text_taken n c (Ticked t) f = refl
text_taken n c (Block b) f = refl
text_taken n c (BlockWritten a) f = refl

module _ (s : Session) (g : Given) where
  taken_prints : refusal_of g.event g.bytes ≡ None → Prints s g (event_line s.chip g.event g.bytes)
  unfolding event_line begun_line printed_by printed_unless
  taken_prints z = record { text = λ n. text_taken n _ _ (in_taken s.chip g.event g.bytes z); chip = refl }

  refused_prints : (r : Refusal) → refusal_of g.event g.bytes ≡ Some r → Prints s g (refused_line s r)
  unfolding refused_line refused_step printed_by printed_unless text_at
  refused_prints r o =
      let q = step_refused s.chip g.event g.bytes o in
      record { text = λ n. rw q; chip = rw q }

  -- a line that says the event
  line_prints : {l : List ℕ} → Says l g → Prints s g (judged_line s l)
  unfolding judged_line judged_by asked_text asked_by asked_event asked_unless
  line_prints {l} (says short spelled carried) = rw (short, spelled, carried) (go (refusal_of g.event g.bytes) refl)
    where
      go : (r : Option Refusal) → refusal_of g.event g.bytes ≡ r → Prints s g (judged_by s l (asked_unless g.event r))
      go None z = rw carried (taken_prints z)
      go (Some r) o = refused_prints r o

-- lines that say events print the answers to the events
pub said_prints : (s : Session) (n : ℕ) {ls : List (List ℕ)} {gs : List Given} → AllSay ls gs → printed_from s n ls ≡ text_from n s.chip gs
unfolding printed_from text_from
said_prints s n none = refl
said_prints s n (more {l} {g} p q) =
    let first = line_prints s g p in
    rw (first.text n, said_prints (judged_line s l).session (n + 1) q, first.chip)

-- ---- answers that print the same whatever the chip: all but blocks

pub data AllPlain : List Answer → Type 0 where
  none : AllPlain []
  more : {a : Answer} {xs : List Answer} → ((n : ℕ) (c d : Chip) → text_at n c a ≡ text_at n d a) → AllPlain xs → AllPlain (a ∷ xs)

-- what such answers print
unfoldable pub plain_from : ℕ → Chip → List Answer → List ℕ
plain_from n d [] = []
plain_from n d (a ∷ xs) = text_at n d a ++ plain_from (n + 1) d xs

pub plain_prints : (n : ℕ) (c d : Chip) (gs : List Given) → AllPlain (answers_to c gs) → text_from n c gs ≡ plain_from n d (answers_to c gs)
unfolding text_from plain_from answers_to
plain_prints n c d [] none = refl
plain_prints n c d (g ∷ gs) (more p rest) =
    rw (p n (given_step c g).chip d, plain_prints (n + 1) (given_step c g).chip d gs rest)
