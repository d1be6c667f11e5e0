-- A refused event changes nothing; its refusal is 4 where it has more than 32 bytes beside it, else 2; the event and its bytes alone decide.
-- Assumes nothing.
use Rattle.std.proofs.Math.Path.{◌≡◌, refl}
use Rattle.std.proofs.Common.{ap, ◌∙◌}
use Rattle.std.specs.Option.{option_map_or}
use Rattle.std.specs.Prelude.{Bool, Option, Some, None, List, ℕ, ◌≤◌, ◌<◌, leb, length}
use Rattle.std.proofs.Math.Bool.{true, false}
use borrow.Author.Tests.{le-leb, lt-leb}
use Rattle.laws.specs.Pick.{pick}
use Rattle.laws.specs.Never.{never}
use Rattle.state.specs.declared.Chip.{Chip}
use Rattle.state.specs.declared.Refusal.{Refusal}
use Rattle.state.specs.declared.Refusal.TheVariants as refusal
use Rattle.state.specs.Refusal.{number_or_0}
use Rattle.event.specs.declared.Event.{Event}
use Rattle.event.specs.declared.Event.TheVariants.{Temperature, Voltage, Fan, Hot, Pin, Tick, Reset, Write, Read, ReadBlock, WriteBlock}
use Rattle.event.specs.declared.Answer.{Answer}
use Rattle.event.specs.declared.Answer.TheVariants.{Nothing, Refused, Acknowledged, Byte, Ticked, Block, BlockWritten}
use Rattle.event.specs.declared.Stepped.{Stepped}
use Rattle.event.specs.Event.{event_in, refusal_of, quiet_step, refused_step, tick_answer, written_answer, seen_answer, read_answer, block_answer, seen_block_answer, written_block_answer, taken_step, stepped_chip, answer_number}

-- ---- the refusal, by the event and its bytes alone

module _ (e : Event) (bytes : List ℕ) where
  -- more than 32 bytes, whatever the event's numbers
  pub many_number : 32 < length bytes → refusal_of e bytes ≡ Some refusal.Spelling
  unfolding refusal_of
  many_number h = rw (lt-leb (length bytes) 32 h)

  -- no more than that, and a number out of range
  pub out_number : length bytes ≤ 32 → event_in e ≡ false → refusal_of e bytes ≡ Some refusal.Event
  unfolding refusal_of
  out_number h o = rw (le-leb (length bytes) 32 h, o)

  -- neither
  pub in_number : length bytes ≤ 32 → event_in e ≡ true → refusal_of e bytes ≡ None
  unfolding refusal_of
  in_number h i = rw (le-leb (length bytes) 32 h, i)

  module _ (none : refusal_of e bytes ≡ None) where
    -- both tests passed
    tests : (leb (length bytes) 32 ≡ true) × (event_in e ≡ true)
    unfolding refusal_of
    tests = go (leb (length bytes) 32) (event_in e) none
      where
        go : (few inside : Bool) → pick few (pick inside None (Some refusal.Event)) (Some refusal.Spelling) ≡ None → (few ≡ true) × (inside ≡ true)
        go true true z = (refl, refl)
        go true false z = absurd (never (cc))
        go false inside z = absurd (never (cc))

    -- the numbers of an event that is not refused are in range
    pub taken_in : event_in e ≡ true
    taken_in = tests.1

-- ---- the step

-- an event that is taken answers no refusal
taken_answers : (c : Chip) (e : Event) (bytes : List ℕ) (r : Refusal) → (taken_step c e bytes).answer ≡ Refused r → ⊥
unfolding taken_step quiet_step tick_answer written_answer read_answer seen_answer seen_block_answer block_answer written_block_answer
taken_answers c (Temperature zone s) bytes r e = never (cc)
taken_answers c (Voltage channel m) bytes r e = never (cc)
taken_answers c (Fan fan m) bytes r e = never (cc)
taken_answers c (Hot input level) bytes r e = never (cc)
taken_answers c (Pin level) bytes r e = never (cc)
taken_answers c Tick bytes r e = never (cc)
taken_answers c Reset bytes r e = never (cc)
taken_answers c (Write address a byte) bytes r e = never (cc)
taken_answers c (Read address a) bytes r e = never (cc)
taken_answers c (ReadBlock address command) bytes r e = never (cc)
taken_answers c (WriteBlock address command) bytes r e = never (cc)

-- where a step refuses, the chip is c as before and the refusal is the one given
pub record Refuses (c : Chip) (refusal : Option Refusal) (s : Stepped) : Type 0 where
  pub keeps : (r : Refusal) → s.answer ≡ Refused r → s.chip ≡ c
  pub number : (r : Refusal) → s.answer ≡ Refused r → Some r ≡ refusal

module _ (c : Chip) (e : Event) (bytes : List ℕ) where
  -- an event is taken, or refused
  pub step_taken : refusal_of e bytes ≡ None → stepped_chip c e bytes ≡ taken_step c e bytes
  unfolding stepped_chip
  step_taken z = rw z

  pub step_refused : {r : Refusal} → refusal_of e bytes ≡ Some r → stepped_chip c e bytes ≡ refused_step c r
  unfolding stepped_chip
  step_refused z = rw z

  -- what the chip has, and has where the event is taken, it has after the event
  pub step_cases : (P : Chip → Type 0) → P c → (refusal_of e bytes ≡ None → P (taken_step c e bytes).chip) → P (stepped_chip c e bytes).chip
  unfolding stepped_chip refused_step
  step_cases P kept taken = go (refusal_of e bytes) refl
    where
      go : (x : Option Refusal) → refusal_of e bytes ≡ x → P (option_map_or (refused_step c) x (taken_step c e bytes)).chip
      go None z = taken z
      go (Some r) z = kept

  -- every step is such
  step_refuses : Refuses c (refusal_of e bytes) (stepped_chip c e bytes)
  unfolding stepped_chip refused_step
  step_refuses = go (refusal_of e bytes)
    where
      go : (x : Option Refusal) → Refuses c x (option_map_or (refused_step c) x (taken_step c e bytes))
      go None = record { keeps = λ r q. absurd (taken_answers c e bytes r q); number = λ r q. absurd (taken_answers c e bytes r q) }
      go (Some s) = record { keeps = λ r q. refl; number = λ r q. cc }

  -- a refused event leaves the chip as it was
  pub refused_keeps : (r : Refusal) → (stepped_chip c e bytes).answer ≡ Refused r → (stepped_chip c e bytes).chip ≡ c
  refused_keeps = step_refuses.keeps

  -- the refusal that it answers is that of `refusal_of`
  pub refused_number : (r : Refusal) → (stepped_chip c e bytes).answer ≡ Refused r → Some r ≡ refusal_of e bytes
  refused_number = step_refuses.number

  -- an event without a refusal is not refused
  pub in_taken : refusal_of e bytes ≡ None → (r : Refusal) → (stepped_chip c e bytes).answer ≡ Refused r → ⊥
  in_taken z r q = taken_answers c e bytes r (rw (step_taken z) at q)

  -- and one that is not refused has none
  pub taken_number : ((r : Refusal) → (stepped_chip c e bytes).answer ≡ Refused r → ⊥) → refusal_of e bytes ≡ None
  unfolding refused_step
  taken_number f = go (refusal_of e bytes) refl
    where
      go : (x : Option Refusal) → refusal_of e bytes ≡ x → refusal_of e bytes ≡ None
      go None z = z
      go (Some r) z = absurd (f r (ap (λ (s : Stepped). s.answer) (step_refused z)))

  -- the refusal that it answers is 4 where it has more than 32 bytes, else 2
  pub refused_many : 32 < length bytes → (r : Refusal) → (stepped_chip c e bytes).answer ≡ Refused r → r ≡ refusal.Spelling
  refused_many h r q = let n = refused_number r q ∙ many_number e bytes h in cc

  pub refused_out : length bytes ≤ 32 → (r : Refusal) → (stepped_chip c e bytes).answer ≡ Refused r → r ≡ refusal.Event
  refused_out few r q = go (event_in e) refl
    where
      go : (t : Bool) → event_in e ≡ t → r ≡ refusal.Event
      go true i = absurd (in_taken (in_number e bytes few i) r q)
      go false o = let n = refused_number r q ∙ out_number e bytes few o in cc

-- ---- document 01's number

-- an answer that is no refusal has the number 0
not_refused_number : (a : Answer) → ((r : Refusal) → a ≡ Refused r → ⊥) → answer_number a ≡ 0
unfolding answer_number
not_refused_number (Refused r) f = absurd (f r refl)
not_refused_number Nothing f = refl
not_refused_number (Acknowledged a) f = refl
not_refused_number (Byte b) f = refl
not_refused_number (Ticked t) f = refl
not_refused_number (Block b) f = refl
not_refused_number (BlockWritten a) f = refl

-- the number of a step's answer is that of its refusal, and 0 where it is taken
pub step_number : (c : Chip) (e : Event) (bytes : List ℕ) → answer_number (stepped_chip c e bytes).answer ≡ number_or_0 (refusal_of e bytes)
unfolding stepped_chip refused_step answer_number number_or_0
step_number c e bytes = go (refusal_of e bytes)
  where
    go : (x : Option Refusal) → answer_number (option_map_or (refused_step c) x (taken_step c e bytes)).answer ≡ number_or_0 x
    go None = not_refused_number (taken_step c e bytes).answer (taken_answers c e bytes)
    go (Some r) = refl
