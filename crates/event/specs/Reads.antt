-- Document 02, Q-4: byte reads as events: what they answer and leave, and that the dump and a block are what byte reads show one after the
-- other. Assumes nothing.
use Rattle.std.specs.Prelude.{◌≡◌, Bool, length, Option, Some, None}
use Rattle.std.specs.Option.{option_map_or}
use Rattle.std.proofs.Math.Path.{refl}
use Rattle.std.proofs.Common.{sym, ap, ◌∙◌, arith, le-leb}
use Rattle.std.proofs.Math.Bool.{true, false}
use mathlib.Core.List.{List, [], ◌∷◌, map}
use Prim.Native.Nat.{ℕ, zero, suc, ◌≤◌}
use Rattle.laws.specs.Pick.{pick}
use Rattle.laws.specs.Never.{never}
use Rattle.map.specs.Blocks.{fixed}
use Rattle.state.specs.declared.Chip.{Chip}
use Rattle.state.specs.declared.Refusal.{Refusal}
use Rattle.sense.specs.Standing.{errors_standing, alert_active}
use Rattle.bus.specs.Latch.{is_ours, transacted}
use Rattle.bus.specs.Read.{Seen, given_register, kept_chip, read_byte}
use Rattle.bus.specs.Dump.{shown_all}
use Rattle.bus.specs.Block.{block_bytes}
use Rattle.bus.specs.BlockPart.{transacted_shown}
use Rattle.bus.specs.Transactions.{ButLatchKept, but_latch_kept_self, read_keeps, held_same}
use Rattle.bus.specs.ReadOn.{read_from}
use Rattle.bus.proofs.ReadOn.{dump_is_reads, block_is_reads}
use Rattle.event.specs.declared.Event.TheVariants.{Read, ReadBlock}
use Rattle.event.specs.declared.Answer.{Answer}
use Rattle.event.specs.declared.Answer.TheVariants.{Byte, Block as BlockShown}
use Rattle.event.specs.declared.Stepped.{Stepped}
use Rattle.event.specs.Event.{event_in, refusal_of, refused_step, seen_answer, read_answer, taken_step, stepped_chip}
use Rattle.event.specs.Run.{Given, alone, answers_to}
use Rattle.event.specs.Refusal.{in_number, step_taken, step_cases}
use Rattle.event.specs.Blocks.{shown_for, shown_leaves}

-- ---- one read

-- "Bus reads thereby change state but no duty, error or alert": d is c but for its latch and its kept bytes
pub record ReadLeaves (c d : Chip) : Type 0 where
  pub rest : ButLatchKept c d
  pub duties : d.drive.duties ≡ c.drive.duties
  pub errors : errors_standing d.registers ≡ errors_standing c.registers
  pub alert : alert_active d.registers ≡ alert_active c.registers

leaves_rest : {c d : Chip} → ButLatchKept c d → ReadLeaves c d
leaves_rest k = record {
  rest = k;
  duties = rw k.keeps.drive;
  errors = rw k.registers;
  alert = rw k.registers;
}

module _ (c : Chip) (address a : ℕ) (bytes : List ℕ) where
  pub read_leaves : ReadLeaves c (stepped_chip c (Read address a) bytes).chip
  unfolding taken_step read_answer
  read_leaves =
      step_cases c (Read address a) bytes (ReadLeaves c) (leaves_rest (but_latch_kept_self c)) (λ z. leaves_rest (read_keeps c address a))

  -- a read is refused, not acknowledged or acknowledged
  pub read_step : (P : Stepped → Type 0)
      → ((r : Refusal) → P (refused_step c r))
      → P (record { chip = transacted c address; answer = Byte None })
      → P (record { chip = kept_chip (transacted c address) a; answer = Byte (Some (given_register (transacted c address) a)) })
      → P (stepped_chip c (Read address a) bytes)
  unfolding stepped_chip taken_step read_answer seen_answer read_byte
  read_step P refused other ours =
      go (refusal_of (Read address a) bytes) (is_ours (transacted c address).pin.latch address)
    where
      go : (r : Option Refusal) (acked : Bool) → P (option_map_or (refused_step c) r (read_answer (pick {A = Seen} acked (record { chip = kept_chip (transacted c address) a; shown = Some (given_register (transacted c address) a) }) (record { chip = transacted c address; shown = None }))))
      go None true = ours
      go None false = other
      go (Some r) acked = refused r

  -- the byte that it answers, and the chip that it leaves, where it is acknowledged
  pub acked_read : {byte : ℕ} → (stepped_chip c (Read address a) bytes).answer ≡ Byte (Some byte) → (byte ≡ given_register (transacted c address) a) × ((stepped_chip c (Read address a) bytes).chip ≡ kept_chip (transacted c address) a)
  unfolding refused_step
  acked_read {byte} =
      read_step (λ (s : Stepped). s.answer ≡ Byte (Some byte) → (byte ≡ given_register (transacted c address) a) × (s.chip ≡ kept_chip (transacted c address) a))
      (λ r e. absurd (never (cc)))
      (λ e. absurd (never (cc)))
      (λ e. (cc, refl))

-- ---- one after the other

-- byte reads of n registers, the first of register a
unfoldable pub reads_of : ℕ → ℕ → ℕ → List Given
reads_of address a zero = []
reads_of address a (suc n) = alone (Read address a) ∷ reads_of address (suc a) n

-- once an address is ours, a transaction for it changes nothing
ours_same : (c : Chip) (address : ℕ) → is_ours c.pin.latch address ≡ true → transacted c address ≡ c
unfolding is_ours
ours_same c address e = go c.pin.latch refl e
  where
    go : (l : Option ℕ) → c.pin.latch ≡ l → is_ours l address ≡ true → transacted c address ≡ c
    go None h e = absurd (never (cc))
    go (Some ours) h e = held_same c address h

module _ (address : ℕ) (low : address ≤ 0x7F) where
  -- an R for our address
  ours_read : (c : Chip) (a : ℕ) → is_ours (transacted c address).pin.latch address ≡ true → stepped_chip c (Read address a) [] ≡ record { chip = kept_chip (transacted c address) a; answer = Byte (Some (given_register (transacted c address) a)) }
  unfolding event_in taken_step read_answer seen_answer read_byte
  ours_read c a ours =
      rw (step_taken c (Read address a) [] (in_number _ [] (omega arith) (le-leb address 0x7F low)), ours)

  reads_answer : (n : ℕ) (c : Chip) (a : ℕ) → is_ours (transacted c address).pin.latch address ≡ true → answers_to c (reads_of address a n) ≡ map (λ b. Byte (Some b)) (read_from (transacted c address) a n)
  unfolding answers_to reads_of read_from
  reads_answer zero c a ours = refl
  reads_answer (suc n) c a ours =
      let next = kept_chip (transacted c address) a in
      let same = ours_same next address ours in
      let still : is_ours (transacted next address).pin.latch address ≡ true = rw same ours in
      rw (ours_read c a ours) (ap (λ (l : List Answer). Byte (Some (given_register (transacted c address) a)) ∷ l) (reads_answer n next (suc a) still ∙ rw same))

-- the dump is what R of 00h to FFh, one after the other, show
pub dump_by_reads : (c : Chip) → length c.kept ≡ 4 → (address : ℕ) → address ≤ 0x7F → is_ours (transacted c address).pin.latch address ≡ true → answers_to c (reads_of address 0 256) ≡ map (λ b. Byte (Some b)) (shown_all c)
unfolding transacted
dump_by_reads c many address low ours =
    reads_answer address low 256 c 0 ours ∙ ap (map (λ b. Byte (Some b))) (sym (dump_is_reads (transacted c address) many) ∙ transacted_shown c address)

-- and a block read that is acknowledged shows what R of its registers, one after the other, would show instead
pub block_by_reads : (c : Chip) → length c.kept ≡ 4 → (address command : ℕ) (bytes : List ℕ) {first count : ℕ} → (stepped_chip c (ReadBlock address command) bytes).answer ≡ BlockShown (fixed first count) → answers_to c (reads_of address first count) ≡ map (λ b. Byte (Some b)) (block_bytes (stepped_chip c (ReadBlock address command) bytes).chip first count)
unfolding transacted
block_by_reads c many address command bytes {first} {count} shown =
    let f = shown_for c address command bytes shown in
    reads_answer address f.low count c first f.ours
    ∙ ap (map (λ b. Byte (Some b))) (sym (block_is_reads (transacted c address) many command f.listed))
    ∙ rw (shown_leaves c address command bytes shown)
