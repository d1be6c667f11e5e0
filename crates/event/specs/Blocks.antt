-- Document 02, Q-1: block reads and block writes as events, and the bytes beside other events. Assumes nothing.
use Rattle.std.specs.Prelude.{◌≡◌, false, Option, Some, None, ℕ, ◌+◌, ◌≤◌, ◌<◌, length, take, drop, get_or}
use Rattle.std.proofs.Math.Path.{refl, ap}
use Rattle.std.proofs.Math.Bool.{true}
use mathlib.Core.List.{List, []}
use Rattle.std.proofs.Common.{arith}
use borrow.Author.Tests.{leb-true, le-leb}
use Rattle.laws.specs.Never.{never}
use Rattle.map.specs.declared.Block.{Block}
use Rattle.map.specs.Blocks.{fixed, block_of, block_within}
use Rattle.map.specs.FanBytes.{high_place}
use Rattle.state.specs.declared.Chip.{Chip}
use Rattle.bus.specs.Latch.{is_ours, transacted}
use Rattle.bus.specs.Read.{read_byte}
use Rattle.bus.specs.Dump.{shown_all}
use Rattle.bus.specs.Block.{block_for, block_bytes, read_block, counted_block, wrote_by, wrote_block}
use Rattle.bus.specs.BlockAnswers.{for_listed, counted_is, listed_block_read, listed_block_write}
use Rattle.bus.proofs.BlockPart.{block_at, block_read_part}
use Rattle.bus.specs.KeptBytes.{read_present}
use Rattle.event.specs.declared.Event.{Event}
use Rattle.event.specs.declared.Event.TheVariants.{Temperature, Voltage, Fan, Hot, Pin, Tick, Reset, Write, Read, ReadBlock, WriteBlock}
use Rattle.event.specs.declared.Answer.TheVariants.{Byte, Block as BlockShown, BlockWritten}
use Rattle.event.specs.declared.Stepped.{Stepped}
use Rattle.event.specs.Event.{event_in, refusal_of, seen_answer, read_answer, block_answer, seen_block_answer, written_block_answer, taken_step, stepped_chip}
use Rattle.event.specs.Refusal.{in_number, taken_in, step_taken, taken_number}

-- ---- bytes beside an event that is no block write

-- one that is taken
taken_alone : (c : Chip) (e : Event) (bytes : List ℕ) → ((address command : ℕ) → e ≡ WriteBlock address command → ⊥) → taken_step c e bytes ≡ taken_step c e []
unfolding taken_step
taken_alone c (Temperature zone s) bytes n = refl
taken_alone c (Voltage channel m) bytes n = refl
taken_alone c (Fan fan m) bytes n = refl
taken_alone c (Hot input level) bytes n = refl
taken_alone c (Pin level) bytes n = refl
taken_alone c Tick bytes n = refl
taken_alone c Reset bytes n = refl
taken_alone c (Write address a byte) bytes n = refl
taken_alone c (Read address a) bytes n = refl
taken_alone c (ReadBlock address command) bytes n = refl
taken_alone c (WriteBlock address command) bytes n = absurd (n address command refl)

-- they make no difference, unless they are too many
pub step_alone_lem : (c : Chip) (e : Event) (bytes : List ℕ) → length bytes ≤ 32 → ((address command : ℕ) → e ≡ WriteBlock address command → ⊥) → stepped_chip c e bytes ≡ stepped_chip c e []
unfolding stepped_chip refusal_of
step_alone_lem c e bytes few n = rw (le-leb (length bytes) 32 few, taken_alone c e bytes n)

-- ---- what a block read answers, and whether a block write is acknowledged

-- a transaction for a block: the address has seven bits and is the one latched, and the command is listed
pub record ForBlock (c : Chip) (address command first count : ℕ) : Type 0 where
  pub low : address ≤ 0x7F
  pub ours : is_ours (transacted c address).pin.latch address ≡ true
  pub listed : block_of command ≡ fixed first count

-- a block write for one, with as many bytes as it has registers
pub record WritesBlock (c : Chip) (address command : ℕ) (bytes : List ℕ) : Type 0 where
  pub first : ℕ
  pub block : ForBlock c address command first (length bytes)

-- an answer tells its block
shown_is : (b : Option Block) {first count : ℕ} → block_answer b ≡ BlockShown (fixed first count) → b ≡ fixed first count
unfolding block_answer
shown_is b e = cc

module _ (c : Chip) (address command : ℕ) (bytes : List ℕ) where
  -- a block read answers a block where it is for that block
  pub read_shows : {first count : ℕ} → length bytes ≤ 32 → ForBlock c address command first count → (stepped_chip c (ReadBlock address command) bytes).answer ≡ BlockShown (fixed first count)
  unfolding event_in taken_step seen_block_answer block_answer
  read_shows few f =
      rw (step_taken c (ReadBlock address command) bytes (in_number _ bytes few (le-leb address 0x7F f.low)), listed_block_read c address command f.listed f.ours)

  -- and only there
  pub shown_for : {first count : ℕ} → (stepped_chip c (ReadBlock address command) bytes).answer ≡ BlockShown (fixed first count) → ForBlock c address command first count
  unfolding event_in taken_step seen_block_answer read_block
  shown_for q =
      let z = taken_number c (ReadBlock address command) bytes (λ r e. never (cc)) in
      let b = shown_is _ (rw (step_taken c (ReadBlock address command) bytes z) at q) in
      let l = for_listed (transacted c address).pin.latch address command b in
      record { low = leb-true address 0x7F (taken_in _ bytes z); ours = l.0; listed = l.1 }

  -- a block write for a block, with as many bytes, is not refused
  pub writes_taken : WritesBlock c address command bytes → refusal_of (WriteBlock address command) bytes ≡ None
  unfolding event_in
  writes_taken w =
      in_number _ bytes (block_within command w.block.listed).most (le-leb address 0x7F w.block.low)

  -- it is acknowledged
  pub write_acked : WritesBlock c address command bytes → (stepped_chip c (WriteBlock address command) bytes).answer ≡ BlockWritten true
  unfolding taken_step written_block_answer
  write_acked w =
      rw (step_taken c (WriteBlock address command) bytes (writes_taken w), listed_block_write c address command w.block.listed w.block.ours bytes refl)

  -- and no other is
  pub acked_for : (stepped_chip c (WriteBlock address command) bytes).answer ≡ BlockWritten true → WritesBlock c address command bytes
  unfolding event_in taken_step written_block_answer wrote_block wrote_by
  acked_for q =
      let z = taken_number c (WriteBlock address command) bytes (λ r e. never (cc)) in
      written _ refl (leb-true address 0x7F (taken_in _ bytes z)) (rw (step_taken c (WriteBlock address command) bytes z) at q)
    where
      written : (b : Option Block) → counted_block (length bytes) (block_for (transacted c address).pin.latch address command) ≡ b → address ≤ 0x7F → BlockWritten (wrote_by (transacted c address) b bytes).ack ≡ BlockWritten true → WritesBlock c address command bytes
      written None e low q = absurd (never (cc))
      written (Some block) e low q =
          let n = counted_is (length bytes) _ e in
          let l = for_listed (transacted c address).pin.latch address command n.1 in
          record { first = block.first; block = record { low = low; ours = l.0; listed = rw n.0 l.1 } }

-- ---- what they leave where nothing is written

-- a write that is not acknowledged writes nothing
unacked_keeps : (c : Chip) (bytes : List ℕ) (b : Option Block) → BlockWritten (wrote_by c b bytes).ack ≡ BlockWritten false → (wrote_by c b bytes).chip ≡ c
unfolding wrote_by
unacked_keeps c bytes None q = refl
unacked_keeps c bytes (Some block) q = absurd (never (cc))

module _ (c : Chip) (address command : ℕ) (bytes : List ℕ) where
  -- a block read leaves the chip as any transaction does: nothing changes but the latch (`transacted-keeps`)
  pub block_read_leaves : length bytes ≤ 32 → address ≤ 0x7F → (stepped_chip c (ReadBlock address command) bytes).chip ≡ transacted c address
  unfolding event_in taken_step seen_block_answer read_block
  block_read_leaves few low =
      rw (step_taken c (ReadBlock address command) bytes (in_number _ bytes few (le-leb address 0x7F low)))

  -- and so does a block write that is not acknowledged, whatever the reason
  pub unacked_leaves : (stepped_chip c (WriteBlock address command) bytes).answer ≡ BlockWritten false → (stepped_chip c (WriteBlock address command) bytes).chip ≡ transacted c address
  unfolding event_in taken_step written_block_answer wrote_block
  unacked_leaves q =
      let z = taken_number c (WriteBlock address command) bytes (λ r e. never (cc)) in
      rw (step_taken c (WriteBlock address command) bytes z) (unacked_keeps (transacted c address) bytes _ (rw (step_taken c (WriteBlock address command) bytes z) at q))

-- ---- the bytes that a block read shows

module _ (c : Chip) (address command : ℕ) (bytes : List ℕ) {first count : ℕ} (shown : (stepped_chip c (ReadBlock address command) bytes).answer ≡ BlockShown (fixed first count)) where
  -- such a block read is taken
  shown_taken : stepped_chip c (ReadBlock address command) bytes ≡ seen_block_answer (read_block c address command)
  unfolding taken_step
  shown_taken =
      step_taken c (ReadBlock address command) bytes (taken_number c (ReadBlock address command) bytes (λ r e. never (cc)))

  -- and leaves the chip as any transaction does
  pub shown_leaves : (stepped_chip c (ReadBlock address command) bytes).chip ≡ transacted c address
  unfolding seen_block_answer read_block
  shown_leaves = ap (λ (s : Stepped). s.chip) shown_taken

  -- they are a part of the dump
  pub shown_part : block_bytes (stepped_chip c (ReadBlock address command) bytes).chip first count ≡ take count (drop first (shown_all c))
  unfolding seen_block_answer
  shown_part =
      rw shown_taken (block_read_part c address command (shown_is _ (rw shown_taken at shown)))

  -- and each is what a byte read would answer instead, but for the four high bytes of the fan counts
  pub shown_byte : (k : ℕ) → k < count → ((fan : ℕ) → fan < 4 → first + k ≡ high_place fan → ⊥) → (stepped_chip c (Read address (first + k)) []).answer ≡ Byte (Some (get_or (block_bytes (stepped_chip c (ReadBlock address command) bytes).chip first count) k 0))
  unfolding event_in taken_step read_answer seen_answer read_byte
  shown_byte k h n =
      let f = shown_for c address command bytes shown in
      rw (shown_leaves, step_taken c (Read address (first + k)) [] (in_number _ [] (omega arith) (le-leb address 0x7F f.low)), f.ours, block_at command f.listed (transacted c address) k h, read_present (transacted c address) (first + k) n)
