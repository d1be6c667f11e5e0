-- Document 02, Q-4, "Fan counts that are not torn": which events leave a kept byte, and that the two bytes of a count belong together. Fans
-- count from 0. Assumes nothing.
use Rattle.std.specs.Prelude.{◌≡◌, ℕ, ◌<◌, length, get_or, Option, Some, None}
use Rattle.std.proofs.Math.Path.{refl, ap}
use Rattle.std.proofs.Common.{◌∙◌}
use mathlib.Core.List.{List}
use Rattle.map.specs.FanBytes.{low_place, high_place}
use Rattle.state.specs.declared.Chip.{Chip}
use Rattle.state.specs.Parts.{no_kept, fan_at, kept_at}
use Rattle.bus.specs.Latch.{transacted}
use Rattle.bus.specs.Read.{low_byte, high_byte, given_byte}
use Rattle.bus.specs.KeptBytes.{read_low, read_high, kept_low, kept_high, kept_other}
use Rattle.event.specs.declared.Event.{Event}
use Rattle.event.specs.declared.Event.TheVariants.{Read}
use Rattle.event.specs.declared.Answer.TheVariants.{Byte}
use Rattle.event.specs.declared.Stepped.{Stepped}
use Rattle.event.specs.Event.{refused_step, stepped_chip}
use Rattle.event.specs.Run.{Given, given_step, chip_after}
use Rattle.event.specs.Refusal.{step_cases}
use Rattle.event.specs.Reads.{read_step, acked_read}
use Rattle.event.specs.NotTorn.{ReadOrNot, other, read, read_or_not, ReadsFan, high, low, NoneReads, more, none}

module _ (fan : ℕ) (c : Chip) where
  transacted_kept : (address : ℕ) → kept_at (transacted c address) fan ≡ kept_at c fan
  unfolding kept_at transacted
  transacted_kept address = refl

  event_keeps : {e : Event} (bytes : List ℕ) → ReadOrNot e → (ReadsFan fan c (record { event = e; bytes = bytes }) → ⊥) → kept_at (stepped_chip c e bytes).chip fan ≡ kept_at c fan
  unfolding kept_at refused_step
  event_keeps bytes (read address a) n =
      read_step c address a bytes (λ (s : Stepped). ((b : ℕ) → s.answer ≡ Byte (Some b) → (a ≡ low_place fan → ⊥) × (a ≡ high_place fan → ⊥)) → kept_at s.chip fan ≡ kept_at c fan)
      (λ r f. refl)
      (λ f. transacted_kept address)
      (λ f. kept_other (transacted c address) fan a (f _ refl).0 (f _ refl).1 ∙ transacted_kept address)
      (λ b q. (λ e. n (low address b (ap (Read address) e) q), λ e. n (high address b (ap (Read address) e) q)))
  event_keeps {e} bytes (other k) n =
      step_cases c e bytes (λ (d : Chip). kept_at d fan ≡ kept_at c fan) refl (λ z. ap (λ (l : List (Option ℕ)). get_or l fan no_kept) (k c bytes))

  -- every event but such a one leaves the fan's kept byte: an R for another address too, and one of another fan or register
  pub step_keeps_byte : (g : Given) → (ReadsFan fan c g → ⊥) → kept_at (given_step c g).chip fan ≡ kept_at c fan
  step_keeps_byte g = event_keeps g.bytes (read_or_not g.event)

-- so they leave the kept byte
stays_kept : {fan : ℕ} {c : Chip} {gs : List Given} → NoneReads fan c gs → kept_at (chip_after c gs) fan ≡ kept_at c fan
unfolding chip_after
stays_kept none = refl
stays_kept {fan} {c} (more {g = g} n u) = stays_kept u ∙ step_keeps_byte fan c g n

-- The low and then the high byte of one fan, both acknowledged, with any events between them but an acknowledged R of either byte, are the
-- two bytes of the count at the first read: of 3FFFh where it is missing.
pub not_torn : (c : Chip) → length c.kept ≡ 4 → (fan : ℕ) → fan < 4
    → (first second : ℕ) (beside after : List ℕ) (gs : List Given) {lower upper : ℕ}
    → (stepped_chip c (Read first (low_place fan)) beside).answer ≡ Byte (Some lower)
    → NoneReads fan (stepped_chip c (Read first (low_place fan)) beside).chip gs
    → (stepped_chip (chip_after (stepped_chip c (Read first (low_place fan)) beside).chip gs) (Read second (high_place fan)) after).answer ≡ Byte (Some upper)
    → (lower ≡ low_byte (fan_at c fan)) × (upper ≡ high_byte (fan_at c fan))
unfolding transacted given_byte fan_at
not_torn c many fan h first second beside after gs l u r =
    let one = acked_read c first (low_place fan) beside l in
    let two = acked_read _ second (high_place fan) after r in
    let kept : kept_at (stepped_chip c (Read first (low_place fan)) beside).chip fan ≡ Some (high_byte (fan_at c fan)) = rw one.1 (kept_low (transacted c first) fan h many) in
    (one.0 ∙ read_low (transacted c first) fan h, two.0 ∙ read_high _ fan h ∙ rw (transacted_kept fan _ second, stays_kept u, kept))

-- "A high byte read without one kept is the present one": with none kept, and any events but an acknowledged R of either byte before it.
pub unkept_present : (c : Chip) (fan : ℕ) → fan < 4 → kept_at c fan ≡ None
    → (gs : List Given) → NoneReads fan c gs
    → (address : ℕ) (beside : List ℕ) {upper : ℕ} → (stepped_chip (chip_after c gs) (Read address (high_place fan)) beside).answer ≡ Byte (Some upper)
    → upper ≡ high_byte (fan_at (chip_after c gs) fan)
unfolding transacted given_byte fan_at
unkept_present c fan h none_kept gs u address beside r =
    (acked_read _ address (high_place fan) beside r).0 ∙ read_high _ fan h ∙ rw (transacted_kept fan _ address, stays_kept u, none_kept)

-- "the next read of that high byte gives the kept one and drops it": after an acknowledged R of the high byte none is kept.
pub high_drops : (c : Chip) → length c.kept ≡ 4 → (fan : ℕ) → fan < 4
    → (address : ℕ) (beside : List ℕ) {upper : ℕ} → (stepped_chip c (Read address (high_place fan)) beside).answer ≡ Byte (Some upper)
    → kept_at (stepped_chip c (Read address (high_place fan)) beside).chip fan ≡ None
unfolding transacted
high_drops c many fan h address beside r =
    rw (acked_read c address (high_place fan) beside r).1 (kept_high (transacted c address) fan h many)
