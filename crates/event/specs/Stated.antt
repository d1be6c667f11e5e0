-- Document 02, Q-7: "T keeps half degrees", U carries sixteenths, and both are read "by the temperature they state". Of a zone, two events
-- that state the same temperature are the same event on the chip, taken or refused; so T h is U 8h. Assumes nothing.
use Rattle.std.specs.Prelude.{◌≡◌, Bool, true, List, ℕ, ◌+◌, ◌-◌, ◌*◌, ◌≤◌, leb, ℤ, negsuc, ◌*ℤ◌}
use Rattle.std.proofs.Math.Path.{refl}
use Rattle.std.proofs.Math.Logic.{by_cases}
use Rattle.std.proofs.Math.Decide.{dec_le}
use Rattle.std.proofs.Common.{arith, le-leb}
use Rattle.std.proofs.lemmas.Bool.{lt-leb}
use Rattle.std.proofs.Math.IntN.{pos}
use Rattle.temperature.specs.declared.Reading.{Reading}
use Rattle.temperature.specs.declared.Reading.TheVariants.{Taken, Missing}
use Rattle.temperature.specs.declared.Stated.{Stated}
use Rattle.temperature.specs.declared.Stated.TheVariants as stated
use Rattle.temperature.specs.Temperature.{HALF, stated_reading}
use Rattle.temperature.specs.Sixteenths.{halves_neg}
use Rattle.state.specs.declared.Chip.{Chip}
use Rattle.event.specs.declared.Event.TheVariants.{Temperature}
use Rattle.event.specs.Event.{reading_within, stated_in, event_in, refusal_of, taken_step, stepped_chip}

-- "Zone readings are held in sixteenths, -2032 to 2040", or missing
unfoldable pub reading_in : Reading → Bool
reading_in Missing = true
reading_in (Taken n) = reading_within (negsuc 2031) (pos 2040) n

-- two tests that hold of the same numbers
same_test : (a b c d : ℕ) → (a ≤ b → c ≤ d) → (c ≤ d → a ≤ b) → leb a b ≡ leb c d
same_test a b c d f g =
    by_cases (dec_le a b) (λ l. rw (le-leb a b l, le-leb c d (f l)))
    (λ n. by_cases (dec_le c d) (λ k. absurd (n (g k))) (λ m. rw (lt-leb a b (omega arith), lt-leb c d (omega arith))))

-- T's range and U's are the same temperatures
pub stated_range : (s : Stated) → stated_in s ≡ reading_in (stated_reading s)
unfolding stated_in reading_in reading_within stated_reading
stated_range stated.Missing = refl
stated_range (stated.Halves (pos n)) = same_test n 255 (n * HALF) 2040 (λ l. omega arith) (λ l. omega arith)
stated_range (stated.Halves (negsuc n)) =
    rw (halves_neg n, same_test n 253 (n * HALF + (HALF - 1)) 2031 (λ l. omega arith) (λ l. omega arith))
stated_range (stated.Sixteenths n) = refl

module _ (c : Chip) (zone : ℕ) (bytes : List ℕ) where
  -- the same temperature is the same event
  pub same_stated : (r s : Stated) → stated_reading r ≡ stated_reading s → stepped_chip c (Temperature zone r) bytes ≡ stepped_chip c (Temperature zone s) bytes
  unfolding stepped_chip refusal_of event_in taken_step
  same_stated r s e = rw (stated_range r, stated_range s, e)

  -- T h is U 8h, for every h; of a missing one T and U are one event
  pub halves_as_sixteenths : (h : ℤ) → stepped_chip c (Temperature zone (stated.Halves h)) bytes ≡ stepped_chip c (Temperature zone (stated.Sixteenths (h *ℤ pos HALF))) bytes
  unfolding stated_reading
  halves_as_sixteenths h = same_stated (stated.Halves h) (stated.Sixteenths (h *ℤ pos HALF)) refl
