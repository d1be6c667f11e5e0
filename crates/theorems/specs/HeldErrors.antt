-- Document 02, Q-2, "Voltage hysteresis as the chip has it", over lists of events: from when until when a channel is in error, and the bit
-- that its readings set. Channels count from 0. Assumes nothing.
use Rattle.std.specs.Prelude.{◌≡◌, refl, Bool, false, List, [], ◌∷◌, ℕ, ◌+◌, ◌≤◌, ◌<◌}
use Rattle.laws.specs.Pointwise.{replicate_each}
use Rattle.state.specs.declared.Chip.{Chip}
use Rattle.state.specs.declared.Setup.{Setup}
use Rattle.state.specs.Parts.{in_error}
use Rattle.state.specs.PowerOn.{power_on}
use Rattle.sense.specs.Errors.{low_limit, high_limit}
use Rattle.sense.specs.Hysteresis.{hysteresis_of, low_move, high_move, ends_error}
use Rattle.sense.specs.InError.{sum_too_high, difference_too_low, window_too_narrow}
use Rattle.event.specs.Run.{Given, given_step}
use Rattle.theorems.specs.VoltReadings.{Starts, Ends}

-- ---- what is said

-- none of the events, from a chip on, ends the error of channel i
pub data NoneEnds (i : ℕ) : Chip → List Given → Type 0 where
  none : {c : Chip} → NoneEnds i c []
  more : {c : Chip} {g : Given} {gs : List Given} → (Ends i c g → ⊥) → NoneEnds i (given_step c g).chip gs → NoneEnds i c (g ∷ gs)

-- one of the events starts it, and none behind that one ends it
pub data Started (i : ℕ) : Chip → List Given → Type 0 where
  here : {c : Chip} {g : Given} {gs : List Given} → Starts i c g → NoneEnds i (given_step c g).chip gs → Started i c (g ∷ gs)
  later : {c : Chip} {g : Given} {gs : List Given} → Started i (given_step c g).chip gs → Started i c (g ∷ gs)

-- ---- limits and VH under which no reading ends it

abbrev pub NeverEnds : ℕ → Chip → Type 0
NeverEnds i c = (n : ℕ) → n ≤ 255 → ends_error (low_limit c.registers i) (high_limit c.registers i) (hysteresis_of c.registers) n ≡ false

module _ (i : ℕ) (c : Chip) where
  -- low plus VH is above 255
  pub never_by_sum : 255 < low_limit c.registers i + low_move (low_limit c.registers i) (hysteresis_of c.registers) → NeverEnds i c
  never_by_sum s n l = sum_too_high _ _ _ n s l

  -- high minus VH is below 0
  pub never_by_difference : high_limit c.registers i < high_move (high_limit c.registers i) (hysteresis_of c.registers) → NeverEnds i c
  never_by_difference d n l = difference_too_low _ _ _ n d

  -- both limits are moved, and the window is narrower than twice VH
  pub never_by_window : 0 < low_limit c.registers i → high_limit c.registers i < 0xFF → high_limit c.registers i < low_limit c.registers i + hysteresis_of c.registers + hysteresis_of c.registers → NeverEnds i c
  never_by_window low high narrow n l = window_too_narrow _ _ _ n low high narrow

-- the limits of channel i and VH are the same in both
pub record SameBounds (i : ℕ) (c d : Chip) : Type 0 where
  pub low : low_limit d.registers i ≡ low_limit c.registers i
  pub high : high_limit d.registers i ≡ high_limit c.registers i
  pub vh : hysteresis_of d.registers ≡ hysteresis_of c.registers

-- no event, from a chip on, changes them
pub data BoundsStay (i : ℕ) : Chip → List Given → Type 0 where
  none : {c : Chip} → BoundsStay i c []
  more : {c : Chip} {g : Given} {gs : List Given} → SameBounds i c (given_step c g).chip → BoundsStay i (given_step c g).chip gs → BoundsStay i c (g ∷ gs)

-- ---- from power-on

-- no channel is in error
pub power_sound : (s : Setup) (i : ℕ) → in_error (power_on s) i ≡ false
unfolding power_on in_error
power_sound s i = replicate_each (λ (e : Bool). e ≡ false) 16 false refl refl i
