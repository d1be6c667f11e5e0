-- Lists of events as demand 3 speaks of them: none refused, and alike but that temperatures in the second may be hotter. Assumes nothing.
use Rattle.std.specs.Prelude.{◌≡◌, List, [], ◌∷◌, ℕ, ◌≤◌}
use Rattle.temperature.specs.declared.Stated.{Stated}
use Rattle.temperature.specs.Temperature.{stated_reading}
use Rattle.temperature.specs.Order.{NoHotter}
use Rattle.state.specs.declared.Chip.{Chip}
use Rattle.event.specs.declared.Event.TheVariants.{Temperature}
use Rattle.event.specs.declared.Answer.{Answer}
use Rattle.event.specs.declared.Answer.TheVariants.{Refused, Ticked}
use Rattle.event.specs.declared.Tick.{Tick}
use Rattle.state.specs.declared.Refusal.{Refusal}
use Rattle.event.specs.Run.{Given, given_step}

-- the same event with the same bytes beside it, or a T or U for the same zone whose temperature is hotter in the second, or equal, in
-- sixteenths; missing is hottest. 02, Q-7: "Demand 3 reads T and U alike, by the temperature they state": a T may stand against a U
pub data Alike : Given → Given → Type 0 where
  same : (g : Given) → Alike g g
  hotter : (zone : ℕ) (bytes : List ℕ) {r s : Stated} → NoHotter (stated_reading r) (stated_reading s) → Alike (record { event = Temperature zone r; bytes = bytes }) (record { event = Temperature zone s; bytes = bytes })

-- alike place by place
pub data AllAlike : List Given → List Given → Type 0 where
  none : AllAlike [] []
  more : {g h : Given} {gs hs : List Given} → Alike g h → AllAlike gs hs → AllAlike (g ∷ gs) (h ∷ hs)

-- none of the events is refused, from a chip on
pub data NoneRefused : Chip → List Given → Type 0 where
  none : {c : Chip} → NoneRefused c []
  more : {c : Chip} {g : Given} {gs : List Given} → ((r : Refusal) → (given_step c g).answer ≡ Refused r → ⊥) → NoneRefused (given_step c g).chip gs → NoneRefused c (g ∷ gs)

-- the duties of a tick's answer, before the start-up kick, are at least as high in the second; other answers are not compared
pub data NoHigher : Answer → Answer → Type 0 where
  ticks : {t u : Tick} → t.duty1 ≤ u.duty1 → t.duty2 ≤ u.duty2 → NoHigher (Ticked t) (Ticked u)
  others : {a b : Answer} → ((t : Tick) → a ≡ Ticked t → ⊥) → ((t : Tick) → b ≡ Ticked t → ⊥) → NoHigher a b

pub data AllNoHigher : List Answer → List Answer → Type 0 where
  none : AllNoHigher [] []
  more : {a b : Answer} {xs ys : List Answer} → NoHigher a b → AllNoHigher xs ys → AllNoHigher (a ∷ xs) (b ∷ ys)
