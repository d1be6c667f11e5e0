-- A line of a letter, an index and a value, in the order in which the code goes about it. Assumes nothing.
use Rattle.std.specs.Prelude.{◌≡◌, List, Option, None, Some, ℕ, ◌≤◌, eqb, ℤ}
use Rattle.std.proofs.Math.Logic.{by_cases}
use Rattle.std.proofs.Math.Decide.{ℕ_discrete}
use Rattle.std.proofs.Common.{arith}
use Rattle.laws.specs.Pick.{pick}
use Rattle.temperature.specs.declared.Stated.{Stated}
use Rattle.temperature.specs.declared.Stated.TheVariants.{Halves, Sixteenths}
use Rattle.event.specs.declared.Event.{Event}
use Rattle.event.specs.declared.Event.TheVariants.{Temperature}
use Rattle.text.specs.declared.Number.{Number}
use Rattle.parse.specs.Parse.{index_of, spelled_stated, pair_of, temperature_line, voltage_line, fan_line, hot_line, event_by}

-- the event that a pair says by its letter
unfoldable pub pair_line : ℕ → Option (Number × Number) → Option Event
pair_line letter p =
    pick (eqb letter 70) (fan_line p)
    (pick (eqb letter 72) (hot_line p)
    (pick (eqb letter 84) (temperature_line Halves p)
    (pick (eqb letter 85) (temperature_line Sixteenths p)
    (pick (eqb letter 86) (voltage_line p) None))))

-- a temperature in the unit of its letter: of T, 84, half degrees, of U sixteenths
unfoldable pub counted_by : ℕ → ℤ → Stated
counted_by letter n = pick (eqb letter 84) (Halves n) (Sixteenths n)

-- what T and U say of a pair
pub pair_temperature : (letter : ℕ) (i v : Number) → 84 ≤ letter → letter ≤ 85 → pair_line letter (Some (i, v)) ≡ Some (Temperature (index_of i) (spelled_stated (counted_by letter) v))
unfolding pair_line counted_by
pair_temperature letter i v low high = by_cases (ℕ_discrete letter 84) (λ e. rw e) (λ n. let e : letter ≡ 85 = omega arith in rw e)

-- no letter makes an event of what is spelled wrong
pub pair_wrong : (letter : ℕ) → pair_line letter None ≡ None
unfolding pair_line
pair_wrong letter = grind arith

-- a line says what its pair says, unless its letter is A, G, K, P, R, W or X
pub event_pair : (letter : ℕ) (s : List ℕ) → (letter ≡ 65 → ⊥) → (letter ≡ 71 → ⊥) → (letter ≡ 75 → ⊥) → (letter ≡ 80 → ⊥) → (letter ≡ 82 → ⊥) → (letter ≡ 87 → ⊥) → (letter ≡ 88 → ⊥) → event_by letter s ≡ pair_line letter (pair_of s)
unfolding event_by pair_line
event_pair letter s a g k p r w x = grind arith
