-- A number that is no "-", as the code behind a test for "-" knows it. Assumes nothing.
use Rattle.std.proofs.Common.{◌≡◌, ◌≢◌, refl, Option, Some, None}
use Rattle.text.specs.declared.Number.{Number}
use Rattle.text.specs.declared.Number.TheVariants.{Dash, Plus, Minus}
use Rattle.settings.specs.Settings.{none_or}

-- it is not none
pub not_dash : {A : Type 0} (none some : A) (n : Option Number) → n ≢ Some Dash → none_or none some n ≡ some
unfolding none_or
not_dash none some None h = refl
not_dash none some (Some Dash) h = absurd (h refl)
not_dash none some (Some (Plus v)) h = refl
not_dash none some (Some (Minus v)) h = refl
