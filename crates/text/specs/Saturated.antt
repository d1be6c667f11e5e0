-- No test can tell a number that was held to 65535. Assumes nothing.
use Rattle.std.specs.Prelude.{◌≡◌, refl, Option, None, Some, ℕ, ◌<◌, min, leb}
use Rattle.std.proofs.Common.{sym, ◌∙◌, arith, le-leb}
use Rattle.std.proofs.Math.Logic.{by_cases}
use Rattle.std.proofs.Math.Decide.{dec_le}
use Rattle.std.proofs.lemmas.Bool.{lt-leb}
use Rattle.text.specs.declared.Number.{Number}
use Rattle.text.specs.declared.Number.TheVariants.{Dash, Plus, Minus}
use Rattle.text.specs.Number.{is_spelt, saturated}

-- a test for at most `most` says of the number that was held what it says of the exact one
pub saturated_plus : (v most : ℕ) → most < 65535 → leb (min v 65535) most ≡ leb v most
saturated_plus v most h =
    by_cases (dec_le v most)
    (λ l. le-leb (min v 65535) most (omega arith) ∙ sym (le-leb v most l))
    (λ l. lt-leb (min v 65535) most (omega arith) ∙ sym (lt-leb v most (omega arith)))

-- it is spelled right where the exact one is
pub saturated_spelt : (n : Option Number) → is_spelt (saturated n) ≡ is_spelt n
unfolding is_spelt saturated
saturated_spelt None = refl
saturated_spelt (Some Dash) = refl
saturated_spelt (Some (Plus v)) = refl
saturated_spelt (Some (Minus v)) = refl
