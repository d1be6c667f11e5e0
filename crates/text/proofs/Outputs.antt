-- Text behind text in a lent buffer, and an answer at its start.
use Rattle.std.proofs.Common.{◌∙◌, List, ℕ, ◌++◌}
use Rattle.text.specs.declared.Output.{Output}
use Rattle.text.specs.Answers.{Writes}
use Rattle.text.specs.Written.{behind}

-- t and then u are t ++ u
pub then : {a b c : Output} {t u : List ℕ} → Writes a t b → Writes b u c → Writes a (t ++ u) c
then p q = record { same = q.same ∙ p.same; whole = q.whole ∙ p.whole; wrote = behind p.wrote q.wrote }
