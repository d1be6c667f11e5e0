use Rattle.parse.specs.Clamped.{saturated_pair}
use Rattle.parse.specs.Walked.{pair_one, pair_two, pair_rest}
use Rattle.parse.specs.Held.{both_held}
use Rattle.parse.proofs.pair_of.Goals as goal

pub returns-in_err-rest : goal.returns-in_err-rest
unfolding saturated_pair
returns-in_err-rest c = rw (c.from_residual.ensures, pair_one _ c.in_err-rest.ensures)

pub returns-in_err-index : goal.returns-in_err-index
unfolding saturated_pair
returns-in_err-index c =
    rw (c.from_residual-in_err-index.ensures, pair_two c.in_ok-rest.ensures.1 c.in_err-index.ensures)

pub returns : goal.returns
returns c =
    rw (pair_rest c.in_ok-rest.ensures.1 c.in_ok-index.ensures.1, both_held, ← c.in_ok-index.ensures.0, ← c.decimal.ensures, ← c.decimal-2.ensures)
    c.zip.ensures
