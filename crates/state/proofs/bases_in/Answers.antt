use Rattle.std.proofs.Common.{rules, tests, length, get_or}
use Rattle.laws.specs.Passing.{every_is}
use Rattle.laws.specs.AllPass.{all_pass}
use Rattle.std.specs.Prelude.{pos}
use Rattle.state.specs.Valid.{degrees_in, bases_in}
use Rattle.state.proofs.bases_in.Goals as goal

pub returns : goal.returns
unfolding bases_in all_pass
returns c = every_is _ (length c.args.bases.now) (λ k. degrees_in (get_or c.args.bases.now k (pos 0))) (search (rules, tests))
