use Rattle.std.proofs.Common.{rules, tests, length, get_or}
use Rattle.laws.specs.Passing.{every_is}
use Rattle.laws.specs.AllPass.{all_pass}
use Rattle.state.specs.Parts.{no_boost}
use Rattle.state.specs.Valid.{boost_in, boosts_in}
use Rattle.state.proofs.boosts_in.Goals as goal

pub returns : goal.returns
unfolding boosts_in all_pass
returns c = every_is _ (length c.args.boosts.now) (λ k. boost_in (get_or c.args.boosts.now k no_boost)) (search (rules, tests))
