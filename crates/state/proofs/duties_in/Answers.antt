use Rattle.std.proofs.Common.{rules, tests, leb, length, get_or}
use Rattle.laws.specs.Passing.{every_is}
use Rattle.laws.specs.AllPass.{all_pass}
use Rattle.state.specs.Most.{DUTY_MOST}
use Rattle.state.specs.Valid.{numbers_in}
use Rattle.state.proofs.duties_in.Goals as goal

pub returns : goal.returns
unfolding numbers_in all_pass
returns c = every_is _ (length c.args.duties.now) (λ k. leb (get_or c.args.duties.now k 0) DUTY_MOST) (search (rules, tests))
