use Rattle.std.proofs.Common.{rules, tests, length, get_or}
use Rattle.laws.specs.Passing.{every_is}
use Rattle.laws.specs.AllPass.{all_pass}
use Rattle.state.specs.Parts.{no_override}
use Rattle.state.specs.Valid.{override_in, overrides_in}
use Rattle.state.proofs.overrides_in.Goals as goal

pub returns : goal.returns
unfolding overrides_in all_pass
returns c = every_is _ (length c.args.overrides.now) (λ k. override_in (get_or c.args.overrides.now k no_override)) (search (rules, tests))
