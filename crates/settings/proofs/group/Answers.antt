use Rattle.std.specs.Prelude.{◌+◌}
use Rattle.std.proofs.Common.{rules, arith}
use Rattle.std.proofs.lemmas.Option.{slice_get-get_or}
use Rattle.text.specs.declared.Number.TheVariants.{Dash}
use Rattle.settings.proofs.Made.{tab_made}
use Rattle.settings.proofs.group.Goals as goal

pub returns : goal.returns
returns g c = λ f h. tab_made _ _ _ _ _ (λ k x q l t.
    let e = slice_get-get_or c.args.entries.now (c.args.first + k) Dash (omega arith) in
    rw e (search (rules, h))) c.from_fn.ensures.items
