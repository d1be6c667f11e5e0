use Rattle.std.specs.Prelude.{Some, get_or}
use Rattle.std.proofs.Common.{rules, arith, ◌∙◌}
use Rattle.std.proofs.lemmas.Option.{slice_get-get_or}
use Rattle.laws.specs.Every.{every_same}
use Rattle.text.specs.declared.Number.TheVariants.{Dash}
use Rattle.settings.specs.Places.{NUMBERS}
use Rattle.settings.specs.Settings.{range_of, is_within}
use Rattle.laws.specs.Passing.{every_is}
use Rattle.settings.proofs.all_within.Goals as goal

pub returns : goal.returns
returns c =
    let es = c.args.entries.now in
    every_is _ NUMBERS (λ k. is_within (range_of k) (Some (get_or es k Dash))) (search rules)
    ∙ every_same _ _ NUMBERS (λ k l. rw (slice_get-get_or es k Dash (omega arith)))
