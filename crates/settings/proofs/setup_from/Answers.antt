use Rattle.std.proofs.Common.{arith}
use Rattle.std.proofs.lemmas.Option.{slice_get-get_or}
use Rattle.text.specs.declared.Number.TheVariants.{Dash}
use Rattle.settings.specs.Places.{LEVEL, BOOST_HYSTERESIS}
use Rattle.settings.specs.Settings.{setup_by, plain_of, boost_of, override_of}
use Rattle.settings.specs.Entries.{held_byte, held_degrees}
use Rattle.settings.proofs.setup_from.Goals as goal

pub returns : goal.returns
unfolding setup_by
returns c =
    let es = c.args.entries.now in
    rw (
      slice_get-get_or es LEVEL Dash (omega arith),
      c.held_byte.ensures,
      c.group.ensures held_degrees (λ n r p. p.1),
      c.group-2.ensures held_byte (λ n r p. p.1),
      c.group-3.ensures held_byte (λ n r p. p.1),
      c.group-4.ensures held_byte (λ n r p. p.1),
      c.group-5.ensures plain_of (λ n r p. p.1),
      c.group-6.ensures (boost_of held_degrees) (λ n r p. p.1),
      slice_get-get_or es BOOST_HYSTERESIS Dash (omega arith),
      c.held_byte-2.ensures,
      c.group-7.ensures held_byte (λ n r p. p.1),
      c.group-8.ensures override_of (λ n r p. p.1),
      c.group-9.ensures plain_of (λ n r p. p.1),
      c.group-10.ensures held_byte (λ n r p. p.1),
    )
