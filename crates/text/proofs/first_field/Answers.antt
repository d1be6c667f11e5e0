use Rattle.text.specs.Walk.{first_take}
use Rattle.text.proofs.first_field.Goals as goal

pub returns : goal.returns
returns c = rw (c.width.ensures.holds, ← first_take c.args.s.now)
