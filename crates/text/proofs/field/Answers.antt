use Rattle.laws.specs.Left.{left_part}
use Rattle.text.specs.Walk.{field_first, from_field}
use Rattle.text.proofs.field.Goals as goal

pub returns : goal.returns
returns c =
    let s = c.args.s.now in
    let a = c.field_start.result in
    rw (c.first_field.ensures, left_part s a, ← field_first) (from_field c.field_start.ensures)
