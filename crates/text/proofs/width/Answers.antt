use mathlib.Core.Path.{◌∙◌}
use Rattle.text.specs.Widths.{field_width}
use Rattle.text.proofs.width.Goals as goal

pub returns : goal.returns
returns c = record { within = c.width_before.ensures.within; holds = c.width_before.ensures.holds ∙ field_width _ }
