use mir.Syntax.{w16}
use mir.Val.{SFits}
use mir.Facts.{to_z-of_z}
use borrow.Author.Rules.{rules}
use Rattle.temperature.specs.Temperature.{stated_reading}
use Rattle.event.specs.Event.{stated_in}
use Rattle.event.proofs.Ranges.{halves_fit}
use Rattle.event.proofs.stated_reading.Goals as goal

pub returns-in-Halves : goal.returns-in-Halves
unfolding stated_in stated_reading
returns-in-Halves c =
    let f : SFits w16 c.in-Halves.h = search rules in
    simp (to_z-of_z, f, halves_fit _ (rw c.in-Halves.is at c.requires), c.in-Halves.is)
