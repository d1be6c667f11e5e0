use Rattle.std.proofs.Common.{sym, ◌∙◌}
use lib.Seq.{take-append_seam}
use Rattle.line.specs.Line.{refused_line, replied, silent_line}
use Rattle.line.specs.Comes.{setup_comes, refused_comes, event_comes}
use Rattle.line.proofs.reply_to.Goals as goal

pub returns-in-Ok-Setup : goal.returns-in-Ok-Setup
returns-in-Ok-Setup c =
    let k = setup_comes c.args.session.now c.args.line.now c.args.out.now (sym (rw c.in-Ok-Setup.field-0-is at c.in-Ok-Setup.ensures)) in
    (k.taken ∙ c.set_up.ensures, sym k.buffer)

pub returns-in-Ok-Event : goal.returns-in-Ok-Event
returns-in-Ok-Event c =
    let k = event_comes c.args.session.now c.args.line.now c.args.out.now _ (sym (rw c.in-Ok-Event.field-0-is at c.in-Ok-Event.ensures)) in
    let t = rw (c.data_of-count.ensures.1, c.data_of-count.ensures.0, take-append_seam) at c.take_event.ensures in
    (k.taken ∙ t.0, t.1 ∙ sym k.buffer)

pub returns-in-Err : goal.returns-in-Err
unfolding silent_line refused_line replied
returns-in-Err c =
    let k = refused_comes c.args.session.now c.args.line.now c.args.out.now _ (sym c.in-Err.ensures) in
    (k.taken, sym k.buffer)
