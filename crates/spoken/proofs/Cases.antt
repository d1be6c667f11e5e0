-- Texts that meet all that demand 3 asks of lines: an S line of 59 zeros, "T\t1\t70", "P\t2C\tF6\t04\t00\t00\t00\t00", "G\t2C\tF6" and "K",
-- beside the same lines but "U\t1\t561", which is hotter by one sixteenth, or "T\t1\t-". With "U\t1\t560" the text is the same. Assumes
-- nothing.
use Rattle.std.specs.Prelude.{◌≡◌, pos}
use Rattle.line.specs.Line.{start_session}
use Rattle.line.specs.Session.{printed_from}
use Rattle.theorems.specs.Alike.{AllNoHigher}
use Rattle.spoken.specs.Lines.{answers_of}
use Rattle.spoken.specs.HotterLines.{demand_3_lines}
use Rattle.spoken.specs.StatedLines.{halves_line, same as same_line, none as none-text, more as more-text, same_printed}
use Rattle.spoken.specs.TickLine.{K}
use Rattle.spoken.specs.Cases.{setup, warm, equal, warmer, lost, write, read, text_of, warm_says, equal_says, warm_all, warmer_all, lost_all, warmer_alike, lost_alike}

-- so the duties after K are at least as high in the second
pub warmer_no_lower : AllNoHigher (answers_of start_session (text_of warm)) (answers_of start_session (text_of warmer))
warmer_no_lower = demand_3_lines _ _ warmer_alike warm_all warmer_all

pub lost_no_lower : AllNoHigher (answers_of start_session (text_of warmer)) (answers_of start_session (text_of lost))
lost_no_lower = demand_3_lines _ _ lost_alike warmer_all lost_all

-- ---- a T of 70 and a U of 560 are the same

pub equal_prints : printed_from start_session 1 (text_of warm) ≡ printed_from start_session 1 (text_of equal)
equal_prints =
    same_printed start_session 1
    (more-text (same_line setup) (more-text (halves_line (pos 70) warm_says equal_says) (more-text (same_line write) (more-text (same_line read) (more-text (same_line K) none-text)))))
