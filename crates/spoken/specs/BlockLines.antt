-- A G line that is acknowledged prints what the registers of its block show. Assumes nothing.
use Rattle.std.specs.Prelude.{◌≡◌, List, [], ℕ, ◌≤◌, Ok}
use Rattle.laws.specs.Never.{never}
use Rattle.map.specs.Blocks.{fixed, block_within}
use Rattle.bus.specs.Block.{block_bytes}
use Rattle.event.specs.declared.Event.TheVariants.{ReadBlock}
use Rattle.event.specs.declared.Answer.TheVariants.{Block}
use Rattle.event.specs.Event.{stepped_chip}
use Rattle.event.specs.Blocks.{shown_for}
use Rattle.text.specs.Answers.{block_text}
use Rattle.line.specs.declared.Session.{Session}
use Rattle.line.specs.declared.Asked.TheVariants as asked
use Rattle.line.specs.Line.{Judged, asked_text, begun_line, event_line, judged_line, answer_text}
use Rattle.line.specs.Session.{printed_by, printed_unless}
use Rattle.theorems.specs.Sensors.{InBlock, BlocksShow}
use Rattle.spoken.specs.Carried.{line_alone}

-- line n prints a block, no longer than the text of one can be; register a is one of it, and byte a - first has the bit
pub record PrintsBlock (line : Judged) (n first count a bit : ℕ) : Type 0 where
  pub prints : printed_by line n ≡ block_text (block_bytes line.session.chip first count)
  pub most : count ≤ 32
  pub with_bit_lem : InBlock line.session.chip first count a bit

-- a G line for the command that is acknowledged prints a block in which the bit of register a stands
abbrev pub PrintsBitIn : Session → ℕ → ℕ → ℕ → Type 0
PrintsBitIn s command a bit = (l : List ℕ) (address first count n : ℕ) → asked_text s.begun l ≡ Ok (asked.Event (ReadBlock address command)) → (judged_line s l).answer ≡ Block (fixed first count) → PrintsBlock (judged_line s l) n first count a bit

-- a bit that block reads show is printed
pub block_printed : (s : Session) (command a bit : ℕ) → BlocksShow s.chip command a bit → PrintsBitIn s command a bit
unfolding event_line begun_line printed_by printed_unless answer_text
block_printed s command a bit b l address first count n e f =
    let line = line_alone l (ReadBlock address command) (λ to other q. never (cc)) s e in
    let answer : (stepped_chip s.chip (ReadBlock address command) []).answer ≡ Block (fixed first count) = rw line at f in
    rw line (record {
      prints = rw answer;
      most = (block_within command (shown_for s.chip address command [] answer).listed).most;
      with_bit_lem = b address first count answer;
    })
