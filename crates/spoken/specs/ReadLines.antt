-- An R line that is acknowledged prints what its register shows to a byte read. Assumes nothing.
use Rattle.std.specs.Prelude.{◌≡◌, List, [], ℕ, T, Some, Ok}
use Rattle.std.proofs.Common.{sym, ◌∙◌}
use Rattle.map.specs.Bits.{is_set}
use Rattle.state.specs.declared.Chip.{Chip}
use Rattle.bus.specs.Read.{given_register, transacted_reads}
use Rattle.laws.specs.Never.{never}
use Rattle.event.specs.declared.Event.TheVariants.{Read}
use Rattle.event.specs.declared.Answer.TheVariants.{Byte}
use Rattle.event.specs.Event.{stepped_chip}
use Rattle.event.specs.Reads.{acked_read}
use Rattle.text.specs.Answers.{byte_text}
use Rattle.line.specs.declared.Session.{Session}
use Rattle.line.specs.declared.Asked.TheVariants as asked
use Rattle.line.specs.Line.{asked_text, begun_line, event_line, judged_line, answer_text}
use Rattle.line.specs.Session.{printed_by, printed_unless}
use Rattle.spoken.specs.Carried.{line_alone}

-- the byte of an R is what the register shows to a byte read
read_byte_lem : (c : Chip) (address a byte : ℕ) → (stepped_chip c (Read address a) []).answer ≡ Byte (Some byte) → given_register c a ≡ byte
read_byte_lem c address a byte e = sym (transacted_reads c address a) ∙ sym (acked_read c address a [] e).0

module _ (s : Session) (l : List ℕ) (address a : ℕ) (e : asked_text s.begun l ≡ Ok (asked.Event (Read address a))) where
  -- an R line comes to what the R alone does
  pub read_line_lem : judged_line s l ≡ event_line s.chip (Read address a) []
  read_line_lem = line_alone l (Read address a) (λ to command q. never (cc)) s e

  module _ {byte : ℕ} (f : (judged_line s l).answer ≡ Byte (Some byte)) where
    -- one that is acknowledged answers and prints its byte
    pub read_answer_lem : (stepped_chip s.chip (Read address a) []).answer ≡ Byte (Some byte)
    unfolding event_line begun_line
    read_answer_lem = rw read_line_lem at f

    pub byte_printed : (n : ℕ) → printed_by (judged_line s l) n ≡ byte_text byte
    unfolding event_line begun_line printed_by printed_unless answer_text
    byte_printed n = rw (read_line_lem, read_answer_lem)

-- an R line for register a that is acknowledged prints a byte in which the bit stands
abbrev pub PrintsBit : Session → ℕ → ℕ → Type 0
PrintsBit s a bit = (l : List ℕ) (address byte n : ℕ) → asked_text s.begun l ≡ Ok (asked.Event (Read address a)) → (judged_line s l).answer ≡ Byte (Some byte) → (printed_by (judged_line s l) n ≡ byte_text byte) × T (is_set byte bit)

-- a bit that a register shows to a byte read is printed
pub bit_printed : (s : Session) (a bit : ℕ) → T (is_set (given_register s.chip a) bit) → PrintsBit s a bit
bit_printed s a bit t l address byte n e f =
    (byte_printed s l address a e f n, rw (read_byte_lem s.chip address a byte (read_answer_lem s l address a e f)) at t)
