-- Document 01, "Lines and refusals": the twelve lines and what they print, byte for byte, computed on the definitions: the lines say the
-- events of its session, and its answers print as the output. Assumes nothing.
use Rattle.std.specs.Prelude.{◌≡◌, refl, List, [], ◌∷◌, ℕ}
use Rattle.std.proofs.Common.{ap, ◌∙◌}
use Rattle.state.specs.Made.{fresh}
use Rattle.event.specs.Session.{session, answers, session_answers}
use Rattle.text.specs.Fields.{first_field, other_fields, fields_of, field_at}
use Rattle.text.specs.Number.{is_digit, all_digits, value_of, run_of, plus_of, minus_of, decimal_of, is_spelt}
use Rattle.text.specs.Hex.{nibble_of, hex_byte_of}
use Rattle.text.specs.Answers.{digits_text, column_text, hex_digit, hex_text, digit_of, ack_text, byte_text, no_byte_text, tick_text, refusal_text}
use Rattle.parse.specs.Parse.{letter_of, number_at, index_of, spelled_stated, count_of, pair_of, temperature_line, hot_line, alone_line, two_by, two_of, three_by, three_of, write_by, write_line, read_by, read_line, event_by, data_of}
use Rattle.line.specs.Line.{start_session, answer_text}
use Rattle.line.specs.Session.{printed_from}
use Rattle.state.specs.Refusal.{number_of}
use Rattle.determined.specs.Said.{says, AllSay, none, more, text_at, said_prints, AllPlain, plain_from, plain_prints}

-- K, T 1 70, T 5 66, K, W 2C BF 01, H 1 1, K, W 2C B5 80, K, R 2C 52, R 2D 52, T 6 10; tabs are 9
unfoldable pub input : List (List ℕ)
input =
    (75 ∷ [])
    ∷ (84 ∷ 9 ∷ 49 ∷ 9 ∷ 55 ∷ 48 ∷ [])
    ∷ (84 ∷ 9 ∷ 53 ∷ 9 ∷ 54 ∷ 54 ∷ [])
    ∷ (75 ∷ [])
    ∷ (87 ∷ 9 ∷ 50 ∷ 67 ∷ 9 ∷ 66 ∷ 70 ∷ 9 ∷ 48 ∷ 49 ∷ [])
    ∷ (72 ∷ 9 ∷ 49 ∷ 9 ∷ 49 ∷ [])
    ∷ (75 ∷ [])
    ∷ (87 ∷ 9 ∷ 50 ∷ 67 ∷ 9 ∷ 66 ∷ 53 ∷ 9 ∷ 56 ∷ 48 ∷ [])
    ∷ (75 ∷ [])
    ∷ (82 ∷ 9 ∷ 50 ∷ 67 ∷ 9 ∷ 53 ∷ 50 ∷ [])
    ∷ (82 ∷ 9 ∷ 50 ∷ 68 ∷ 9 ∷ 53 ∷ 50 ∷ [])
    ∷ (84 ∷ 9 ∷ 54 ∷ 9 ∷ 49 ∷ 48 ∷ [])
    ∷ []

-- the output behind the header; line feeds are 10
unfoldable pub output : List ℕ
output =
    75 ∷ 9 ∷ 48 ∷ 9 ∷ 50 ∷ 53 ∷ 54 ∷ 9 ∷ 50 ∷ 53 ∷ 54 ∷ 9 ∷ 50 ∷ 53 ∷ 54 ∷ 9 ∷ 50 ∷ 53 ∷ 54 ∷ 9 ∷ 48 ∷ 10
    ∷ 75 ∷ 9 ∷ 48 ∷ 9 ∷ 57 ∷ 54 ∷ 9 ∷ 56 ∷ 48 ∷ 9 ∷ 49 ∷ 50 ∷ 56 ∷ 9 ∷ 49 ∷ 50 ∷ 56 ∷ 9 ∷ 48 ∷ 10
    ∷ 87 ∷ 9 ∷ 49 ∷ 10
    ∷ 75 ∷ 9 ∷ 48 ∷ 9 ∷ 57 ∷ 54 ∷ 9 ∷ 56 ∷ 48 ∷ 9 ∷ 57 ∷ 54 ∷ 9 ∷ 56 ∷ 48 ∷ 9 ∷ 48 ∷ 10
    ∷ 87 ∷ 9 ∷ 49 ∷ 10
    ∷ 75 ∷ 9 ∷ 49 ∷ 9 ∷ 57 ∷ 54 ∷ 9 ∷ 56 ∷ 48 ∷ 9 ∷ 57 ∷ 54 ∷ 9 ∷ 56 ∷ 48 ∷ 9 ∷ 49 ∷ 10
    ∷ 82 ∷ 9 ∷ 49 ∷ 9 ∷ 50 ∷ 49 ∷ 10
    ∷ 82 ∷ 9 ∷ 48 ∷ 9 ∷ 45 ∷ 45 ∷ 10
    ∷ 69 ∷ 9 ∷ 49 ∷ 50 ∷ 9 ∷ 50 ∷ 10
    ∷ []

-- each line says its event
said : AllSay input session
unfolding input session letter_of event_by alone_line write_line read_line three_of two_of data_of pair_of number_at index_of spelled_stated count_of first_field other_fields fields_of field_at is_digit all_digits value_of run_of plus_of minus_of decimal_of is_spelt nibble_of hex_byte_of
said =
    more (says refl refl refl)
    (more (says refl refl refl)
    (more (says refl refl refl)
    (more (says refl refl refl)
    (more (says refl refl refl)
    (more (says refl refl refl)
    (more (says refl refl refl)
    (more (says refl refl refl)
    (more (says refl refl refl)
    (more (says refl refl refl)
    (more (says refl refl refl)
    (more (says refl refl refl)
    none)))))))))))

-- no answer is a block
plain : AllPlain answers
unfolding answers text_at answer_text
plain =
    more (λ n c d. refl)
    (more (λ n c d. refl)
    (more (λ n c d. refl)
    (more (λ n c d. refl)
    (more (λ n c d. refl)
    (more (λ n c d. refl)
    (more (λ n c d. refl)
    (more (λ n c d. refl)
    (more (λ n c d. refl)
    (more (λ n c d. refl)
    (more (λ n c d. refl)
    (more (λ n c d. refl)
    none)))))))))))

-- the answers print as the output
shown : plain_from 1 fresh answers ≡ output
unfolding answers output plain_from text_at answer_text digits_text column_text hex_digit hex_text digit_of ack_text byte_text no_byte_text tick_text refusal_text number_of
shown = refl

pub printed : printed_from start_session 1 input ≡ output
unfolding start_session
printed =
    said_prints start_session 1 said ∙ plain_prints 1 fresh fresh session (rw session_answers plain) ∙ ap (plain_from 1 fresh) session_answers ∙ shown
