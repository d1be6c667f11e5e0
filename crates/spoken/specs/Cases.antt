-- Texts that meet all that demand 3 asks of lines: an S line of 59 zeros, "T\t1\t70", "P\t2C\tF6\t04\t00\t00\t00\t00", "G\t2C\tF6" and "K",
-- beside the same lines but "U\t1\t561", which is hotter by one sixteenth, or "T\t1\t-". With "U\t1\t560" the text is the same. Assumes
-- nothing.
use Rattle.std.specs.Prelude.{◌≡◌, refl, List, [], ◌∷◌, true, ℕ, pos, None}
use Rattle.std.proofs.Common.{arith}
use Rattle.laws.specs.Every.{every}
use Rattle.laws.specs.Tab.{tab}
use Rattle.temperature.specs.declared.Stated.{Stated}
use Rattle.temperature.specs.declared.Stated.TheVariants.{Halves, Sixteenths, Missing}
use Rattle.temperature.specs.Temperature.{stated_reading}
use Rattle.temperature.specs.Order.{NoHotter, missing, taken}
use Rattle.event.specs.Event.{index_in, reading_within, event_in, refusal_of}
use Rattle.event.specs.Stated.{reading_in}
use Rattle.text.specs.Fields.{first_field, other_fields, fields_of, field_at}
use Rattle.text.specs.Number.{is_digit, all_digits, value_of, run_of, plus_of, minus_of, decimal_of, is_spelt}
use Rattle.text.specs.Hex.{nibble_of, hex_byte_of, is_hex, hex_value, hexes_spelt, hexes_of}
use Rattle.parse.specs.Parse.{letter_of, number_at, index_of, spelled_stated, pair_of, temperature_line, two_by, two_of, three_by, three_of, read_block_by, read_block_line, is_data, write_block_by, write_block_line, event_by, data_by, data_of}
use Rattle.settings.specs.Settings.{setting_at, range_of, is_within, plain_of, rises_by, is_setup, settings_of}
use Rattle.settings.specs.Cases.{zeros}
use Rattle.line.specs.declared.Session.{Session}
use Rattle.line.specs.Line.{start_session, asked_event, asked_settings, asked_other, asked_by, asked_text, begun_line, setup_line, event_line, judged_by, judged_line, asked_unless}
use Rattle.spoken.specs.Lines.{AllTaken, AllLinesAlike, same, hotter, none, more}
use Rattle.spoken.specs.StatedLines.{States, reading_line, stated_line}
use Rattle.spoken.specs.TickLine.{K, tick_line}

-- ---- the lines

abbrev pub setup : List ℕ
setup = 83 ∷ zeros 59

abbrev pub warm : List ℕ
warm = 84 ∷ 9 ∷ 49 ∷ 9 ∷ 55 ∷ 48 ∷ []

abbrev pub equal : List ℕ
equal = 85 ∷ 9 ∷ 49 ∷ 9 ∷ 53 ∷ 54 ∷ 48 ∷ []

abbrev pub warmer : List ℕ
warmer = 85 ∷ 9 ∷ 49 ∷ 9 ∷ 53 ∷ 54 ∷ 49 ∷ []

abbrev pub lost : List ℕ
lost = 84 ∷ 9 ∷ 49 ∷ 9 ∷ 45 ∷ []

abbrev pub write : List ℕ
write =
    80 ∷ 9 ∷ 50 ∷ 67 ∷ 9 ∷ 70 ∷ 54 ∷ 9 ∷ 48 ∷ 52 ∷ 9 ∷ 48 ∷ 48 ∷ 9 ∷ 48 ∷ 48 ∷ 9 ∷ 48 ∷ 48 ∷ 9 ∷ 48 ∷ 48 ∷ []

abbrev pub read : List ℕ
read = 71 ∷ 9 ∷ 50 ∷ 67 ∷ 9 ∷ 70 ∷ 54 ∷ []

-- the text with a T or a U line
abbrev pub text_of : List ℕ → List (List ℕ)
text_of l = setup ∷ l ∷ write ∷ read ∷ K ∷ []

-- ---- what they say

-- of zone 1a
pub warm_says : States warm 1 (Halves (pos 70))
unfolding event_by letter_of fields_of first_field other_fields field_at pair_of spelled_stated number_at index_of decimal_of plus_of minus_of run_of all_digits is_digit value_of is_spelt
warm_says = record { short = omega arith; says = refl }

pub equal_says : States equal 1 (Sixteenths (pos 560))
unfolding event_by letter_of fields_of first_field other_fields field_at pair_of spelled_stated number_at index_of decimal_of plus_of minus_of run_of all_digits is_digit value_of is_spelt
equal_says = record { short = omega arith; says = refl }

warmer_says : States warmer 1 (Sixteenths (pos 561))
unfolding event_by letter_of fields_of first_field other_fields field_at pair_of spelled_stated number_at index_of decimal_of plus_of minus_of run_of all_digits is_digit value_of is_spelt
warmer_says = record { short = omega arith; says = refl }

lost_says : States lost 1 Missing
unfolding event_by letter_of fields_of first_field other_fields field_at pair_of spelled_stated number_at index_of decimal_of plus_of minus_of run_of all_digits is_digit value_of is_spelt
lost_says = record { short = omega arith; says = refl }

-- ---- they are taken

-- a temperature in range
stated_taken : {l : List ℕ} {q : Stated} → States l 1 q → reading_in (stated_reading q) ≡ true → (s : Session) → (judged_line s l).refusal ≡ None
unfolding reading_line begun_line index_in
stated_taken t i s = rw (stated_line s t, i)

setup_taken : (judged_line start_session setup).refusal ≡ None
unfolding start_session judged_line judged_by asked_text asked_by asked_other asked_settings event_by setup_line begun_line settings_of is_setup setting_at every range_of is_within rises_by plain_of letter_of fields_of first_field other_fields field_at decimal_of plus_of minus_of run_of all_digits is_digit value_of is_spelt
setup_taken = refl

write_taken : (s : Session) → (judged_line s write).refusal ≡ None
unfolding judged_line judged_by asked_text asked_by asked_event asked_unless event_line begun_line refusal_of event_in event_by letter_of fields_of first_field other_fields field_at write_block_line is_data three_of two_of hexes_spelt every is_hex hex_byte_of nibble_of data_of hexes_of tab hex_value
write_taken s = refl

read_taken : (s : Session) → (judged_line s read).refusal ≡ None
unfolding judged_line judged_by asked_text asked_by asked_event asked_unless event_line begun_line refusal_of event_in event_by letter_of fields_of first_field other_fields field_at read_block_line two_of hex_byte_of nibble_of data_of
read_taken s = refl

tick_taken : (s : Session) → (judged_line s K).refusal ≡ None
unfolding event_line begun_line
tick_taken s = rw (tick_line s)

-- the lines behind the T or U line
rest_all : (s : Session) → AllTaken s (write ∷ read ∷ K ∷ [])
rest_all s = more (write_taken s) (more (read_taken _) (more (tick_taken _) none))

text_all : {l : List ℕ} {q : Stated} → States l 1 q → reading_in (stated_reading q) ≡ true → AllTaken start_session (text_of l)
text_all t i = more setup_taken (more (stated_taken t i _) (rest_all _))

pub warm_all : AllTaken start_session (text_of warm)
unfolding reading_in reading_within stated_reading
warm_all = text_all warm_says refl

pub warmer_all : AllTaken start_session (text_of warmer)
unfolding reading_in reading_within stated_reading
warmer_all = text_all warmer_says refl

pub lost_all : AllTaken start_session (text_of lost)
unfolding reading_in stated_reading
lost_all = text_all lost_says refl

-- ---- they are alike

text_alike : {l m : List ℕ} {q r : Stated} → States l 1 q → States m 1 r → NoHotter (stated_reading q) (stated_reading r) → AllLinesAlike (text_of l) (text_of m)
text_alike t u h = more (same setup) (more (hotter t.says u.says h) (more (same write) (more (same read) (more (same K) none))))

-- a T against a U that is hotter by one sixteenth, and a U against a T that says that the zone is missing
pub warmer_alike : AllLinesAlike (text_of warm) (text_of warmer)
unfolding stated_reading
warmer_alike = text_alike warm_says warmer_says (taken tt)

pub lost_alike : AllLinesAlike (text_of warmer) (text_of lost)
unfolding stated_reading
lost_alike = text_alike warmer_says lost_says missing
