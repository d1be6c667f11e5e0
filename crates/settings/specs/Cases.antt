-- The 59 numbers of "Without a setup", each in its place, make the setup without a setup; and S lines with offsets at the ends of their
-- ranges. Assumes nothing.
use Rattle.std.specs.Prelude.{◌≡◌, refl, List, Option, None, Some, [], ◌∷◌, ◌++◌, ℕ, zero, suc, ◌-◌, replicate, get_or}
use Rattle.laws.specs.Every.{every}
use Rattle.laws.specs.Tab.{tab}
use Rattle.text.specs.Fields.{first_field, other_fields, fields_of, field_at}
use Rattle.text.specs.Number.{is_digit, all_digits, value_of, run_of, plus_of, minus_of, decimal_of, is_spelt}
use Rattle.text.specs.declared.Number.{Number}
use Rattle.text.specs.declared.Number.TheVariants.{Dash, Plus}
use Rattle.state.specs.PowerOn.{default_setup}
use Rattle.state.specs.Refusal.{number_of, number_returned}
use Rattle.settings.specs.Settings.{setting_at, range_of, is_within, plain_of, signed_of, none_or, setup_by, rises_by, is_setup, settings_of, setup_or_default}
use Rattle.settings.specs.Before.{old_range_of, old_settings_of}

unfoldable pub default_numbers : List (Option Number)
default_numbers =
    (Some (Plus 0) ∷ []) ++ (replicate 4 (Some (Plus 30)) ++ (replicate 24 (Some (Plus 2)) ++ (replicate 2 (Some (Plus 2)) ++ ((Some (Plus 0) ∷ Some (Plus 64) ∷ Some (Plus 80) ∷ Some (Plus 96) ∷ Some (Plus 112) ∷ Some (Plus 128) ∷ Some (Plus 144) ∷ Some (Plus 160) ∷ Some (Plus 176) ∷ Some (Plus 192) ∷ Some (Plus 208) ∷ Some (Plus 224) ∷ Some (Plus 240) ∷ []) ++ (replicate 6 (Some Dash) ++ ((Some (Plus 3) ∷ []) ++ ((Some (Plus 17) ∷ Some (Plus 4) ∷ []) ++ (replicate 2 (Some Dash) ++ (replicate 2 (Some (Plus 128)) ++ replicate 2 (Some (Plus 2)))))))))))

pub default_numbers_lem : setup_by plain_of signed_of (λ k. get_or default_numbers k None) ≡ default_setup
unfolding setup_by default_numbers plain_of signed_of none_or tab default_setup
default_numbers_lem = refl

-- ---- document 02, Q-6

-- n fields of the number 0
abbrev pub zeros : ℕ → List ℕ
zeros zero = []
zeros (suc n) = 9 ∷ 48 ∷ zeros n

-- an S line of 59 numbers, all 0 but the one behind k others, which is so spelled
abbrev pub line_with : ℕ → List ℕ → List ℕ
line_with k spelled = 83 ∷ zeros k ++ (9 ∷ spelled ++ zeros (58 - k))

-- its refusal, now and to an old reader
abbrev pub refused_with : ℕ → List ℕ → ℕ
refused_with k spelled = number_returned (settings_of (line_with k spelled))

abbrev pub old_refused_with : ℕ → List ℕ → ℕ
old_refused_with k spelled = number_returned (old_settings_of (line_with k spelled))

-- "Offsets now run from 0 to 63 in both tables": the first and the last of tables 1 and 2, and of 3 and 4, with 63 and 64
pub offsets_now : (refused_with 5 (54 ∷ 51 ∷ []) ≡ 0) × (refused_with 16 (54 ∷ 51 ∷ []) ≡ 0) × (refused_with 17 (54 ∷ 51 ∷ []) ≡ 0) × (refused_with 28 (54 ∷ 51 ∷ []) ≡ 0) × (refused_with 5 (54 ∷ 52 ∷ []) ≡ 1) × (refused_with 16 (54 ∷ 52 ∷ []) ≡ 1) × (refused_with 17 (54 ∷ 52 ∷ []) ≡ 1) × (refused_with 28 (54 ∷ 52 ∷ []) ≡ 1)
unfolding settings_of number_of is_setup setting_at every range_of is_within rises_by plain_of fields_of first_field other_fields field_at decimal_of plus_of minus_of run_of all_digits is_digit value_of is_spelt
offsets_now = (refl, refl, refl, refl, refl, refl, refl, refl)

-- each in its place of the setup
pub offsets_held : ((setup_or_default (settings_of (line_with 5 (54 ∷ 51 ∷ [])))).offsets12 ≡ 63 ∷ replicate 11 0) × ((setup_or_default (settings_of (line_with 16 (49 ∷ 54 ∷ [])))).offsets12 ≡ replicate 11 0 ++ (16 ∷ [])) × ((setup_or_default (settings_of (line_with 17 (54 ∷ 51 ∷ [])))).offsets34 ≡ 63 ∷ replicate 11 0) × ((setup_or_default (settings_of (line_with 28 (49 ∷ 54 ∷ [])))).offsets34 ≡ replicate 11 0 ++ (16 ∷ []))
unfolding settings_of is_setup setting_at every range_of is_within rises_by plain_of setup_by tab fields_of first_field other_fields field_at decimal_of plus_of minus_of run_of all_digits is_digit value_of is_spelt
offsets_held = (refl, refl, refl, refl)

-- the numbers beside them end where they ended: the fourth base at 127, both hystereses and that of the boosts at 15
pub others_now : (refused_with 4 (49 ∷ 50 ∷ 55 ∷ []) ≡ 0) × (refused_with 4 (49 ∷ 50 ∷ 56 ∷ []) ≡ 1) × (refused_with 29 (49 ∷ 53 ∷ []) ≡ 0) × (refused_with 29 (49 ∷ 54 ∷ []) ≡ 1) × (refused_with 30 (49 ∷ 53 ∷ []) ≡ 0) × (refused_with 30 (49 ∷ 54 ∷ []) ≡ 1) × (refused_with 50 (49 ∷ 53 ∷ []) ≡ 0) × (refused_with 50 (49 ∷ 54 ∷ []) ≡ 1)
unfolding settings_of number_of is_setup setting_at every range_of is_within rises_by plain_of fields_of first_field other_fields field_at decimal_of plus_of minus_of run_of all_digits is_digit value_of is_spelt
others_now = (refl, refl, refl, refl, refl, refl, refl, refl)

-- "an old reader refuses a line with an offset above 15 with 1": 16 and 63, and not 15
pub offsets_before : (old_refused_with 5 (49 ∷ 53 ∷ []) ≡ 0) × (old_refused_with 16 (49 ∷ 53 ∷ []) ≡ 0) × (old_refused_with 17 (49 ∷ 53 ∷ []) ≡ 0) × (old_refused_with 28 (49 ∷ 53 ∷ []) ≡ 0) × (old_refused_with 5 (49 ∷ 54 ∷ []) ≡ 1) × (old_refused_with 16 (49 ∷ 54 ∷ []) ≡ 1) × (old_refused_with 17 (49 ∷ 54 ∷ []) ≡ 1) × (old_refused_with 28 (49 ∷ 54 ∷ []) ≡ 1) × (old_refused_with 5 (54 ∷ 51 ∷ []) ≡ 1) × (old_refused_with 28 (54 ∷ 51 ∷ []) ≡ 1)
unfolding old_settings_of old_range_of number_of is_setup setting_at every range_of is_within rises_by plain_of fields_of first_field other_fields field_at decimal_of plus_of minus_of run_of all_digits is_digit value_of is_spelt
offsets_before = (refl, refl, refl, refl, refl, refl, refl, refl, refl, refl)
