-- Document 02, Q-6: "S lines written before mean what they meant; an old reader refuses a line with an offset above 15 with 1." Assumes
-- nothing.
use Rattle.std.specs.Prelude.{Bool, List, Result, ℕ, ◌<◌, leb, ltb, get_or}
use Rattle.laws.specs.Pick.{pick, both}
use Rattle.state.specs.declared.Setup.{Setup}
use Rattle.state.specs.declared.Refusal.{Refusal}
use Rattle.settings.specs.declared.Range.{Range}
use Rattle.settings.specs.Places.{OFFSETS12, HYSTERESES}
use Rattle.settings.specs.Settings.{up_to, range_of, settings_by}

-- ---- the old reader

-- 01: "12 offsets for tables 1 and 2, then 12 for 3 and 4 .., 0 to 15"
abbrev pub OLD_OFFSET_MOST : ℕ
OLD_OFFSET_MOST = 15

-- number k is one of these
abbrev pub is_offset : ℕ → Bool
is_offset k = both (leb OFFSETS12 k) (ltb k HYSTERESES)

-- document 01's ranges: what number k might be before
unfoldable pub old_range_of : ℕ → Range
old_range_of k = pick (is_offset k) (up_to OLD_OFFSET_MOST) (range_of k)

-- an S line by itself, to a reader that goes by them
unfoldable pub old_settings_of : List ℕ → Result Setup Refusal
old_settings_of s = settings_by old_range_of s

-- "an offset above 15", in the one table or in the other
pub data Wide (x : Setup) : Type 0 where
  first : (k : ℕ) → OLD_OFFSET_MOST < get_or x.offsets12 k 0 → Wide x
  second : (k : ℕ) → OLD_OFFSET_MOST < get_or x.offsets34 k 0 → Wide x
