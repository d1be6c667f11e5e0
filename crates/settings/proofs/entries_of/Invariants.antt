-- `settings::entries_of`: before turn k the walk stands where field k begins, and k entries are the numbers behind the letter, spelled right.
use Rattle.std.specs.Prelude.{◌≡◌, ℕ, ◌<◌, Some, length, get_or}
use Rattle.text.specs.declared.Number.{Number}
use Rattle.text.specs.Number.{saturated}
use Rattle.text.specs.Walk.{FieldsFrom}
use Rattle.settings.specs.Places.{NUMBERS}
use Rattle.settings.specs.Settings.{setting_at}
use Rattle.settings.proofs.entries_of.Given as goal

abbrev pub invariant-loop-entry : goal.invariant-loop-entry
invariant-loop-entry l = record {
  walk : FieldsFrom l.line l.at l.entry-index;
  long : length l.entry-items ≡ NUMBERS;
  filled : (k : ℕ) → k < l.entry-index → (d : Number) → Some (get_or l.entry-items k d) ≡ saturated (setting_at l.line k);
}
