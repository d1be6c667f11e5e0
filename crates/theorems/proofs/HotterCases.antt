-- Lists of events that meet all that demand 3 asks, a T against a U: U 1 543 and K, T 1 68, which is 544 sixteenths, and K, and U 1 - and K;
-- each is hotter than the one before it, the second by one sixteenth. Assumes nothing.
use Rattle.std.specs.Prelude.{◌≡◌, refl, [], pos, None}
use Rattle.temperature.specs.declared.Stated.{Stated}
use Rattle.temperature.specs.declared.Stated.TheVariants.{Halves, Sixteenths, Missing}
use Rattle.temperature.specs.Temperature.{stated_reading}
use Rattle.temperature.specs.Order.{NoHotter, missing, taken}
use Rattle.state.specs.declared.Setup.{Setup}
use Rattle.state.specs.PowerOn.{power_on}
use Rattle.state.specs.Powered.{powered_on}
use Rattle.event.specs.declared.Event.TheVariants.{Temperature, Tick}
use Rattle.event.specs.Event.{index_in, reading_within, stated_in, event_in, refusal_of}
use Rattle.event.specs.Run.{answers_to}
use Rattle.event.specs.Refusal.{in_taken}
use Rattle.theorems.specs.Alike.{AllAlike, same, hotter, none, more, NoneRefused, AllNoHigher}
use Rattle.theorems.proofs.Hotter.{demand_3}
use Rattle.theorems.specs.HotterCases.{ticked}

-- ---- alike, and none refused

alike : {r s : Stated} → NoHotter (stated_reading r) (stated_reading s) → AllAlike (ticked r) (ticked s)
alike {r} {s} h = more (hotter 1 [] {r = r} {s = s} h) (more (same _) none)

pub sixteenth_alike : AllAlike (ticked (Sixteenths (pos 543))) (ticked (Halves (pos 68)))
unfolding stated_reading
sixteenth_alike = alike (taken tt)

pub missing_alike : AllAlike (ticked (Halves (pos 68))) (ticked Missing)
unfolding stated_reading
missing_alike = alike missing

none_refused : (s : Setup) (r : Stated) → refusal_of (Temperature 1 r) [] ≡ None → NoneRefused (power_on s) (ticked r)
unfolding refusal_of event_in
none_refused s r z = more (in_taken _ (Temperature 1 r) [] z) (more (in_taken _ Tick [] refl) none)

-- ---- so each fan's duty is at least as high in the second, from any setup that is taken

module _ (s : Setup) (t : (powered_on s).refusal ≡ None) where
  pub sixteenth_no_lower : AllNoHigher (answers_to (power_on s) (ticked (Sixteenths (pos 543)))) (answers_to (power_on s) (ticked (Halves (pos 68))))
  unfolding refusal_of event_in index_in stated_in reading_within
  sixteenth_no_lower = demand_3 s t _ _ sixteenth_alike (none_refused s _ refl) (none_refused s _ refl)

  pub missing_no_lower : AllNoHigher (answers_to (power_on s) (ticked (Halves (pos 68)))) (answers_to (power_on s) (ticked Missing))
  unfolding refusal_of event_in index_in stated_in reading_within
  missing_no_lower = demand_3 s t _ _ missing_alike (none_refused s _ refl) (none_refused s _ refl)
