-- `drive::Before::driven` meets its contract: each part is what its stage promises of the parts before it. Assumes nothing.
use Rattle.std.proofs.Common.{rules, tests, ◌≡◌, ◌∙◌, refl, ap, List, [], ◌∷◌, Bool, true, false}
use Rattle.std.specs.List.{list_any}
use Rattle.std.proofs.lemmas.Iterator.{YieldsList-from_slice}
use Rattle.std.proofs.lemmas.Iterator.Search.{any_from_yields_List}
use Rattle.drive.specs.Tick.{seen, any_on, levels_of, duty_of, drive_after, outputs_after, driven}
use Rattle.drive.proofs.Before.driven.Goals as goal

-- the library's test whether any of a list is on
any_is : (bs : List Bool) → list_any (λ b. b) bs ≡ any_on bs
unfolding any_on
any_is [] = refl
any_is (true ∷ bs) = refl
any_is (false ∷ bs) = any_is bs

pub returns : goal.returns
unfolding driven drive_after outputs_after duty_of
returns c =
    let d = seen c.args.self.now in
    let bs = c.boosts_after-boosts.result in
    let any = any_from_yields_List (λ b. b) _ _ _ c.any-boosted.ensures.ran (YieldsList-from_slice bs cc) (λ x b q k. search (rules, tests)) in
    let boosted = any ∙ any_is bs ∙ ap any_on c.boosts_after-boosts.ensures in
    let levels = c.levels_of.ensures ∙ ap levels_of c.ramps_after-ramps.ensures in
    let duties : c.duties_after-duties.result ≡ duty_of d 0 ∷ duty_of d 1 ∷ [] =
    rw (← c.asks_after.ensures.asks, ← levels, ← boosted) c.duties_after-duties.ensures in
    rw (c.asks_after.ensures.steps, c.boosts_after-boosts.ensures, c.ramps_after-ramps.ensures, c.kicks_after.ensures, duties)
