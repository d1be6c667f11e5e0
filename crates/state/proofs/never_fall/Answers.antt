use Rattle.std.proofs.Common.{◌≡◌, ℕ, suc, ◌+◌, ◌≤◌, ◌<◌, ◌↔◌, Bool, true, List, length, get_or, leb, rules, arith, add-one, le-leb, leb-true}
use Rattle.laws.specs.Every.{every}
use Rattle.laws.specs.Passing.{every_is}
use Rattle.state.specs.Valid.{never_fall}
use Rattle.state.proofs.never_fall.Goals as goal

rises : (r : Bool) (duties : List ℕ) → length duties ≡ 13 → (r ≡ true ↔ ((k : ℕ) → k + 1 < length duties → get_or duties k 0 ≤ get_or duties (k + 1) 0)) → r ≡ never_fall duties
unfolding never_fall
rises r duties n h =
    every_is r 12 (λ k. leb (get_or duties k 0) (get_or duties (suc k) 0)) (λ e k l. rw (← add-one) (le-leb _ _ (h.0 e k (omega arith))), λ a. h.1 (λ k l. rw add-one (leb-true _ _ (a k (omega arith)))))

pub returns : goal.returns
returns c = rises _ c.args.duties.now (search rules) (search rules)
