-- What `array::from_fn` makes with a closure that gives a table's elements is the table. Assumes nothing.
use Rattle.std.specs.Prelude.{◌≡◌, List, ℕ, zero, suc, ◌+◌, ◌≤◌, ◌<◌, get_or}
use Rattle.std.specs.Array.{IsFromFnResultFrom, IsFromFnResult}
use Rattle.std.specs.Fn.{Mut, Called}
use Rattle.std.proofs.Common.{sym, ◌∙◌, arith}
use Rattle.std.proofs.Math.Decide.{ℕ_discrete}
use Rattle.std.proofs.Math.Logic.{by_cases}
use Rattle.std.proofs.Math.Path.{subst}
use Rattle.std.proofs.lemmas.List.{same_lists}
use Rattle.laws.specs.Tab.{tab, tab_at, tab_long}

-- c gives f k at k, and stays as it is
module _ {F A : Type 0} (g : Mut F (ℕ × Unit {0}) A) (c : F) (f : ℕ → A) (xs : List A) where
  -- the elements from i on
  made_from : (i n : ℕ) → ((k : ℕ) (x : A) (q : F) → k < i + n → Called g c (k, tt) x q → (q ≡ c) × (x ≡ f k)) → IsFromFnResultFrom g c xs i n → (k : ℕ) → i ≤ k → k < i + n → (d : A) → get_or xs k d ≡ f k
  made_from i zero h m k a b d = absurd (omega arith)
  made_from i (suc n) h (q, x, e, t, m) k a b d =
      let s = h i x q (omega arith) t in
      by_cases (ℕ_discrete k i) (λ j. rw j (e.1 d ∙ s.1))
      (λ j. made_from (i + 1) n (λ k x q l. h k x q (omega arith)) (subst (λ r. IsFromFnResultFrom g r xs (i + 1) n) s.0 m) k (omega arith) (omega arith) d)

  pub tab_made : (n : ℕ) → ((k : ℕ) (x : A) (q : F) → k < n → Called g c (k, tt) x q → (q ≡ c) × (x ≡ f k)) → IsFromFnResult g c xs n → xs ≡ tab f n
  tab_made n h m =
      same_lists xs (tab f n) (m.long ∙ sym (tab_long f n))
      (λ k d l.
      let lt : k < n = omega (arith, m.long) in
      made_from 0 n (λ k x q j. h k x q (omega arith)) m.each k (omega arith) (omega arith) d ∙ sym (tab_at f n k d lt))
