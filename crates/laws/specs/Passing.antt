-- A test that each of many passes, as the library's `all` finds it out. Assumes nothing.
use Rattle.std.specs.Prelude.{◌≡◌, refl, Bool, true, false, ◌&&◌, ℕ, ◌<◌, ◌↔◌, zero, suc, List, [], ◌∷◌, length, get_or}
use Rattle.std.specs.List.{list_all}
use Rattle.std.proofs.Common.{ap, sym, ◌∙◌}
use Rattle.laws.specs.Pick.{both}
use Rattle.laws.specs.Both.{both_with_true}
use Rattle.laws.specs.Every.{every, every_of, every_at}
use Rattle.laws.specs.AllPass.{all_pass}

both_shift : (a b c : Bool) → both (both a b) c ≡ both a (both b c)
both_shift true b c = refl
both_shift false b c = refl

-- the first of the numbers apart
every_front : (p : ℕ → Bool) (n : ℕ) → every (suc n) p ≡ both (p 0) (every n (λ k. p (suc k)))
unfolding every
every_front p zero = sym (both_with_true (p 0))
every_front p (suc n) = rw (every_front p n) (both_shift (p 0) (every n (λ k. p (suc k))) (p (suc n)))

and_both : (a b : Bool) → (a && b) ≡ both a b
and_both true b = refl
and_both false b = refl

pub list_all_pass : {A : Type 0} (p : A → Bool) (d : A) (xs : List A) → list_all p xs ≡ all_pass p d xs
unfolding all_pass every
list_all_pass p d [] = refl
list_all_pass p d (x ∷ xs) =
    rw (every_front (λ k. p (get_or (x ∷ xs) k d)) (length xs), and_both (p x) (list_all p xs)) (ap (both (p x)) (list_all_pass p d xs))

-- a test of all numbers below n, from what it says of each
pub every_is : (b : Bool) (n : ℕ) (p : ℕ → Bool) → (b ≡ true ↔ ((k : ℕ) → k < n → p k ≡ true)) → b ≡ every n p
every_is true n p h = sym (every_of p n (h.0 refl))
every_is false n p h = go (every n p) refl
  where
    go : (e : Bool) → every n p ≡ e → false ≡ every n p
    go true e = h.1 (λ k l. every_at p n k e l) ∙ sym e
    go false e = sym e
