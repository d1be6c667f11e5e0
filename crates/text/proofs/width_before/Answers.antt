use Rattle.std.proofs.Common.{◌≡◌, refl, ap, ◌∙◌, Option, ℕ, List, ◌∷◌, ◌+◌, ◌≤◌, Some, None, unwrap_or, position, cond, nat_eq, nat_lt, not, length, eq-eqb, ne_eqb, lt-ltb, le-ltb, arith}
use Rattle.std.proofs.Math.Logic.{by_cases}
use Rattle.std.proofs.Math.Decide.{ℕ_discrete, dec_lt}
use Rattle.std.proofs.lemmas.List.Recursion.{is_position_or_len}
use Rattle.std.proofs.lemmas.List.Sums.{prefix_len-le-length}
use Rattle.text.specs.Widths.{width_before}
use Rattle.text.proofs.width_before.Goals as goal

more : (end b : ℕ) (s : List ℕ) → width_before end (b ∷ s) ≡ cond (nat_eq b end) 0 (1 + width_before end s)
unfolding width_before
more end b s = by_cases (ℕ_discrete b end) (λ e. rw (width_before, eq-eqb b end e)) (λ e. rw (width_before, ne_eqb b end e))

-- the first place, or the length
place : {w p n : ℕ} → w ≡ p → p ≤ n → (unwrap_or (cond (nat_lt p n) (Some p) None) n ≡ w) × (w ≤ n)
place {w} {p} {n} e l = (by_cases (dec_lt p n) (λ h. rw (lt-ltb p n h, e)) (λ h. rw (le-ltb p n (omega arith)) (omega arith)), omega arith)

width_place : (end : ℕ) (s : List ℕ) → (unwrap_or (position (λ b. nat_eq b end) s) (length s) ≡ width_before end s) × (width_before end s ≤ length s)
unfolding width_before
width_place end s = place (is_position_or_len (width_before end) (λ b. nat_eq b end) refl (more end) s) (prefix_len-le-length (λ b. not (nat_eq b end)) s)

pub returns : goal.returns
returns c =
    let e = width_place c.args.end c.args.s.now in
    let holds = c.unwrap_or.ensures ∙ ap (λ (o : Option ℕ). unwrap_or o (length c.args.s.now)) c.place_of.ensures ∙ e.0 in
    record { within = omega arith; holds = holds }
