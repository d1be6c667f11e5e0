-- The fields of a line, walked from the left. Assumes nothing.
use Rattle.std.specs.Prelude.{◌≡◌, get_or, take, drop}
use Rattle.std.proofs.Math.Path.{refl, ap}
use Rattle.std.proofs.Common.{sym, ◌∙◌, add-zero, zero-add, add_assoc, suc-add, le_of_suc-le-suc, not-suc-le-zero, sub-one, drop-drop, eq-eqb, ne_eqb, lt-ltb, le-ltb}
use mathlib.Core.List.{List, [], ◌∷◌}
use Rattle.std.proofs.Math.Logic.{by_cases}
use Prim.Native.Nat.{ℕ, zero, suc, ◌+◌, ◌-◌, ◌≤◌, ◌<◌}
use Rattle.std.proofs.Math.Decide.{ℕ_discrete, dec_lt}
use native.Mathlib.Omega.{arith}
use Rattle.std.proofs.Math.ListN.{length, length-drop}
use Rattle.std.proofs.Math.Seq.{take-length}
use Rattle.laws.specs.Left.{left_some, left_none}
use Rattle.text.specs.Fields.{first_field, other_fields, fields_of, field_at, next_field}

-- ---- one byte

-- a tab ends the first field
first_tab : (b : ℕ) (s : List ℕ) → b ≡ 9 → first_field (b ∷ s) ≡ []
unfolding first_field
first_tab b s e = rw (first_field, eq-eqb b 9 e)

-- and behind it are the fields of the rest
others_tab : (b : ℕ) (s : List ℕ) → b ≡ 9 → other_fields (b ∷ s) ≡ fields_of s
unfolding other_fields fields_of
others_tab b s e = rw (other_fields, eq-eqb b 9 e)

-- any other byte is of the first field
first_byte : (b : ℕ) (s : List ℕ) → (b ≡ 9 → ⊥) → first_field (b ∷ s) ≡ b ∷ first_field s
unfolding first_field
first_byte b s e = rw (first_field, ne_eqb b 9 e)

-- and the others are as they were
others_byte : (b : ℕ) (s : List ℕ) → (b ≡ 9 → ⊥) → other_fields (b ∷ s) ≡ other_fields s
unfolding other_fields
others_byte b s e = rw (other_fields, ne_eqb b 9 e)

-- ---- the whole first field

-- the first field is the line up to its width
pub first_take : (t : List ℕ) → first_field t ≡ take (length (first_field t)) t
unfolding first_field
first_take [] = refl
first_take (b ∷ s) =
    by_cases (ℕ_discrete b 9) (λ e. rw (first_tab b s e))
    (λ e. rw (first_byte b s e) (ap (λ (f : List ℕ). b ∷ f) (first_take s)))

-- and no longer than the line
pub first_within : (t : List ℕ) → length (first_field t) ≤ length t
unfolding first_field
first_within [] = omega arith
first_within (b ∷ s) =
    by_cases (ℕ_discrete b 9) (λ e. rw (first_tab b s e) (omega arith))
    (λ e. rw (first_byte b s e) (omega (arith, first_within s)))

-- where the first field ends before the line does, the others are the fields of what stands behind the tab
others_more : (t : List ℕ) → length (first_field t) < length t → other_fields t ≡ fields_of (drop (length (first_field t) + 1) t)
others_more [] h = absurd (not-suc-le-zero h)
others_more (b ∷ s) h =
    by_cases (ℕ_discrete b 9) (λ e. rw (first_tab b s e, others_tab b s e))
    (λ e. rw (first_byte b s e, others_byte b s e, suc-add) (others_more s (le_of_suc-le-suc (rw (first_byte b s e) at h))))

-- where it ends with the line there are no others
others_none : (t : List ℕ) → length (first_field t) ≡ length t → other_fields t ≡ []
unfolding other_fields
others_none [] h = refl
others_none (b ∷ s) h =
    by_cases (ℕ_discrete b 9) (λ e. absurd (let f = rw (first_tab b s e) at h in omega arith))
    (λ e. rw (others_byte b s e) (others_none s (let f = rw (first_byte b s e) at h in omega arith)))

-- ---- a walk: the first field, and what stands behind its tab

module _ (t : List ℕ) where
  -- field 0 is the first field
  pub field_first : field_at t 0 ≡ first_field t
  unfolding field_at fields_of
  field_first = refl

  -- a line that goes on behind its first field has that field and the fields of what stands behind the tab
  pub fields_more : length (first_field t) < length t → fields_of t ≡ first_field t ∷ fields_of (drop (length (first_field t) + 1) t)
  unfolding fields_of
  fields_more h = ap (λ (f : List (List ℕ)). first_field t ∷ f) (others_more t h)

  -- a line that ends with its first field is that field
  pub fields_one : length (first_field t) ≡ length t → fields_of t ≡ t ∷ []
  unfolding fields_of
  fields_one h = rw (others_none t h, first_take t, h, take-length)

  -- the next field is the first of what stands behind the tab
  pub field_next : (j : ℕ) → length (first_field t) < length t → field_at t (suc j) ≡ field_at (drop (length (first_field t) + 1) t) j
  unfolding field_at
  field_next j h = rw (fields_more h)

-- ---- the walk by a loop: s is the line, i where the field begins, w its width

module _ (s : List ℕ) (i w : ℕ) (e : w ≡ length (first_field (drop i s))) where
  -- the field is w bytes from i on
  pub walk_field : field_at (drop i s) 0 ≡ take w (drop i s)
  walk_field = field_first (drop i s) ∙ rw e (first_take (drop i s))

  goes_on : i + w < length s → length (first_field (drop i s)) < length (drop i s)
  goes_on h = rw length-drop (omega arith)

  behind_tab : drop (length (first_field (drop i s)) + 1) (drop i s) ≡ drop (i + w + 1) s
  behind_tab = rw (← e, drop-drop, ← add_assoc)

  -- where the line goes on, the next field is the first left behind its tab
  pub walk_next : (j : ℕ) → i + w < length s → field_at (drop i s) (suc j) ≡ field_at (drop (i + w + 1) s) j
  walk_next j h = field_next (drop i s) j (goes_on h) ∙ rw behind_tab

-- ---- a loop over the bytes: what is left at i

module _ (s : List ℕ) (i : ℕ) (h : i < length s) where
  module _ (e : get_or s i 0 ≡ 9) where
    -- at a tab the other fields are those left behind it
    pub others_left_tab : other_fields (drop i s) ≡ fields_of (drop (i + 1) s)
    others_left_tab = rw (left_some s i h) (others_tab _ _ e)

    -- so there is one field fewer to pass
    pub field_left_tab : (k : ℕ) → 0 < k → field_at (drop i s) k ≡ field_at (drop (i + 1) s) (k - 1)
    unfolding field_at fields_of
    field_left_tab zero p = absurd (omega arith)
    field_left_tab (suc k) p = rw (others_left_tab, sub-one)

  module _ (e : get_or s i 0 ≡ 9 → ⊥) where
    -- at any other byte they are those left behind it too
    pub others_left_byte : other_fields (drop i s) ≡ other_fields (drop (i + 1) s)
    others_left_byte = rw (left_some s i h) (others_byte _ _ e)

    -- so there are as many fields to pass
    pub field_left_byte : (k : ℕ) → 0 < k → field_at (drop i s) k ≡ field_at (drop (i + 1) s) k
    unfolding field_at fields_of
    field_left_byte zero p = absurd (omega arith)
    field_left_byte (suc k) p = rw others_left_byte

module _ (s : List ℕ) (i : ℕ) (h : length s ≤ i) where
  -- at the line's end the first field left is empty
  pub first_left_none : first_field (drop i s) ≡ []
  unfolding first_field
  first_left_none = rw (left_none s i h)

  -- there are no others
  pub others_left_none : other_fields (drop i s) ≡ []
  unfolding other_fields
  others_left_none = rw (left_none s i h)

  -- and each field left is as empty as the first
  pub field_left_none : (k : ℕ) → field_at (drop i s) 0 ≡ field_at (drop i s) k
  unfolding field_at fields_of first_field other_fields
  field_left_none zero = refl
  field_left_none (suc k) = rw (left_none s i h)

-- ---- from field to field

module _ (s : List ℕ) (at : ℕ) where
  -- where the line goes on, the next field begins behind the tab
  pub next_more : at + length (first_field (drop at s)) < length s → next_field s at ≡ at + length (first_field (drop at s)) + 1
  unfolding next_field
  next_more h = rw (lt-ltb _ (length s) h)

  -- else it is the line's end
  pub next_end : length s ≤ at + length (first_field (drop at s)) → next_field s at ≡ length s
  unfolding next_field
  next_end h = rw (le-ltb _ (length s) h)

  -- where there is no other field
  last : length s ≤ at + length (first_field (drop at s)) → (j : ℕ) → field_at (drop (length s) s) j ≡ field_at (drop at s) (suc j)
  unfolding field_at fields_of
  last h j =
      let one = fields_one (drop at s) (omega (arith, first_within (drop at s), length-drop at s)) in
      let end : length s ≤ length s = omega arith in
      rw one (sym (field_left_none s (length s) end j) ∙ first_left_none s (length s) end)

  -- what is left there are the fields behind the one at the place
  pub next_begins : (j : ℕ) → field_at (drop (next_field s at) s) j ≡ field_at (drop at s) (suc j)
  next_begins j =
      by_cases (dec_lt (at + length (first_field (drop at s))) (length s)) (λ h. rw (next_more h) (sym (walk_next s at _ refl j h)))
      (λ h. let l : length s ≤ at + length (first_field (drop at s)) = omega arith in rw (next_end l) (last l j))

-- a place of the line at which the fields from field k on are left
pub record FieldsFrom (s : List ℕ) (at k : ℕ) : Type 0 where
  pub within : at ≤ length s
  pub left : (j : ℕ) → field_at (drop at s) j ≡ field_at s (k + j)

-- as the line's start is
pub from_start : (s : List ℕ) → FieldsFrom s 0 0
from_start s = record { within = omega arith; left = λ j. rw zero-add }

module _ {s : List ℕ} {at k : ℕ} (h : FieldsFrom s at k) where
  -- field k is the first of them
  pub from_field : field_at (drop at s) 0 ≡ field_at s k
  from_field = h.left 0 ∙ rw add-zero

  -- the next place is one field further on
  pub from_next : {next : ℕ} → next ≤ length s → next ≡ next_field s at → FieldsFrom s next (k + 1)
  from_next w e = record { within = w; left = λ j. rw (e, next_begins s at j, h.left (suc j)) (ap (field_at s) (omega arith)) }
