-- Register files that are alike but for 40h and 48h, which have the zones' error bits: what sets a zone's bit changes nothing else, and what
-- sets a voltage's or a fan's goes the same way in both. Assumes nothing.
use Rattle.std.specs.Prelude.{◌≡◌, ◌≢◌, List, set}
use Rattle.std.proofs.Math.Path.{refl}
use Rattle.std.proofs.Common.{sym, ◌∙◌, arith, length-set, get_or-set_other}
use Rattle.std.proofs.Math.Logic.{by_cases}
use Prim.Native.Nat.{ℕ, ◌+◌, ◌/◌, ◌<◌}
use Rattle.std.proofs.Math.Decide.{ℕ_discrete}
use Rattle.laws.specs.Store.{set_related}
use Rattle.map.specs.Names.{B_ERROR_STATUS_1, B_ERROR_STATUS_2, H_ERROR_STATUS_1, H_ERROR_STATUS_2, CONFIGURATION, SLEEP_STATE_CONTROL}
use Rattle.masks.specs.Table.{SameMasks}
use Rattle.state.specs.Order.{SameButZones}
use Rattle.sense.specs.Events.{reset_file}
use Rattle.sense.specs.Marks.{VoltStands}

pub but_self : (f : List ℕ) → SameButZones f f
but_self f = record { long = refl; each = λ a n m. refl }

pub but_back : {f g : List ℕ} → SameButZones f g → SameButZones g f
but_back s = record { long = sym s.long; each = λ a n m. sym (s.each a n m) }

pub but_then : {f g h : List ℕ} → SameButZones f g → SameButZones g h → SameButZones f h
but_then s t = record { long = s.long ∙ t.long; each = λ a n m. s.each a n m ∙ t.each a n m }

-- ---- of two files that are alike so

-- the same byte is stored in both, or any at 40h or 48h
pub but_set : {f g : List ℕ} → SameButZones f g → (a x y : ℕ) → (a ≢ B_ERROR_STATUS_1 → a ≢ H_ERROR_STATUS_1 → x ≡ y) → SameButZones (set f a x) (set g a y)
but_set {f} {g} s a x y h = record {
  long = length-set f a x ∙ s.long ∙ sym (length-set g a y);
  each = λ k n m. by_cases (ℕ_discrete k a)
      (λ e. set_related ◌≡◌ f g a k x y 0 s.long (s.each k n m) (h (rw e at n) (rw e at m)))
      (λ o. get_or-set_other f a k x 0 o ∙ s.each k n m ∙ sym (get_or-set_other g a k y 0 o));
}

-- a voltage's bits stand in both or in neither
pub volt_stands_but : {f g : List ℕ} {i : ℕ} → SameButZones f g → i < 16 → VoltStands f i → VoltStands g i
volt_stands_but {i = i} s l v = record {
  bmc = rw (s.each (B_ERROR_STATUS_2 + i / 8) (λ e. omega arith) (λ e. omega arith)) at v.bmc;
  host = rw (s.each (H_ERROR_STATUS_2 + i / 8) (λ e. omega arith) (λ e. omega arith)) at v.host;
}

-- the same is masked
pub but_masks : {f g : List ℕ} → SameButZones f g → SameMasks f g
but_masks s = record { each = λ a l h. s.each a (λ e. omega arith) (λ e. omega arith) }

-- X
pub but_reset : {f g : List ℕ} → SameButZones f g → SameButZones (reset_file f) (reset_file g)
unfolding reset_file
but_reset s =
    but_set (but_set s CONFIGURATION _ _ (λ n m. rw (s.each CONFIGURATION n m))) SLEEP_STATE_CONTROL _ _ (λ n m. rw (s.each SLEEP_STATE_CONTROL n m))
