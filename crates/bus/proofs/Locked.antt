-- What LOCK keeps. Assumes nothing.
use Rattle.std.specs.Prelude.{◌≡◌, Bool, true, false, List, ℕ, T}
use Rattle.std.proofs.Math.Path.{refl, sym}
use Rattle.std.proofs.Common.{◌∙◌}
use Rattle.std.proofs.Math.Seq.{get_or-set_other}
use Rattle.laws.specs.Pick.{both}
use Rattle.laws.specs.Never.{never}
use Rattle.map.specs.Names.{B_ERROR_STATUS_1, H_ERROR_STATUS_1, CONFIGURATION, LOCK}
use Rattle.map.specs.Tables.{lock_marks}
use Rattle.map.specs.Map.{lock_marked, home_of}
use Rattle.map.specs.Bits.{is_set}
use Rattle.state.specs.declared.Chip.{Chip}
use Rattle.state.specs.Parts.{register_at}
use Rattle.state.specs.With.{with_register, with_zone}
use Rattle.sense.specs.Events.{read_zone}
use Rattle.sense.proofs.ButZones.{zone_file_lem}
use Rattle.bus.specs.Latch.{transacted}
use Rattle.bus.specs.declared.Change.{Change}
use Rattle.bus.specs.Write.{stored, cleared, is_shut, change_of, changed, wrote_register}
use Rattle.bus.specs.Read.{kept_chip}
use Rattle.bus.specs.Changes.{Allowed, none, store, clear, zone}
use Rattle.bus.proofs.Changes.{change_allowed}
use Rattle.bus.specs.Transactions.{Transaction, after_all}
use Rattle.bus.proofs.Transactions.{all_keep}
use Rattle.bus.specs.Locked.{lock_marked_lem, LockKept}

both_yes : (s t : Bool) → T s → T t → both s t ≡ false → ⊥
both_yes true true p q e = never (cc)
both_yes true false p q e = q
both_yes false t p q e = p

-- 40h and 48h, which have the zones' error bits, are not
unmarked : T (lock_marked B_ERROR_STATUS_1) → ⊥
unfolding lock_marked lock_marks
unmarked t = t

unmarked_host : T (lock_marked H_ERROR_STATUS_1) → ⊥
unfolding lock_marked lock_marks
unmarked_host t = t

module _ (c : Chip) (locked : T (is_set (register_at c CONFIGURATION) LOCK)) where
  open_other : (a k : ℕ) → is_shut (register_at c CONFIGURATION) a ≡ false → T (lock_marked k) → k ≡ a → ⊥
  unfolding is_shut
  open_other a k f marked e = both_yes (lock_marked a) _ (rw e at marked) locked f

  change_keeps : {a byte : ℕ} {d : Change} → Allowed c a byte d → (k : ℕ) → T (lock_marked k) → register_at (changed c d) k ≡ register_at c k
  unfolding changed register_at with_register with_zone read_zone stored cleared
  change_keeps none k marked = refl
  change_keeps {a} (store f s) k marked = get_or-set_other c.registers a k _ 0 (open_other a k f marked)
  change_keeps {a} (clear f s) k marked = get_or-set_other c.registers a k _ 0 (open_other a k f marked)
  change_keeps (zone i r) k marked = sym ((zone_file_lem c.registers i r).each k (λ e. unmarked (rw e at marked)) (λ e. unmarked_host (rw e at marked)))

  -- while LOCK is set, no write changes a lock-marked register
  pub locked_keeps : (a byte k : ℕ) → T (lock_marked k) → register_at (wrote_register c a byte) k ≡ register_at c k
  unfolding wrote_register change_of
  locked_keeps a byte k marked = change_keeps (change_allowed c (home_of a) byte) k marked

  -- so no write clears LOCK
  pub locked_stays : (a byte : ℕ) → T (is_set (register_at (wrote_register c a byte) CONFIGURATION) LOCK)
  locked_stays a byte = rw (locked_keeps a byte CONFIGURATION lock_marked_lem) locked

transacted_locked : (c d : Chip) (address : ℕ) → LockKept c d → LockKept c (transacted d address)
unfolding transacted register_at
transacted_locked c d address p = record { locked = p.locked; marked = p.marked }

kept_locked : (c d : Chip) (a : ℕ) → LockKept c d → LockKept c (kept_chip d a)
unfolding register_at
kept_locked c d a p = record { locked = p.locked; marked = p.marked }

register_locked : (c d : Chip) (a byte : ℕ) → LockKept c d → LockKept c (wrote_register d a byte)
register_locked c d a byte p = record {
  locked = locked_stays d p.locked a byte;
  marked = λ k m. locked_keeps d p.locked a byte k m ∙ p.marked k m;
}

-- once LOCK is set, no list of transactions clears it or changes a lock-marked register
pub all_locked : (c : Chip) → T (is_set (register_at c CONFIGURATION) LOCK) → (ts : List Transaction) → LockKept c (after_all c ts)
all_locked c locked ts =
    all_keep (LockKept c) (transacted_locked c) (kept_locked c) (register_locked c) ts c (record { locked = locked; marked = λ k m. refl })
