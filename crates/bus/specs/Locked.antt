-- What LOCK keeps. Assumes nothing.
use Rattle.std.specs.Prelude.{◌≡◌, ℕ, T}
use Rattle.map.specs.Names.{CONFIGURATION, LOCK}
use Rattle.map.specs.Map.{lock_marked}
use Rattle.map.specs.Bits.{is_set}
use Rattle.map.specs.Facts.{configuration}
use Rattle.state.specs.declared.Chip.{Chip}
use Rattle.state.specs.Parts.{register_at}

-- E3h, which has LOCK, is lock-marked itself
pub lock_marked_lem : T (lock_marked CONFIGURATION)
lock_marked_lem = rw configuration.1 tt

-- ---- any list of transactions

-- LOCK is set in d, and d has the lock-marked registers of c
pub record LockKept (c d : Chip) : Type 0 where
  pub locked : T (is_set (register_at d CONFIGURATION) LOCK)
  pub marked : (k : ℕ) → T (lock_marked k) → register_at d k ≡ register_at c k
