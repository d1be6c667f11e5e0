-- The entries of the register map. Assumes nothing.
use Rattle.std.specs.Prelude.{Bool, ℕ, eqb, get_or}
use Rattle.map.specs.Tables.{defaults, writables, lock_marks, homes}

unfoldable pub default_of : ℕ → ℕ
default_of a = get_or defaults a 0

unfoldable pub writable_of : ℕ → ℕ
writable_of a = get_or writables a 0

unfoldable pub lock_marked : ℕ → Bool
lock_marked a = eqb (get_or lock_marks a 0) 1

unfoldable pub home_of : ℕ → ℕ
home_of a = get_or homes a 0
