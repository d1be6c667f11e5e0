-- A mirror answers as its home does. Assumes nothing.
use Rattle.std.specs.Prelude.{◌≡◌, ℕ, ◌<◌}
use Rattle.map.specs.Map.{home_of}
use Rattle.map.specs.Laws.{home_home}
use Rattle.map.specs.FanBytes.{fan_byte_at}
use Rattle.state.specs.declared.Chip.{Chip}
use Rattle.bus.specs.Write.{change_of, wrote_register}
use Rattle.bus.specs.Read.{shown_register, given_register, kept_after, read_register}

-- a write to a mirror is the write to its home
pub mirror_write : (c : Chip) (a byte : ℕ) → a < 256 → wrote_register c a byte ≡ wrote_register c (home_of a) byte
unfolding wrote_register change_of
mirror_write c a byte h = rw (home_home a h)

-- a mirror shows what its home shows
pub mirror_shown : (c : Chip) (a : ℕ) → a < 256 → shown_register c a ≡ shown_register c (home_of a)
unfolding shown_register
mirror_shown c a h = rw (home_home a h)

-- and a byte read of it is the byte read of its home
pub mirror_read : (c : Chip) (a : ℕ) → a < 256 → read_register c a ≡ read_register c (home_of a)
unfolding read_register given_register kept_after fan_byte_at
mirror_read c a h = rw (← mirror_shown c a h, home_home a h)
