-- What byte writes and block writes leave of a zone: what its reading has, P, it has behind them, if what they give it has it and if a written
-- half bit leaves it. Assumes nothing.
use Rattle.std.specs.Prelude.{◌≡◌, Bool, true, false, not, List, ℕ, ◌+◌, ◌<◌, T, length, get_or}
use Rattle.std.proofs.Math.Path.{refl}
use Rattle.std.proofs.Common.{ap, ◌∙◌, arith}
use Rattle.laws.specs.Pick.{pick}
use Rattle.laws.specs.Store.{set_cases}
use Rattle.map.specs.declared.Kind.{Kind}
use Rattle.map.specs.declared.Kind.TheVariants.{Plain, Status, Whole, Half, Volt, FanLow, FanHigh, VoltLow, VoltHigh, FanLimitLow, FanLimitHigh}
use Rattle.map.specs.Names.{TEMPERATURE_SOURCE_SELECT, CONFIGURATION}
use Rattle.map.specs.Map.{home_of}
use Rattle.map.specs.Kind.{kind_of}
use Rattle.map.specs.Blocks.{fixed, block_of}
use Rattle.temperature.specs.declared.Reading.{Reading}
use Rattle.temperature.specs.Temperature.{reading_of, with_half}
use Rattle.state.specs.declared.Chip.{Chip}
use Rattle.state.specs.Parts.{no_zone, register_at, zone_at}
use Rattle.state.specs.With.{with_register, with_zone}
use Rattle.sense.specs.Events.{read_zone}
use Rattle.bus.specs.declared.Change.{Change}
use Rattle.bus.specs.Latch.{is_ours, transacted}
use Rattle.bus.specs.Write.{stored, cleared, zone_writable, change_whole, change_half, change_kind, is_shut, change_home, change_of, changed, wrote_register, Written, wrote_byte}
use Rattle.bus.specs.Block.{wrote_block}
use Rattle.bus.proofs.Blocks.{block_keeps}
use Rattle.theorems.specs.Zones.{source_of, lock_of, Reaches}
use Rattle.theorems.specs.BlockPlaces.{Apart, blocks_apart, write_leaves}

-- a choice has what its first arm has where the test holds, and its second else
pub pick_where : {A : Type 0} (P : A → Type 0) (t : Bool) {a b : A} → (T t → P a) → P b → P (pick t a b)
pick_where P true f p = f tt
pick_where P false f p = p

pick_unless : {A : Type 0} (P : A → Type 0) (t : Bool) {a b : A} → P a → (T (not t) → P b) → P (pick t a b)
pick_unless P true p f = p
pick_unless P false p f = f tt

-- a half bit written leaves P
abbrev pub HalfKeeps : (Reading → Type 0) → Type 0
HalfKeeps P = (half : Bool) (r : Reading) → P r → P (with_half r half)

module _ (P : Reading → Type 0) (z : ℕ) where
  -- the reading of zone z has P
  abbrev pub Has : Chip → Type 0
  Has d = P (zone_at d z)

module _ {P : Reading → Type 0} (h : HalfKeeps P) (z : ℕ) (c : Chip) (m : Has P z c) where
  -- a zone gets a reading: another zone, or one that has P
  pub set_has : (i : ℕ) (r : Reading) → (i ≡ z → P r) → Has P z (read_zone c i r)
  unfolding read_zone with_zone zone_at
  set_has i r own = set_cases (P) c.zones i z r no_zone m own

  -- W, by the register's kind: a whole byte gives its zone a reading
  kind_has : (home byte : ℕ) (k : Kind) → (k ≡ Whole z → T (zone_writable (source_of c) z) → P (reading_of byte)) → Has P z (changed c (change_kind c home byte k))
  unfolding changed change_kind stored cleared change_whole change_half with_register zone_at
  kind_has home byte Plain own = m
  kind_has home byte Status own = m
  kind_has home byte (Whole i) own =
      pick_where (λ (d : Change). Has P z (changed c d)) (zone_writable (source_of c) i) (λ t. set_has i (reading_of byte) (λ e. own (ap Whole e) (rw (← e) t))) m
  kind_has home byte (Half i) own =
      pick_where (λ (d : Change). Has P z (changed c d)) (zone_writable (source_of c) i) (λ t. set_has i _ (λ e. h _ _ (rw e m))) m
  kind_has home byte (Volt i) own = m
  kind_has home byte (FanLow i) own = m
  kind_has home byte (FanHigh i) own = m
  kind_has home byte (VoltLow i) own = m
  kind_has home byte (VoltHigh i) own = m
  kind_has home byte (FanLimitLow i) own = m
  kind_has home byte (FanLimitHigh i) own = m

  -- W, at a register's own address or a mirror's
  register_has : (a byte : ℕ) → (Reaches (source_of c) (lock_of c) z a → P (reading_of byte)) → Has P z (wrote_register c a byte)
  unfolding wrote_register changed change_of change_home
  register_has a byte own =
      pick_unless (λ (d : Change). Has P z (changed c d)) (is_shut (lock_of c) (home_of a)) m
      (λ t. kind_has (home_of a) byte (kind_of (home_of a)) (λ k w. own (record { whole = k; unshut = t; writable = w })))

-- zone z has P in d, and 31h and E3h are those of c
record Still (P : Reading → Type 0) (z : ℕ) (c d : Chip) : Type 0 where
  has : Has P z d
  source : source_of d ≡ source_of c
  lock : lock_of d ≡ lock_of c

module _ {P : Reading → Type 0} (h : HalfKeeps P) (z : ℕ) (c : Chip) where
  -- a byte of a block
  byte_still : (d : Chip) (a byte : ℕ) → Apart a → (Reaches (source_of c) (lock_of c) z a → P (reading_of byte)) → Still P z c d → Still P z c (wrote_register d a byte)
  byte_still d a byte p own s = record {
    has = register_has h z d s.has a byte (rw (s.source, s.lock) own);
    source = write_leaves d a byte TEMPERATURE_SOURCE_SELECT (λ e. omega arith) (λ e. omega arith) p.source ∙ s.source;
    lock = write_leaves d a byte CONFIGURATION (λ e. omega arith) (λ e. omega arith) p.lock ∙ s.lock;
  }

  module _ (m : Has P z c) where
    -- W
    pub write_has : (address a byte : ℕ) → (T (is_ours (transacted c address).pin.latch address) → Reaches (source_of c) (lock_of c) z a → P (reading_of byte)) → Has P z (wrote_byte c address a byte).chip
    unfolding wrote_byte transacted zone_at register_at
    write_has address a byte own =
        pick_where (λ (w : Written). Has P z w.chip) (is_ours (transacted c address).pin.latch address)
        (λ t. register_has h z (transacted c address) m a byte (own t)) m

    -- P
    pub block_has : (address command : ℕ) (bytes : List ℕ) → ((first k : ℕ) → T (is_ours (transacted c address).pin.latch address) → block_of command ≡ fixed first (length bytes) → k < length bytes → Reaches (source_of c) (lock_of c) z (first + k) → P (reading_of (get_or bytes k 0))) → Has P z (wrote_block c address command bytes).chip
    unfolding transacted zone_at register_at
    block_has address command bytes own =
        (block_keeps c address command bytes (Still P z c) (λ a byte. Apart a × (Reaches (source_of c) (lock_of c) z a → P (reading_of byte)))
        (λ first ours listed i l. (blocks_apart command listed i l, own first i (rw ours tt) listed l))
        (record { has = m; source = refl; lock = refl })
        (λ d a byte q. byte_still d a byte q.0 q.1)).has
