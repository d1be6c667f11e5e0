-- Document 02, Q-7: "Zone readings are held in sixteenths, -2032 to 2040": after any events from power-on each zone is missing or in that range,
-- where what is written on the bus are bytes. Assumes nothing.
use Rattle.std.specs.Prelude.{◌≡◌, refl, Bool, true, false, cond, ℕ, suc, ◌+◌, ◌-◌, ◌*◌, ◌/◌, ◌%◌, ◌≤◌, ◌<◌, eqb, leb, ltb, ℤ, pos, negsuc, ◌+ℤ◌, ◌-ℤ◌, ◌*ℤ◌, get_or, Option, Some, None}
use mathlib.Core.List.{List, [], ◌∷◌}
use Rattle.std.proofs.Math.Logic.{by_cases}
use Rattle.std.proofs.Math.Decide.{ℕ_discrete}
use Rattle.std.proofs.Common.{arith, le-leb, leb-true, lt-ltb, ltb-true, ltb-false}
use Rattle.std.proofs.lemmas.Bool.{eqb-false}
use Rattle.std.proofs.Math.IntN.{+ℤ_idr}
use Rattle.std.specs.Int.Signed.{shr_z}
use Rattle.laws.specs.Pick.{pick}
use Rattle.laws.specs.Both.{both_left, both_right}
use Rattle.temperature.specs.declared.Reading.{Reading}
use Rattle.temperature.specs.declared.Reading.TheVariants.{Taken, Missing}
use Rattle.temperature.specs.Temperature.{HALF, DEGREE, degrees_of, reading_of, count_reading, with_half}
use Rattle.temperature.specs.Sixteenths.{half_of, part_neg}
use Rattle.state.specs.declared.Chip.{Chip}
use Rattle.state.specs.declared.Setup.{Setup}
use Rattle.state.specs.Parts.{zone_at}
use Rattle.state.specs.PowerOn.{power_on}
use Rattle.sense.specs.Events.{volt_reading}
use Rattle.event.specs.declared.Event.{Event}
use Rattle.event.specs.Event.{index_in, reading_within, stated_in, event_in}
use Rattle.event.specs.Stated.{reading_in, stated_range}
use Rattle.event.specs.Run.{Given, given_step, chip_after}
use Rattle.event.specs.Refusal.{taken_in}
use Rattle.theorems.specs.Zones.{Gives, heard, fed, written, in_block}
use Rattle.theorems.specs.ZoneWrites.{Has}
use Rattle.theorems.specs.ZoneReadings.{power_has}
use Rattle.theorems.proofs.ZoneReadings.{step_has}
use Rattle.theorems.specs.HeldReadings.{Bytes, AllBytes, more, none}

-- a reading in range, or missing
abbrev InRange : Reading → Type 0
InRange r = reading_in r ≡ true

missing_in : InRange Missing
unfolding reading_in
missing_in = refl

-- ---- what gives a reading gives one in range

-- degrees from -127 to 127
data Degrees : ℤ → Type 0 where
  above : {n : ℕ} → n ≤ 127 → Degrees (pos n)
  below : {n : ℕ} → n ≤ 126 → Degrees (negsuc n)

-- a byte other than 80h as a signed number, and a count above 0 less 128
signed : (byte : ℕ) → byte < 256 → (byte ≡ 0x80 → ⊥) → Degrees (degrees_of byte)
unfolding degrees_of
signed byte b n = go (ltb byte 0x80) refl
  where
    go : (t : Bool) → ltb byte 0x80 ≡ t → Degrees (pick t (pos byte) (pos byte -ℤ pos 256))
    go true e = above {n = byte} (omega (arith, ltb-true byte 0x80 e))
    go false e = rw (lt-ltb byte 256 b) (below {n = 256 - suc byte} (by_cases (ℕ_discrete byte 0x80) (λ q. absurd (n q)) (λ q. omega (arith, ltb-false byte 0x80 e))))

lowered : (n : ℕ) → n < 256 → (n ≡ 0 → ⊥) → Degrees (pos n -ℤ pos 128)
lowered n b z = go (ltb n 128) refl
  where
    go : (t : Bool) → ltb n 128 ≡ t → Degrees (cond t (negsuc (128 - suc n)) (pos (n - 128)))
    go true e = below {n = 128 - suc n} (by_cases (ℕ_discrete n 0) (λ q. absurd (z q)) (λ q. omega (arith, ltb-true n 128 e)))
    go false e = above {n = n - 128} (omega (arith, ltb-false n 128 e))

-- with half a degree more, or not
part_in : {z : ℤ} → Degrees z → (half : Bool) → InRange (Taken (z *ℤ pos DEGREE +ℤ pos (half_of half)))
unfolding reading_in reading_within
part_in (above {n} l) true = le-leb (n * DEGREE + HALF) 2040 (omega arith)
part_in (above {n} l) false = le-leb (n * DEGREE + 0) 2040 (omega arith)
part_in (below {n} l) true = rw (part_neg n true, le-leb (n * DEGREE + (DEGREE - 1) - HALF) 2031 (omega arith))
part_in (below {n} l) false = rw (part_neg n false, le-leb (n * DEGREE + (DEGREE - 1) - 0) 2031 (omega arith))

degrees_in_lem : {z : ℤ} → Degrees z → InRange (Taken (z *ℤ pos DEGREE))
degrees_in_lem {z} d = rw (+ℤ_idr (z *ℤ pos DEGREE)) at (part_in d false)

-- a reading in range, rounded down to degrees
down_in : (n : ℤ) → InRange (Taken n) → Degrees (shr_z n DEGREE)
unfolding reading_in reading_within
down_in (pos n) e = above {n = n / DEGREE} (omega (arith, leb-true n 2040 e))
down_in (negsuc n) e = below {n = n / DEGREE} (omega (arith, leb-true n 2031 (both_left (leb n 2031) true e)))

-- a written half bit
half_in : (half : Bool) (r : Reading) → InRange r → InRange (with_half r half)
unfolding with_half
half_in half Missing e = e
half_in half (Taken n) e = part_in (down_in n e) half

-- a written byte
byte_in : (byte : ℕ) → byte < 256 → InRange (reading_of byte)
unfolding reading_of
byte_in byte b = go (eqb byte 0x80) refl
  where
    go : (t : Bool) → eqb byte 0x80 ≡ t → InRange (pick t Missing (Taken (degrees_of byte *ℤ pos DEGREE)))
    go true e = missing_in
    go false e = degrees_in_lem (signed byte b (eqb-false byte 0x80 e))

-- a count
count_in_lem : (n : Option ℕ) → InRange (volt_reading n)
unfolding volt_reading count_reading
count_in_lem None = missing_in
count_in_lem (Some n) = go (eqb (n % 256) 0) refl
  where
    go : (t : Bool) → eqb (n % 256) 0 ≡ t → InRange (pick t Missing (Taken ((pos (n % 256) -ℤ pos 128) *ℤ pos DEGREE)))
    go true e = missing_in
    go false e = degrees_in_lem (lowered (n % 256) (omega arith) (eqb-false (n % 256) 0 e))

-- what an event that is taken gives
given_in : (c : Chip) (z : ℕ) (e : Event) (bytes : List ℕ) → Bytes (record { event = e; bytes = bytes }) → event_in e ≡ true → (r : Reading) → Gives c z e bytes r → InRange r
unfolding event_in
given_in c z _ bytes b i _ (heard {s} t) = rw (← stated_range s) (both_right (index_in 5 (suc z)) (stated_in s) i)
given_in c z _ bytes b i _ (fed {n = n} f) = count_in_lem n
given_in c z _ bytes b i _ (written {address} {a} {byte} o w) = byte_in byte (b.one address a byte refl)
given_in c z _ bytes b i _ (in_block {k = k} o l h w) = byte_in (get_or bytes k 0) (b.block k)

module _ (z : ℕ) where
  run_in : (c : Chip) (gs : List Given) → Has InRange z c → AllBytes gs → Has InRange z (chip_after c gs)
  unfolding chip_after
  run_in c [] m none = m
  run_in c (g ∷ gs) m (more b bs) =
      run_in (given_step c g).chip gs (step_has half_in z c m g (λ t. given_in c z g.event g.bytes b (taken_in g.event g.bytes t))) bs

  pub held_in_range : (s : Setup) (gs : List Given) → AllBytes gs → reading_in (zone_at (chip_after (power_on s) gs) z) ≡ true
  held_in_range s gs b = run_in (power_on s) gs (power_has InRange missing_in s z) b
