-- What the code has of the 59 numbers: each up to 65535, and as its type holds it. Where all are in range that is the setup that they make
-- (law `setup-same`). Assumes nothing.
use Rattle.std.specs.Prelude.{◌≡◌, ℕ, ◌+◌, ◌%◌, ◌≤◌, ◌<◌, Bool, List, Option, None, Some, Result, Ok, ℤ, pos, neg_ℤ, get_or, slice_get}
use Rattle.std.proofs.Math.Path.{refl, ap}
use Rattle.std.proofs.Common.{◌∙◌, mod-eq_of_lt, arith}
use Rattle.std.proofs.Math.Bool.{true, false}
use Rattle.laws.specs.Pick.{pick, both}
use Rattle.laws.specs.Every.{every, every_same}
use Rattle.laws.specs.Tab.{tab, tab_at}
use Rattle.laws.specs.TabEach.{tab_same}
use Rattle.text.specs.declared.Number.{Number}
use Rattle.text.specs.declared.Number.TheVariants.{Dash, Plus, Minus}
use Rattle.text.specs.Number.{saturated, is_spelt}
use Rattle.text.specs.Saturated.{saturated_plus, saturated_spelt}
use Rattle.state.specs.Most.{DEGREES_MOST, BYTE_MOST}
use Rattle.state.specs.declared.Setup.{Setup}
use Rattle.state.specs.declared.Refusal.{Refusal}
use Rattle.state.specs.declared.Refusal.TheVariants as refusal
use Rattle.settings.specs.Places.{LEVEL, BASES, OFFSETS12, OFFSETS34, HYSTERESES, DUTIES, BOOSTS, BOOST_HYSTERESIS, BINDINGS, OVERRIDES, START_DUTIES, START_COUNTS, NUMBERS}
use Rattle.settings.specs.Settings.{setting_at, range_of, is_within, plain_of, signed_of, boost_of, override_of, setup_by, rises_by, refused_settings, settings_as, is_setup, settings_of}
use Rattle.settings.specs.Ranges.{size_of, plain_most, most_small, below_small, Ranged, in_range}

-- the 59 numbers of a line, each up to 65535
unfoldable pub entries_of : List ℕ → List (Option Number)
entries_of s = tab (λ k. saturated (setting_at s k)) NUMBERS

-- number k of them
unfoldable pub entry_in : List (Option Number) → ℕ → Option Number
entry_in es k = get_or es k None

-- all 59 are spelled right
abbrev pub all_spelt : List ℕ → Bool
all_spelt s = every NUMBERS (λ k. is_spelt (entry_in (entries_of s) k))

-- ns are a line's 59 numbers, all spelled right
abbrev pub AreEntries : List ℕ → List Number → Type 0
AreEntries s ns = (all_spelt s ≡ true) × ((k : ℕ) → slice_get ns k ≡ entry_in (entries_of s) k)

-- each of these results for a number is what f gives for it
abbrev pub HoldsAs : {A : Type 0} → (Number → A → Type 0) → (Option Number → A) → Type 0
HoldsAs {A} results f = (n : Number) (r : A) → results n r → r ≡ f (Some n)

-- a number as a u8 holds it
unfoldable pub held_byte : Option Number → ℕ
held_byte n = plain_of n % 256

-- a number as an i8 holds it
unfoldable pub held_degrees : Option Number → ℤ
held_degrees None = pos 0
held_degrees (Some Dash) = pos 0
held_degrees (Some (Plus v)) = pos (v % 128)
held_degrees (Some (Minus v)) = neg_ℤ (pos (v % 128))

-- what the code makes of the numbers of an S line
unfoldable pub settings_from : List (Option Number) → Result Setup Refusal
settings_from es =
    settings_as (every NUMBERS (λ k. is_spelt (entry_in es k))) (every NUMBERS (λ k. is_within (range_of k) (entry_in es k)))
    (every 12 (rises_by (entry_in es))) (setup_by held_byte held_degrees (entry_in es))

-- ---- one number

-- and in range where the exact one is
within_same : (k : ℕ) (n : Option Number) → k < NUMBERS → is_within (range_of k) (saturated n) ≡ is_within (range_of k) n
unfolding saturated is_within
within_same k None l = refl
within_same k (Some Dash) l = refl
within_same k (Some (Plus v)) l = saturated_plus v (range_of k).most (omega (arith, most_small k l))
within_same k (Some (Minus v)) l = saturated_plus v (range_of k).below (omega (arith, most_small k l, below_small k l))

-- a number that is small enough is the same in each of the code's types: up to 65535
held_same : (n : Option Number) → size_of n ≤ 65535 → saturated n ≡ n
unfolding saturated size_of
held_same None h = refl
held_same (Some Dash) h = refl
held_same (Some (Plus v)) h = ap (λ w. Some (Plus w)) (omega arith)
held_same (Some (Minus v)) h = ap (λ w. Some (Minus w)) (omega arith)

-- a byte
byte_same : (n : Option Number) → size_of n ≤ BYTE_MOST → held_byte n ≡ plain_of n
unfolding held_byte
byte_same n h = mod-eq_of_lt (omega (arith, plain_most n h))

-- degrees
degrees_same : (n : Option Number) → size_of n ≤ DEGREES_MOST → held_degrees n ≡ signed_of n
unfolding held_degrees signed_of size_of
degrees_same None h = refl
degrees_same (Some Dash) h = refl
degrees_same (Some (Plus v)) h = let e : v % 128 ≡ v = omega arith in rw e
degrees_same (Some (Minus v)) h = let e : v % 128 ≡ v = omega arith in rw e

-- a boost
boost_same : (n : Option Number) → size_of n ≤ DEGREES_MOST → boost_of held_degrees n ≡ boost_of signed_of n
boost_same n h = rw (degrees_same n h)

-- ---- all of them

module _ (s : List ℕ) where
  -- number k as the code has it
  pub entry_held : (k : ℕ) → k < NUMBERS → entry_in (entries_of s) k ≡ saturated (setting_at s k)
  unfolding entries_of entry_in
  entry_held k l = tab_at _ NUMBERS k None l

  -- the tests say of the code's numbers what they say of the exact ones: spelling
  pub all_spelt_same : all_spelt s ≡ every NUMBERS (λ k. is_spelt (setting_at s k))
  all_spelt_same = every_same _ _ NUMBERS (λ k l. rw (entry_held k l) (saturated_spelt (setting_at s k)))

  -- ranges
  pub all_within_same : every NUMBERS (λ k. is_within (range_of k) (entry_in (entries_of s) k)) ≡ every NUMBERS (λ k. is_within (range_of k) (setting_at s k))
  all_within_same = every_same _ _ NUMBERS (λ k l. rw (entry_held k l) (within_same k (setting_at s k) l))

  -- numbers that are all in range are the same in the code's types
  module _ (w : every NUMBERS (λ k. is_within (range_of k) (setting_at s k)) ≡ true) where
    r : Ranged (setting_at s)
    r = in_range (setting_at s) w

    -- number k is the exact one
    entry_same : (k : ℕ) → k < NUMBERS → entry_in (entries_of s) k ≡ setting_at s k
    entry_same k l = entry_held k l ∙ held_same (setting_at s k) (omega (arith, r.all k l))

    -- duties that never fall
    pub all_rise_same : every 12 (rises_by (entry_in (entries_of s))) ≡ every 12 (rises_by (setting_at s))
    unfolding rises_by
    all_rise_same =
        every_same _ _ 12 (λ k l. rw (entry_same (DUTIES + k) (omega arith), entry_same (DUTIES + k + 1) (omega arith)))

    -- a group of numbers
    group_same : {A : Type 0} (f g : Option Number → A) (first count : ℕ) → first + count ≤ NUMBERS → ((k : ℕ) → k < count → f (setting_at s (first + k)) ≡ g (setting_at s (first + k))) → tab (λ k. f (entry_in (entries_of s) (first + k))) count ≡ tab (λ k. g (setting_at s (first + k))) count
    group_same f g first count p h = tab_same _ _ count (λ k l. rw (entry_same (first + k) (omega arith)) (h k l))

    -- the setup
    pub setup_same : setup_by held_byte held_degrees (entry_in (entries_of s)) ≡ setup_by plain_of signed_of (setting_at s)
    unfolding setup_by
    setup_same =
        rw (
          entry_same LEVEL (omega arith),
          byte_same (setting_at s LEVEL) (omega (arith, r.level)),
          group_same held_degrees signed_of BASES 4 (omega arith) (λ i l. degrees_same _ (r.bases i l)),
          group_same held_byte plain_of OFFSETS12 12 (omega arith) (λ k l. byte_same _ (omega (arith, r.offsets12 k l))),
          group_same held_byte plain_of OFFSETS34 12 (omega arith) (λ k l. byte_same _ (omega (arith, r.offsets34 k l))),
          group_same held_byte plain_of HYSTERESES 2 (omega arith) (λ i l. byte_same _ (omega (arith, r.hystereses i l))),
          group_same plain_of plain_of DUTIES 13 (omega arith) (λ k l. refl),
          group_same (boost_of held_degrees) (boost_of signed_of) BOOSTS 6 (omega arith) (λ i l. boost_same _ (r.boosts i l)),
          entry_same BOOST_HYSTERESIS (omega arith),
          byte_same (setting_at s BOOST_HYSTERESIS) (omega (arith, r.boost_hysteresis_lem)),
          group_same held_byte plain_of BINDINGS 2 (omega arith) (λ f l. byte_same _ (r.bindings f l)),
          group_same override_of override_of OVERRIDES 2 (omega arith) (λ f l. refl),
          group_same plain_of plain_of START_DUTIES 2 (omega arith) (λ f l. refl),
          group_same held_byte plain_of START_COUNTS 2 (omega arith) (λ f l. byte_same _ (r.start_counts_lem f l)),
        )

  -- so the line means what the code makes of it
  pub settings_same : settings_of s ≡ pick (is_setup s) (settings_from (entries_of s)) (refused_settings refusal.Spelling)
  unfolding settings_of settings_from
  settings_same = rw (all_spelt_same, all_within_same, go (every NUMBERS (λ k. is_within (range_of k) (setting_at s k))) refl)
    where
      go : (b : Bool) → every NUMBERS (λ k. is_within (range_of k) (setting_at s k)) ≡ b → pick (both b (every 12 (rises_by (setting_at s)))) (Ok (setup_by plain_of signed_of (setting_at s))) (refused_settings refusal.Setup) ≡ pick (both b (every 12 (rises_by (entry_in (entries_of s))))) (Ok (setup_by held_byte held_degrees (entry_in (entries_of s)))) (refused_settings refusal.Setup)
      go true w = rw (all_rise_same w, setup_same w)
      go false w = refl
