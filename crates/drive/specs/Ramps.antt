-- Document 01, "Fan duties", 3: ramps. Hot inputs count from 0: VRD1, VRD2, PROCHOT1, PROCHOT2. Assumes nothing.
use Rattle.std.specs.Prelude.{Bool, ℕ, ◌+◌, ◌-◌, ◌/◌, ◌%◌, min, eqb, ltb}
use Rattle.laws.specs.Pick.{pick}
use Rattle.state.specs.declared.Ramp.{Ramp}

-- "Delay n is the low (VRD) or high (PROCHOT) half of BFh."
unfoldable pub delay_of : ℕ → ℕ → ℕ
delay_of control input = pick (ltb input 2) (control % 16) (control / 16)

-- "the level moves 16 up if hot, 16 down if not, within 0 to 256"
unfoldable pub moved_level : ℕ → Bool → ℕ
moved_level level hot = min 256 (pick hot (level + 16) (level - 16))

-- "With n = 0 the level is 256 if hot, else 0, and the wait count becomes 0. Otherwise the wait count rises by one; at n or more it returns
-- to 0 and the level moves"
unfoldable pub ramped_on : Ramp → Bool → ℕ → Ramp
ramped_on r hot n =
    pick (eqb n 0) (record { level = pick hot 256 0; wait = 0 })
    (pick (ltb (r.wait + 1) n) (record { level = r.level; wait = r.wait + 1 })
    (record { level = moved_level r.level hot; wait = 0 }))
