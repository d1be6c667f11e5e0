-- Document 01, "Fan duties", 4 and 5: a fan's duty, and the kick. Assumes nothing.
use Rattle.std.specs.Prelude.{Bool, List, ℕ, zero, suc, ◌-◌, ◌/◌, ◌%◌, ◌^◌, max, eqb, ltb, get_or, Option, Some, None}
use Rattle.laws.specs.Pick.{pick, both}
use Rattle.map.specs.Bits.{is_set}
use Rattle.drive.specs.declared.Kick.{Kick}

-- the largest of the first n values that are bound: value i is if bit i of bound is set. "Where none is bound, tables or ramps ask 0."
unfoldable pub bound_largest : ℕ → List ℕ → ℕ → ℕ
bound_largest bound values zero = 0
bound_largest bound values (suc n) = max (bound_largest bound values n) (pick (is_set bound (2 ^ n)) (get_or values n 0) 0)

-- "an override stands in place of the tables only"; bits 0 to 3 of the binding are the tables
unfoldable pub tables_ask : ℕ → Option ℕ → List ℕ → ℕ
tables_ask binding None asks = bound_largest (binding % 16) asks 4
tables_ask binding (Some duty) asks = duty

-- "A fan's duty is the largest of its bound tables, bound ramps and boost"; bits 4 to 7 of the binding are the hot inputs. "Any boost asks
-- 256 of both fans."
unfoldable pub fan_duty : ℕ → Option ℕ → List ℕ → List ℕ → Bool → ℕ
fan_duty binding manual asks levels boosted =
    max (max (tables_ask binding manual asks) (bound_largest (binding / 16) levels 4)) (pick boosted 256 0)

-- "When that duty goes from 0 to more, the start count is loaded."
unfoldable pub loaded_start : ℕ → ℕ → ℕ → ℕ → ℕ
loaded_start was duty start startCount = pick (both (eqb was 0) (ltb 0 duty)) startCount start

-- "While the count is above 0 the output is the larger of duty and start duty, and the count falls by one; else the output is the duty."
unfoldable pub kicked_fan : ℕ → ℕ → ℕ → ℕ → ℕ → Kick
kicked_fan was duty start startDuty startCount =
    pick (eqb (loaded_start was duty start startCount) 0) (record { output = duty; start = 0 })
    (record { output = max duty startDuty; start = loaded_start was duty start startCount - 1 })
