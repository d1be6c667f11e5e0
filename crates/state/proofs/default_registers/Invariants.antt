use Prim.Native.Nat.{◌≤◌}
use Rattle.std.proofs.Common.{◌≡◌, ◌++◌, length, drop}
use Rattle.laws.specs.Tab.{tab}
use Rattle.map.specs.Map.{default_of}
use Rattle.state.proofs.default_registers.Given as goal

abbrev pub invariant-loop-address : goal.invariant-loop-address
invariant-loop-address l = (length l.initial.registers ≡ 256) × (l.registers ≡ tab default_of l.address ++ drop l.address l.initial.registers)
