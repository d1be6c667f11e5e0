use Rattle.std.proofs.Common.{◌≡◌}
use Rattle.sense.specs.Missing.{missed_volts, missed_fans, missed_zones}
use Rattle.sense.proofs.mark_missing.Given as goal

abbrev pub invariant-loop-i : goal.invariant-loop-i
invariant-loop-i l = l.file ≡ missed_volts l.initial.file l.volts l.i

abbrev pub invariant-loop-i-2 : goal.invariant-loop-i-2
invariant-loop-i-2 l = l.file ≡ missed_fans l.initial.file l.fans l.i

abbrev pub invariant-loop-i-3 : goal.invariant-loop-i-3
invariant-loop-i-3 l = l.file ≡ missed_zones l.initial.file l.zones l.i
