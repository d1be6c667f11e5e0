-- At turn i the walk stands where field k + i begins, and i bytes are filled in.
use Rattle.std.proofs.Common.{◌≡◌, ◌+◌, ◌++◌, drop}
use Rattle.text.specs.Hex.{hexes_spelt, hexes_of}
use Rattle.text.specs.Walk.{FieldsFrom}
use Rattle.text.proofs.hex_fields.Given as goal

abbrev pub invariant-loop-byte : goal.invariant-loop-byte
invariant-loop-byte l =
    record {
      stands : FieldsFrom l.s l.at (l.k + l.byte-index);
      all_spelt : l.spelt ≡ hexes_spelt l.s l.k l.byte-index;
      filled : l.bytes ≡ hexes_of l.s l.k l.byte-index ++ drop l.byte-index l.initial.bytes;
    }
