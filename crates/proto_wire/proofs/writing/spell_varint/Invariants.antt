use Rattle.std.proofs.Common.{◌≡◌, ◌+◌, ◌≤◌, ◌++◌, length, take}
use Rattle.proto_wire.specs.Varint.{varint}
use Rattle.proto_wire.proofs.writing.spell_varint.Given as goal

-- what is written and the groups that are left
abbrev pub invariant-loop-rest : goal.invariant-loop-rest
invariant-loop-rest l = record {
  started : l.at ≤ l.end;
  room : l.end + length (varint l.rest) ≤ l.at + 10;
  spelled : take l.end l.head ++ varint l.rest ≡ take l.at l.fn.head ++ varint l.value;
}

abbrev pub decreases-loop-rest : goal.decreases-loop-rest
decreases-loop-rest l = l.rest
