use Rattle.std.proofs.Common.{◌≡◌, ◌+◌, ◌%◌, ◌^◌, ◌≤◌, length, take, drop}
use Rattle.proto_wire.specs.Varint.{group_sum}
use Rattle.proto_wire.specs.Faults.{AllContinue}
use Rattle.proto_wire.proofs.reading.varint_at.Given as goal

abbrev pub invariant-loop-index : goal.invariant-loop-index
invariant-loop-index l = record {
  continued : AllContinue (take l.index (drop l.at l.bytes));
  value : l.value ≡ group_sum (take l.index (drop l.at l.bytes)) % 2 ^ 64;
  within : l.at + l.index ≤ length l.bytes;
}
