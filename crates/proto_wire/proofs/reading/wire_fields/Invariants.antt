use Rattle.std.proofs.Common.{length, take, ◌-◌, ◌≤◌}
use Rattle.proto_wire.specs.Records.{Records}
use Rattle.proto_wire.proofs.reading.wire_fields.Given as goal

abbrev pub invariant-loop-at : goal.invariant-loop-at
invariant-loop-at l = record {
  within : l.at ≤ length l.bytes;
  found : Records (take l.at l.bytes) l.fields;
}

abbrev pub decreases-loop-at : goal.decreases-loop-at
decreases-loop-at l = length l.bytes - l.at
