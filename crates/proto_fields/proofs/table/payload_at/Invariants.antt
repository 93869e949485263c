use Rattle.std.proofs.Common.{◌≡◌, drop}
use Rattle.proto_fields.specs.Kinds.{payload_at}
use Rattle.proto_fields.proofs.table.payload_at.Given as goal

abbrev pub invariant-loop-entry : goal.invariant-loop-entry
invariant-loop-entry l = payload_at l.number (drop l.entry-index l.entries) ≡ payload_at l.number l.entries
