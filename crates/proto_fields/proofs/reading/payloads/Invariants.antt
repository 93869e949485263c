use Rattle.std.proofs.Common.{◌≡◌, take, map}
use Rattle.proto_fields.specs.Readings.{payloads}
use Rattle.proto_fields.specs.Views.{seen}
use Rattle.proto_fields.proofs.reading.payloads.Given as goal

abbrev pub invariant-loop-record : goal.invariant-loop-record
invariant-loop-record l = map (λ payload. payload.now) l.found ≡ payloads l.number (seen (take l.record-index l.records))
