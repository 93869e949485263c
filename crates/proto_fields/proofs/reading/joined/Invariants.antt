use Rattle.std.proofs.Common.{◌≡◌, take, map}
use Rattle.std.specs.Prelude.{flat_map}
use Rattle.proto_fields.specs.Fields.{fields_of}
use Rattle.proto_fields.specs.Views.{seen}
use Rattle.proto_fields.proofs.reading.joined.Given as goal

abbrev pub invariant-loop-payload : goal.invariant-loop-payload
invariant-loop-payload l = seen l.all ≡ flat_map fields_of (map (λ payload. payload.now) (take l.payload-index l.payloads))
