-- The pairs so far are those of the payloads so far.
use Rattle.std.proofs.Common.{◌≡◌, take, map}
use Rattle.proto_fields.specs.Fields.{fields_of}
use Rattle.response_messages.specs.KeyValues.{key_value_of}
use Rattle.response_messages.proofs.key_value.pairs_from.Given as goal

abbrev pub invariant-loop-payload : goal.invariant-loop-payload
invariant-loop-payload l = l.pairs ≡ map (λ payload. key_value_of (fields_of payload)) (map (λ payload. payload.now) (take l.payload-index l.payload-items))
