-- A struct's fields are read with the levels that the type leaves; the fields so far are those of the payloads so far.
use Rattle.std.proofs.Common.{◌≡◌, ◌+◌, ◌*◌, take, map}
use Rattle.proto_fields.specs.Fields.{fields_of}
use Rattle.expression_messages.specs.Types.{type_at, struct_field_of}
use Rattle.expression_messages.proofs.type_reading.+types.Given as goal

abbrev pub decreases-type_from : goal.decreases-type_from
decreases-type_from l = 2 * l.level

abbrev pub decreases-struct_fields_from : goal.decreases-struct_fields_from
decreases-struct_fields_from l = 2 * l.level + 1

abbrev pub invariant-struct_fields_from-loop-payload : goal.invariant-struct_fields_from-loop-payload
invariant-struct_fields_from-loop-payload l =
    l.fields ≡ map (λ payload. struct_field_of (type_at l.level) (fields_of payload)) (map (λ payload. payload.now) (take l.payload-index l.payload-items))
