-- The aliases so far are those of the payloads so far.
use Rattle.std.proofs.Common.{◌≡◌, take, map}
use Rattle.proto_fields.specs.Fields.{fields_of}
use Rattle.expression_messages.specs.Expressions.{alias_at}
use Rattle.expression_relations.proofs.aliases.aliases_from.Given as goal

abbrev pub invariant-loop-payload : goal.invariant-loop-payload
invariant-loop-payload l =
    l.aliases ≡ map (λ payload. alias_at l.level (fields_of payload)) (map (λ payload. payload.now) (take l.payload-index l.payload-items))
