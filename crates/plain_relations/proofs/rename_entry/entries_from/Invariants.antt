-- The entries so far are those of the payloads so far.
use Rattle.std.proofs.Common.{◌≡◌, take, map}
use Rattle.proto_fields.specs.Fields.{fields_of}
use Rattle.plain_relations.specs.Maps.{entry_of}
use Rattle.plain_relations.proofs.rename_entry.entries_from.Given as goal

abbrev pub invariant-loop-payload : goal.invariant-loop-payload
invariant-loop-payload l = l.entries ≡ map (λ payload. entry_of (fields_of payload)) (map (λ payload. payload.now) (take l.payload-index l.payload-items))
