use Rattle.std.proofs.Common.{◌≡◌, take, map}
use Rattle.proto_fields.specs.Fields.{field_in}
use Rattle.proto_fields.specs.Views.{seen}
use Rattle.proto_fields.proofs.record.without_places.Given as goal

abbrev pub invariant-loop-field : goal.invariant-loop-field
invariant-loop-field l = seen l.items ≡ map (field_in l.bytes) (take l.field-index l.fields)
