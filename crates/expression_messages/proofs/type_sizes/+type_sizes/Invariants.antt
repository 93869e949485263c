-- The total is the size of the fields so far.
use Rattle.std.proofs.Common.{◌≡◌, take}
use Rattle.proto_fields.specs.Sizes.{size_of}
use Rattle.expression_messages.specs.Spelled.{struct_type_fields, type_fields}
use Rattle.expression_messages.proofs.type_sizes.+type_sizes.Given as goal

abbrev pub invariant-struct_fields_size-loop-field : goal.invariant-struct_fields_size-loop-field
invariant-struct_fields_size-loop-field l = l.total ≡ size_of (struct_type_fields type_fields (take l.field-index l.fields))
