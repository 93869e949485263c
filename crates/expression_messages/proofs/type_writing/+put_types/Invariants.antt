-- The fields that are left, spelled before what stands, are all of them before what stood.
use Rattle.std.proofs.Common.{◌≡◌, ◌++◌, take}
use Rattle.proto_fields.specs.Spelling.{spell}
use Rattle.expression_messages.specs.Spelled.{struct_type_fields, type_fields}
use Rattle.expression_messages.proofs.type_writing.+put_types.Given as goal

abbrev pub invariant-put_struct_fields-loop-index : goal.invariant-put_struct_fields-loop-index
invariant-put_struct_fields-loop-index l =
    spell (struct_type_fields type_fields (take l.index l.fields)) ++ l.out ≡ spell (struct_type_fields type_fields l.fields) ++ l.initial.out
