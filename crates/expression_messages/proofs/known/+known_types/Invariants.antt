-- The fields so far are known.
use Rattle.std.proofs.Common.{◌≡◌, true, take}
use Rattle.std.specs.List.{list_all}
use Rattle.expression_messages.specs.Known.{is_known_type}
use Rattle.expression_messages.proofs.known.+known_types.Given as goal

abbrev pub invariant-are_known_fields-loop-field : goal.invariant-are_known_fields-loop-field
invariant-are_known_fields-loop-field l = list_all (λ field. is_known_type field.data_type) (take l.field-index l.fields) ≡ true
