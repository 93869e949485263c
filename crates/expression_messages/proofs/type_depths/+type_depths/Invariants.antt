-- The deepest of the fields so far.
use Rattle.std.proofs.Common.{◌≡◌, take}
use Rattle.expression_messages.specs.Depths.{told, deepest_field, type_depth}
use Rattle.expression_messages.proofs.type_depths.+type_depths.Given as goal

abbrev pub invariant-deepest_field-loop-field : goal.invariant-deepest_field-loop-field
invariant-deepest_field-loop-field l = l.deepest ≡ told (deepest_field type_depth (take l.field-index l.fields))
