-- One more field.
use Rattle.std.proofs.Common.{◌≡◌, ℕ, ◌+◌, arith}
use Rattle.expression_messages.specs.declared.data_type.StructField.{StructField}
use Rattle.expression_messages.specs.declared.data_type.TypeMessage.{TypeMessage}
use Rattle.expression_messages.specs.Depths.{type_depth}
use Rattle.expression_messages.proofs.Measured.{told_more, deeper}
use Rattle.expression_messages.proofs.type_depths.+type_depths.Goals as goal

pub deepest_field-loop-field-preserved : goal.deepest_field-loop-field-preserved
deepest_field-loop-field-preserved t c =
    let field = c.field-item.result in
    deeper (λ (f : StructField TypeMessage). 1 + type_depth f.data_type) c.args.fields.now c.loop-field.field-index field c.loop-field.deepest c.saturating_add.result c.max-deepest.result
    (omega arith) c.field-item.is c.loop-field.invariant (told_more (type_depth field.data_type) c.type_depth.result 1 c.saturating_add.result c.type_depth.ensures c.saturating_add.ensures) c.max-deepest.ensures
