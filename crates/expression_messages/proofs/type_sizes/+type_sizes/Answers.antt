-- One more field.
use Rattle.std.proofs.Common.{◌≡◌, ℕ, List, ap, sym, ◌∙◌, arith}
use Rattle.proto_fields.specs.Spelling.{spell, text_fields, payload_fields, bool_fields}
use Rattle.proto_fields.specs.Sizes.{size_of}
use Rattle.expression_messages.specs.Spelled.{struct_field_fields, type_fields}
use Rattle.expression_messages.proofs.Measured.{size_of_nil, sized_three, messages_sized}
use Rattle.expression_messages.proofs.type_sizes.+type_sizes.Goals as goal

pub struct_fields_size-loop-field-init : goal.struct_fields_size-loop-field-init
struct_fields_size-loop-field-init t c = size_of_nil

pub struct_fields_size-loop-field-preserved : goal.struct_fields_size-loop-field-preserved
struct_fields_size-loop-field-preserved t c =
    let field = c.field-item.result in
    let text = c.text_size.ensures ∙ ap (λ (n : List ℕ). size_of (text_fields 1 n)) c.as_str.ensures in
    let kind = c.message_size-data_type.ensures (type_fields field.data_type) c.type_size.ensures in
    let whole = sized_three (text_fields 1 field.name) (payload_fields 2 (spell (type_fields field.data_type))) (bool_fields 3 field.nullable)
    c.text_size.result c.message_size-data_type.result c.bool_size.result c.saturating_add.result c.saturating_add-size.result
    text kind c.bool_size.ensures.size c.saturating_add.ensures c.saturating_add-size.ensures in
    messages_sized (struct_field_fields type_fields) 1 c.args.fields.now c.loop-field.field-index field c.loop-field.total c.message_size.result c.saturating_add-total.result
    (omega arith) c.field-item.is c.loop-field.invariant (c.message_size.ensures (struct_field_fields type_fields field) whole) c.saturating_add-total.ensures
