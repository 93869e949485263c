-- One more field before those that stand.
use Rattle.std.proofs.Common.{◌≡◌, ℕ, ◌-◌, ◌++◌, List, take, sym, ap, ◌∙◌, arith}
use Rattle.proto_fields.specs.Spelling.{spell, text_fields, payload_fields, bool_fields}
use Rattle.expression_messages.specs.Spelled.{struct_field_fields, struct_type_fields, type_fields}
use Rattle.expression_messages.proofs.Written.{stand_three, messages_more, messages_none}
use Rattle.expression_messages.proofs.type_writing.+put_types.Goals as goal

pub put_struct_fields-returns : goal.put_struct_fields-returns
put_struct_fields-returns t c =
    sym (messages_none (struct_field_fields type_fields) 1 c.args.fields.now c.loop-index.index c.loop-index.out (omega arith)) ∙ c.loop-index.invariant

pub put_struct_fields-loop-index-preserved : goal.put_struct_fields-loop-index-preserved
put_struct_fields-loop-index-preserved t c =
    let field = c.index-fields-index.result in
    let out = c.loop-index.out in
    let kind = type_fields field.data_type in
    let name = text_fields 1 field.name in
    let nullable = bool_fields 3 field.nullable in
    let head : c.put_message_head.new.out ≡ spell (payload_fields 2 (spell kind)) ++ c.put_bool.new.self =
    c.in_ok-put_message_head.ensures.ok (spell kind) c.put_bool.new.self c.in_ok-put_type.ensures (sym c.len-type_end.ensures) in
    let text : c.put_text.new.self ≡ spell name ++ c.put_message_head.new.out =
    c.in_ok-put_text.ensures.ok ∙ ap (λ (n : List ℕ). spell (text_fields 1 n) ++ c.put_message_head.new.out) c.as_str.ensures in
    let whole : c.put_text.new.self ≡ spell (struct_field_fields type_fields field) ++ out =
    stand_three name (payload_fields 2 (spell kind)) nullable out c.put_bool.new.self c.put_message_head.new.out c.put_text.new.self c.in_ok-put_bool.ensures.ok head text in
    let last = c.in_ok-put_message_head-2.ensures.ok (spell (struct_field_fields type_fields field)) out whole (sym c.len-end.ensures) in
    ap (λ (bytes : List ℕ). spell (struct_type_fields type_fields (take (c.loop-index.index - 1) c.args.fields.now)) ++ bytes) last
    ∙ messages_more (struct_field_fields type_fields) 1 c.args.fields.now c.loop-index.index field out (omega arith) (omega arith) c.index-fields-index.is
    ∙ c.loop-index.invariant
