-- Sizes of fields one after another.
use Rattle.std.proofs.Common.{ℕ, ◌++◌, List, ap, ◌∙◌}
use Rattle.proto_fields.specs.Spelling.{text_fields}
use Rattle.proto_fields.specs.Sizes.{size_of}
use Rattle.response_messages.specs.Spelled.{batch_fields, complete_fields, schema_fields}
use Rattle.expression_messages.proofs.Measured.{sized_two}
use Rattle.response_messages.proofs.sizes.execute_size.Goals as goal

pub returns : goal.returns
returns c =
    let response = c.args.response.now in
    let session = text_fields 1 response.session_id in
    let batch = batch_fields response.response_type in
    let schema = schema_fields response.schema in
    let operation = text_fields 12 response.operation_id in
    let id = text_fields 13 response.response_id in
    let complete = complete_fields response.response_type in
    let session_size = c.text_size-session_id.ensures ∙ ap (λ (t : List ℕ). size_of (text_fields 1 t)) c.as_str.ensures in
    let operation_size = c.text_size-operation_id.ensures ∙ ap (λ (t : List ℕ). size_of (text_fields 12 t)) c.as_str-2.ensures in
    let id_size = c.text_size-response_id.ensures ∙ ap (λ (t : List ℕ). size_of (text_fields 13 t)) c.as_str-3.ensures in
    let two = sized_two session batch c.text_size-session_id.result c.batch_size-batch.result c.saturating_add.result session_size c.batch_size-batch.ensures c.saturating_add.ensures in
    let three = sized_two (session ++ batch) schema c.saturating_add.result c.schema_size-schema.result c.saturating_add-front.result two c.schema_size-schema.ensures c.saturating_add-front.ensures in
    let four = sized_two (session ++ batch ++ schema) operation c.saturating_add-front.result c.text_size-operation_id.result c.saturating_add-2.result three operation_size c.saturating_add-2.ensures in
    let five = sized_two (session ++ batch ++ schema ++ operation) id c.saturating_add-2.result c.text_size-response_id.result c.saturating_add-3.result four id_size c.saturating_add-3.ensures in
    sized_two (session ++ batch ++ schema ++ operation ++ id) complete c.saturating_add-3.result c.complete_size-complete.result c.saturating_add-4.result five c.complete_size-complete.ensures c.saturating_add-4.ensures
