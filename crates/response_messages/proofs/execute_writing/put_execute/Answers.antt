-- What is written piece by piece is the response's message.
use Rattle.std.proofs.Common.{◌≡◌, ℕ, ◌++◌, List, ap, ◌∙◌}
use Rattle.std.proofs.lemmas.Result.{on_ok_weaker}
use Rattle.proto_fields.specs.Spelling.{spell, text_fields}
use Rattle.response_messages.specs.Spelled.{batch_fields, complete_fields, schema_fields}
use Rattle.field_groups.proofs.Sequences.{stand_six}
use Rattle.response_messages.proofs.execute_writing.put_execute.Goals as goal

pub returns : goal.returns
returns c =
    let response = c.args.response.now in
    let session = text_fields 1 response.session_id in
    let batch = batch_fields response.response_type in
    let schema = schema_fields response.schema in
    let operation = text_fields 12 response.operation_id in
    let id = text_fields 13 response.response_id in
    let complete = complete_fields response.response_type in
    let id_stands : c.put_text.new.self ≡ spell id ++ c.put_complete.new.out =
    c.in_ok-put_text.ensures.ok ∙ ap (λ (t : List ℕ). spell (text_fields 13 t) ++ c.put_complete.new.out) c.as_str.ensures in
    let operation_stands : c.put_text-2.new.self ≡ spell operation ++ c.put_text.new.self =
    c.in_ok-put_text-2.ensures.ok ∙ ap (λ (t : List ℕ). spell (text_fields 12 t) ++ c.put_text.new.self) c.as_str-2.ensures in
    on_ok_weaker c.put_text-3.result
    (λ ok. stand_six session batch schema operation id complete c.args.out.now
    c.put_complete.new.out c.put_text.new.self c.put_text-2.new.self c.put_schema.new.out c.put_batch.new.out c.put_text-3.new.self
    c.in_ok-put_complete.ensures id_stands operation_stands c.in_ok-put_schema.ensures c.in_ok-put_batch.ensures
    (ok ∙ ap (λ (t : List ℕ). spell (text_fields 1 t) ++ c.put_batch.new.out) c.as_str-3.ensures))
    c.put_text-3.ensures.ok
