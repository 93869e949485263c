-- The value, and the key before it.
use Rattle.std.proofs.Common.{◌++◌, List, ℕ, ap, ◌∙◌}
use Rattle.std.proofs.lemmas.Result.{on_ok_weaker}
use Rattle.proto_fields.specs.Spelling.{spell, payload_fields}
use Rattle.expression_messages.proofs.Written.{stand_two}
use Rattle.plain_relations.proofs.renamed_writing.put_entry.Goals as goal

pub returns : goal.returns
returns c =
    let entry = c.args.entry.now in
    let value = c.in_ok-put_payload.ensures.ok ∙ ap (λ (p : List ℕ). spell (payload_fields 2 p) ++ c.args.out.now) (c.as_bytes.ensures.value ∙ c.as_str.ensures) in
    on_ok_weaker c.put_payload-2.result
    (λ key. stand_two (payload_fields 1 entry.key) (payload_fields 2 entry.value) c.args.out.now c.put_payload.new.self c.put_payload-2.new.self value
    (key ∙ ap (λ (p : List ℕ). spell (payload_fields 1 p) ++ c.put_payload.new.self) (c.as_bytes-2.ensures.value ∙ c.as_str-2.ensures)))
    c.put_payload-2.ensures.ok
