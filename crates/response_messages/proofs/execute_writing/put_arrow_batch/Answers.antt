-- What is written piece by piece is the batch's message.
use Rattle.std.proofs.Common.{◌≡◌, ℕ, ◌++◌, List, ap, ◌∙◌, SFits, w64, rules}
use Rattle.std.proofs.lemmas.Int.{to_z-of_z}
use Rattle.std.proofs.lemmas.Result.{on_ok_weaker}
use Rattle.proto_fields.specs.Spelling.{spell, int_fields, text_fields}
use Rattle.expression_messages.proofs.Written.{stand_two}
use Rattle.response_messages.proofs.execute_writing.put_arrow_batch.Goals as goal

pub returns : goal.returns
returns c =
    let batch = c.args.batch.now in
    let out = c.args.out.now in
    let fits : SFits w64 batch.row_count = search rules in
    let count = simp to_z-of_z at c.put_int64.ensures.ok in
    let bytes : c.put_bytes.new.out ≡ spell (text_fields 2 batch.payload) ++ out =
    c.in_ok-put_bytes.ensures ∙ ap (λ (p : List ℕ). spell (text_fields 2 p) ++ out) c.as_slice.ensures in
    on_ok_weaker c.put_int64.result
    (stand_two (int_fields 1 batch.row_count) (text_fields 2 batch.payload) out c.put_bytes.new.out c.put_int64.new.self bytes)
    count
