-- Sizes of fields one after another.
use Rattle.std.proofs.Common.{ℕ, List, ap, ◌∙◌, SFits, w64, rules}
use Rattle.std.proofs.lemmas.Int.{to_z-of_z}
use Rattle.proto_fields.specs.Spelling.{int_fields, text_fields}
use Rattle.proto_fields.specs.Sizes.{size_of}
use Rattle.expression_messages.proofs.Measured.{sized_two}
use Rattle.response_messages.proofs.sizes.arrow_batch_size.Goals as goal

pub returns : goal.returns
returns c =
    let batch = c.args.batch.now in
    let fits : SFits w64 batch.row_count = search rules in
    let count = simp to_z-of_z at c.int_size.ensures.size in
    let bytes = c.bytes_size.ensures ∙ ap (λ (p : List ℕ). size_of (text_fields 2 p)) c.as_slice.ensures in
    sized_two (int_fields 1 batch.row_count) (text_fields 2 batch.payload) c.int_size.result c.bytes_size.result c.saturating_add.result count bytes c.saturating_add.ensures
