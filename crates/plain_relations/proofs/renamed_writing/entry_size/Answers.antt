-- The key and the value.
use Rattle.std.proofs.Common.{ℕ, length, sym, ap}
use Rattle.proto_fields.specs.Spelling.{payload_fields}
use Rattle.expression_messages.proofs.Measured.{sized_two}
use Rattle.plain_relations.proofs.renamed_writing.entry_size.Goals as goal

pub returns : goal.returns
returns c =
    let entry = c.args.entry.now in
    sized_two (payload_fields 1 entry.key) (payload_fields 2 entry.value) c.payload_size-key.result c.payload_size.result c.saturating_add.result
    (c.payload_size-key.ensures entry.key (ap (length {A = ℕ}) (sym c.as_str.ensures))) (c.payload_size.ensures entry.value (ap (length {A = ℕ}) (sym c.as_str-2.ensures))) c.saturating_add.ensures
