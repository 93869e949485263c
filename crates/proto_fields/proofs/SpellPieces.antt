-- Spellings in pieces: of fields one after another, and of a payload by its head and itself.
use Rattle.std.proofs.Common.{◌≡◌, ℕ, List, ◌++◌, length}
use Rattle.std.proofs.lemmas.Grind.{flat_map-append}
use Rattle.std.proofs.lemmas.List.{append-nil}
use Rattle.proto_wire.specs.Records.{span_head}
use Rattle.proto_fields.specs.Fields.{Field}
use Rattle.proto_fields.specs.Spelling.{field_spelling, spell, payload_fields}

pub spell-append : (fields others : List Field) → spell (fields ++ others) ≡ spell fields ++ spell others
unfolding spell
spell-append fields others = flat_map-append field_spelling fields others

pub spell-payload : (number : ℕ) (payload : List ℕ) → spell (payload_fields number payload) ≡ span_head number (length payload) ++ payload
unfolding spell
spell-payload number payload = append-nil (span_head number (length payload) ++ payload)
