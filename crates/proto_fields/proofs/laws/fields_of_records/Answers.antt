use Rattle.proto_fields.proofs.FieldLemmas.{fields_of-Records}
use Rattle.proto_fields.proofs.laws.fields_of_records.Goals as goal

pub returns : goal.returns
returns c = fields_of-Records
