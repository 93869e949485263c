use Rattle.proto_fields.proofs.FieldLemmas.{IsMessage-append, fields_of-append}
use Rattle.proto_fields.proofs.laws.fields_join.Goals as goal

pub returns : goal.returns
returns c = λ front back first second. (IsMessage-append front back first second, fields_of-append front back first second)
