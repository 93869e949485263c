use Rattle.proto_fields.proofs.FieldLemmas.{fields_of-WireFaulty}
use Rattle.proto_fields.proofs.laws.faulty_have_no_fields.Goals as goal

pub returns : goal.returns
returns c = fields_of-WireFaulty
