use Rattle.proto_fields.proofs.SpellLemmas.{spelled_message}
use Rattle.proto_fields.proofs.laws.spelled_is_read.Goals as goal

pub returns : goal.returns
returns c = spelled_message
