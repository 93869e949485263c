use Rattle.relation_messages.proofs.RelationValid.{relation_valid}
use Rattle.relation_messages.proofs.laws.relations_are_valid.Goals as goal

pub returns : goal.returns
returns c = relation_valid
