use Rattle.relation_messages.proofs.RelationBack.{relation_read_back}
use Rattle.relation_messages.proofs.laws.relations_are_read_back.Goals as goal

pub returns : goal.returns
returns c = relation_read_back
