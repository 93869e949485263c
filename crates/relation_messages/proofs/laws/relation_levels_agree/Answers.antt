use Rattle.relation_messages.proofs.SameRelations.{relation_agrees}
use Rattle.relation_messages.proofs.laws.relation_levels_agree.Goals as goal

pub returns : goal.returns
returns c = relation_agrees
