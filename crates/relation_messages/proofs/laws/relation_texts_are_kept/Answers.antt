use Rattle.relation_messages.proofs.RelationTexts.{relation_texts}
use Rattle.relation_messages.proofs.laws.relation_texts_are_kept.Goals as goal

pub returns : goal.returns
returns c = relation_texts
