use Rattle.relation_parts.proofs.PartsValid.{part_texts}
use Rattle.relation_parts.proofs.laws.part_texts_are_kept.Goals as goal

pub returns : goal.returns
returns c = part_texts
