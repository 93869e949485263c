use Rattle.plan_model.proofs.Parts.{parts_within}
use Rattle.plan_model.proofs.laws.parts_are_within.Goals as goal

pub returns : goal.returns
returns c = parts_within
