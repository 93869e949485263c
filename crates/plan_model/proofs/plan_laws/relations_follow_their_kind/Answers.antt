use Rattle.plan_model.proofs.KindFacts.{outcomes_of_kinds, types_of_kinds, conditions_of_kinds, conditions_of_forms}
use Rattle.plan_model.proofs.plan_laws.relations_follow_their_kind.Goals as goal

pub returns : goal.returns
returns c = record { outcomes = outcomes_of_kinds; types = types_of_kinds; conditions = conditions_of_kinds; expressions = conditions_of_forms }
