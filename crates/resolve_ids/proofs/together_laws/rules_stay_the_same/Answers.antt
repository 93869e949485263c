use Rattle.resolve_ids.specs.TogetherLaws.{By}
use Rattle.resolve_ids.proofs.PassedOn.{more_belong, passed_on}
use Rattle.resolve_ids.proofs.TogetherRules.{rules_stay_same}
use Rattle.resolve_ids.proofs.together_laws.rules_stay_the_same.Goals as goal

pub returns : goal.returns
returns g c = record {
  rules = λ belong. rules_stay_same (By belong);
  passed_on = λ belong. passed_on (By belong);
  more = λ belong more. more_belong (By belong) (By more);
}
