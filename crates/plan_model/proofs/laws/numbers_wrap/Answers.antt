use Rattle.plan_model.proofs.FunctionFacts.{numbers_wrap}
use Rattle.plan_model.proofs.laws.numbers_wrap.Goals as goal

pub returns : goal.returns
returns c = numbers_wrap
