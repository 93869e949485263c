use Rattle.plan_messages.proofs.PlanValid.{command_texts}
use Rattle.plan_messages.proofs.laws.command_texts_are_kept.Goals as goal

pub returns : goal.returns
returns c = command_texts
