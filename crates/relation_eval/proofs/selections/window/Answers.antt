use Rattle.std.proofs.Common.{arith}
use Rattle.std.proofs.lemmas.Grind.{common_steps}
use Rattle.std.proofs.lemmas.List.{drop-take}
use Rattle.relation_eval.proofs.selections.window.Goals as goal

pub returns-in-Owned : goal.returns-in-Owned
returns-in-Owned c = grind (arith, common_steps, drop-take)
