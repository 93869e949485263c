use Rattle.resolve_ids.proofs.SetOperations.{set_alike}
use Rattle.resolve_ids.proofs.pair_laws.relations_are_combined_alike.Goals as goal

pub returns : goal.returns
returns g c = record { set_op = λ name fresh fresh_too draws exact left right. set_alike name fresh fresh_too draws left right exact }
