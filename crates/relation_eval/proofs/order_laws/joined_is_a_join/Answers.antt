use Rattle.std.proofs.Common.{refl}
use Rattle.relation_eval.proofs.order_laws.joined_is_a_join.Goals as goal

pub returns : goal.returns
returns c kind joining a b row = refl
