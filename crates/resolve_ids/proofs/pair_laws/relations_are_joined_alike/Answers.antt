use Rattle.resolve_ids.proofs.Joining.{join_alike}
use Rattle.resolve_ids.proofs.pair_laws.relations_are_joined_alike.Goals as goal

pub returns : goal.returns
returns g c = record {
  join = λ name fresh fresh_too draws same same_too tells exact left right.
      join_alike name same same_too tells exact left right fresh fresh_too draws;
}
