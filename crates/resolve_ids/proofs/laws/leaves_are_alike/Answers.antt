use Rattle.resolve_ids.proofs.Making.{range_alike, read_alike}
use Rattle.resolve_ids.proofs.laws.leaves_are_alike.Goals as goal

pub returns : goal.returns
returns g c = record {
  range = λ name fresh fresh_too draws. range_alike name fresh fresh_too draws;
  read = λ name fresh fresh_too draws. read_alike name fresh fresh_too draws;
}
