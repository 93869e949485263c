use Rattle.resolve_ids.proofs.Making.{aggregate_alike, project_alike, with_columns_alike}
use Rattle.resolve_ids.proofs.laws.columns_are_made_alike.Goals as goal

pub returns : goal.returns
returns g c = record {
  with_columns = λ name fresh fresh_too draws same same_too tells. with_columns_alike name fresh fresh_too draws same same_too tells;
  project = λ name fresh fresh_too draws same same_too tells. project_alike name fresh fresh_too draws same same_too tells;
  aggregate = λ name fresh fresh_too draws same same_too tells. aggregate_alike name fresh fresh_too draws same same_too tells;
}
