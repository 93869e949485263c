use Rattle.resolve_ids.proofs.Making.{renamed_columns_alike, to_df_alike}
use Rattle.resolve_ids.proofs.laws.columns_are_named_alike.Goals as goal

pub returns : goal.returns
returns g c = record {
  to_df = λ name fresh fresh_too draws. to_df_alike name fresh fresh_too draws;
  with_columns_renamed = λ name fresh fresh_too draws. renamed_columns_alike name fresh fresh_too draws;
}
