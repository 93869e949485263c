use Rattle.resolve_joins.proofs.OldColumns.{other_columns_are_old}
use Rattle.resolve_joins.proofs.laws.other_columns_are_old.Goals as goal

pub returns : goal.returns
returns c = other_columns_are_old
