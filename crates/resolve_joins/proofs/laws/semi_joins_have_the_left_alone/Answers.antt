use Rattle.resolve_joins.proofs.OldColumns.{semi_joins_have_the_left_alone}
use Rattle.resolve_joins.proofs.laws.semi_joins_have_the_left_alone.Goals as goal

pub returns : goal.returns
returns c = semi_joins_have_the_left_alone
