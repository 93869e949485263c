use Rattle.plan_model.proofs.RowCounts.{permutations_have_the_same_counts}
use Rattle.plan_model.proofs.plan_laws.permutations_have_the_same_counts.Goals as goal

pub returns : goal.returns
returns c = permutations_have_the_same_counts
