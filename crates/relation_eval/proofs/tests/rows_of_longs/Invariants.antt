use Rattle.std.proofs.Common.{[], ◌∷◌, All}
use Rattle.cn_types.specs.declared.value.DataType.{DataType}
use Rattle.cn_types.specs.Fit.{FitsTypes}
use Rattle.relation_eval.proofs.tests.rows_of_longs.Given as goal

abbrev pub invariant-loop-number : goal.invariant-loop-number
invariant-loop-number l = All (FitsTypes (DataType.Long ∷ [])) l.rows
