use Rattle.std.proofs.Common.{◌≡◌}
use Rattle.std.specs.Prelude.{replicate}
use Rattle.cn_types.specs.declared.value.Value.TheVariants.{Null}
use Rattle.relation_eval.proofs.joins.nulls_of.Given as goal

abbrev pub invariant-loop : goal.invariant-loop
invariant-loop l = l.values ≡ replicate l.counter Null
