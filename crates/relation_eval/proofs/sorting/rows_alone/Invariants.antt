use Rattle.std.proofs.Common.{◌≡◌, map}
use Rattle.relation_eval.specs.KeyedRows.{row_of_keyed}
use Rattle.relation_eval.proofs.sorting.rows_alone.Given as goal

abbrev pub invariant-loop-one : goal.invariant-loop-one
invariant-loop-one l = l.rows.items ≡ map row_of_keyed l.yielded
