use Rattle.std.proofs.Common.{◌≡◌, map}
use Rattle.relation_eval.specs.KeyedRows.{with_keys}
use Rattle.relation_eval.proofs.sorting.keyed_rows.Given as goal

abbrev pub invariant-loop-row : goal.invariant-loop-row
invariant-loop-row l = l.keyed.items ≡ map (with_keys l.keys) l.yielded
