use Rattle.std.proofs.Common.{◌≡◌, drop}
use Rattle.resolve_joins.specs.Keys.{all_equal}
use Rattle.resolve_joins.proofs.equalities.all_equal.Given as goal

abbrev pub invariant-loop-index : goal.invariant-loop-index
invariant-loop-index l = l.test ≡ all_equal l.width (drop l.index l.keys)
