use Rattle.std.proofs.Common.{◌≡◌, take}
use Rattle.resolve_joins.proofs.sides.shares.Given as goal

abbrev pub invariant-loop-relation : goal.invariant-loop-relation
invariant-loop-relation l = l.shared ≡ take l.relation-index l.relations
