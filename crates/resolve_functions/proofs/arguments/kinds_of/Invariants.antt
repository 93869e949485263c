use Rattle.std.proofs.Common.{◌≡◌, take}
use Rattle.plan_model.specs.NodeTypes.{kinds_of}
use Rattle.resolve_functions.proofs.arguments.kinds_of.Given as goal

abbrev pub invariant-loop-expr : goal.invariant-loop-expr
invariant-loop-expr l = l.kinds ≡ kinds_of (take l.expr-index l.exprs)
