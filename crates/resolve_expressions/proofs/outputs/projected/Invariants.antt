use Rattle.std.proofs.Common.{◌≡◌, drop}
use Rattle.resolve_expressions.specs.Named.{projected_in}
use Rattle.resolve_expressions.proofs.Gathering.{behind}
use Rattle.resolve_expressions.proofs.outputs.projected.Given as goal

abbrev pub invariant-loop-expr : goal.invariant-loop-expr
invariant-loop-expr l = behind l.items (projected_in l.names (drop l.expr-index l.exprs)) ≡ projected_in l.names l.exprs
