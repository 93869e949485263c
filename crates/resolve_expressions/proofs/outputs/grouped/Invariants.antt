use Rattle.std.proofs.Common.{◌≡◌, drop}
use Rattle.resolve_expressions.specs.Named.{grouped_in}
use Rattle.resolve_expressions.proofs.Groups.{behind_group}
use Rattle.resolve_expressions.proofs.outputs.grouped.Given as goal

abbrev pub invariant-loop-expr : goal.invariant-loop-expr
invariant-loop-expr l =
    behind_group l.items (grouped_in l.names l.stars l.keys (drop l.expr-index l.exprs) l.calls) ≡ grouped_in l.names l.stars l.keys l.exprs l.initial.calls
