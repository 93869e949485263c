-- The expressions so far are known.
use Rattle.std.proofs.Common.{◌≡◌, true, take}
use Rattle.std.specs.List.{list_all}
use Rattle.expression_messages.specs.Known.{is_known_expr}
use Rattle.expression_messages.proofs.known.+known_expressions.Given as goal

abbrev pub invariant-are_known-loop-expr : goal.invariant-are_known-loop-expr
invariant-are_known-loop-expr l = list_all is_known_expr (take l.expr-index l.exprs) ≡ true
