use Rattle.std.proofs.Common.{◌≡◌, drop, map}
use Rattle.resolve_expressions.specs.Grouping.{all_checked}
use Rattle.resolve_expressions.proofs.Gathering.{behind}
use Rattle.resolve_relations.specs.Making.{meant}
use Rattle.resolve_relations.proofs.dropping.all_meant.Given as goal

abbrev pub invariant-loop-expr : goal.invariant-loop-expr
invariant-loop-expr l =
    behind l.all (all_checked (map (meant l.case_sensitive l.relations) (drop l.expr-index l.exprs)))
    ≡ all_checked (map (meant l.case_sensitive l.relations) l.exprs)
