use Rattle.std.proofs.Common.{◌≡◌, ◌++◌, drop}
use Rattle.std.specs.Prelude.{nat_eq}
use Rattle.resolve_expressions.specs.Stars.{items_where}
use Rattle.resolve_relations.specs.Columns.{exprs_of}
use Rattle.resolve_relations.specs.Making.{is_kept}
use Rattle.resolve_relations.proofs.dropping.kept_exprs.Given as goal

abbrev pub invariant-loop-place : goal.invariant-loop-place
invariant-loop-place l =
    l.exprs ++ exprs_of (items_where (is_kept nat_eq l.case_sensitive l.meant l.names) l.place (drop l.place l.columns))
    ≡ exprs_of (items_where (is_kept nat_eq l.case_sensitive l.meant l.names) 0 l.columns)
