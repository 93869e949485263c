use Rattle.std.proofs.Common.{◌≡◌, ◌++◌, drop}
use Rattle.std.specs.Prelude.{filter, nat_eq}
use Rattle.resolve_relations.specs.Making.{is_kept}
use Rattle.resolve_relations.proofs.dropping.kept_columns.Given as goal

abbrev pub invariant-loop-column : goal.invariant-loop-column
invariant-loop-column l =
    l.kept ++ filter (is_kept nat_eq l.case_sensitive l.meant l.names) (drop l.column-index l.columns)
    ≡ filter (is_kept nat_eq l.case_sensitive l.meant l.names) l.columns
