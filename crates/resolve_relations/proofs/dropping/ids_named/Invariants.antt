use Rattle.std.proofs.Common.{◌≡◌, ◌++◌, drop}
use Rattle.resolve_relations.specs.Making.{ids_named}
use Rattle.resolve_relations.proofs.dropping.ids_named.Given as goal

abbrev pub invariant-loop-column : goal.invariant-loop-column
invariant-loop-column l =
    l.ids ++ ids_named l.case_sensitive l.parts (drop l.column-index l.columns) ≡ ids_named l.case_sensitive l.parts l.columns
