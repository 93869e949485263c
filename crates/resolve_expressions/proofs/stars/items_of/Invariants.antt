use Rattle.std.proofs.Common.{◌≡◌, ◌++◌, drop}
use Rattle.resolve_expressions.specs.Stars.{has_qualifier, items_where}
use Rattle.resolve_expressions.proofs.stars.items_of.Given as goal

abbrev pub invariant-loop-place : goal.invariant-loop-place
invariant-loop-place l =
    l.items ++ items_where (has_qualifier l.case_sensitive l.parts) l.place (drop l.place l.columns) ≡ items_where (has_qualifier l.case_sensitive l.parts) 0 l.columns
