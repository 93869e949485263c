use Rattle.std.proofs.Common.{◌≡◌, ◌++◌, drop}
use Rattle.resolve_relations.specs.Columns.{numbered_from}
use Rattle.std.specs.Prelude.{nat_eq}
use Rattle.resolve_relations.specs.Making.{replaced}
use Rattle.resolve_relations.proofs.adding.replaced_columns.Given as goal

abbrev pub invariant-loop-place : goal.invariant-loop-place
invariant-loop-place l = l.items ++ numbered_from (replaced nat_eq l.case_sensitive l.added) l.place (drop l.place l.columns) ≡ numbered_from (replaced nat_eq l.case_sensitive l.added) 0 l.columns
