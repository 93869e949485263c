use Rattle.std.proofs.Common.{◌≡◌, drop, map}
use Rattle.resolve_expressions.specs.Grouping.{all_checked}
use Rattle.resolve_expressions.proofs.Gathering.{behind}
use Rattle.resolve_relations.specs.Keeping.{plain_place}
use Rattle.resolve_relations.proofs.keeping.named_places.Given as goal

abbrev pub invariant-loop-name : goal.invariant-loop-name
invariant-loop-name l = behind l.places (all_checked (map (plain_place l.case_sensitive l.columns) (drop l.name-index l.names))) ≡ all_checked (map (plain_place l.case_sensitive l.columns) l.names)
