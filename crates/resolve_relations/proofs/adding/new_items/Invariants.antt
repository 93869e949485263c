use Rattle.std.proofs.Common.{◌≡◌, ◌++◌, drop}
use Rattle.std.specs.Prelude.{filter, nat_eq}
use Rattle.resolve_relations.specs.Making.{is_new}
use Rattle.resolve_relations.proofs.adding.new_items.Given as goal

abbrev pub invariant-loop-item : goal.invariant-loop-item
invariant-loop-item l =
    l.items ++ filter (is_new nat_eq l.case_sensitive l.columns) (drop l.item-index l.added) ≡ filter (is_new nat_eq l.case_sensitive l.columns) l.added
