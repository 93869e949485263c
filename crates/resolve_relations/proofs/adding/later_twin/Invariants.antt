use Rattle.std.proofs.Common.{◌≡◌, [], take, drop}
use Rattle.resolve_relations.specs.Making.{later_twin, same_name}
use Rattle.resolve_relations.proofs.adding.later_twin.Given as goal

abbrev pub invariant-loop-place : goal.invariant-loop-place
invariant-loop-place l =
    later_twin (same_name l.case_sensitive) (take l.place l.items) (drop l.place l.items) ≡ later_twin (same_name l.case_sensitive) [] l.items
