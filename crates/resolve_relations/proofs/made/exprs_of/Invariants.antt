use Rattle.std.proofs.Common.{◌≡◌, ◌++◌, map, drop}
use Rattle.resolve_relations.specs.Columns.{expr_of}
use Rattle.resolve_relations.proofs.made.exprs_of.Given as goal

abbrev pub invariant-loop-item : goal.invariant-loop-item
invariant-loop-item l = l.exprs ++ map expr_of (drop l.item-index l.items) ≡ map expr_of l.items
