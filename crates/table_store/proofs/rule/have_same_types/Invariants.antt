-- The columns compared so far have the same types, so what is left decides.
use Rattle.std.proofs.Common.{◌≡◌, drop, map}
use lib.Pointwise.{pointwise}
use Rattle.table_store.specs.Rule.{same_type}
use Rattle.table_store.proofs.rule.have_same_types.Given as goal

abbrev pub invariant-loop-at : goal.invariant-loop-at
invariant-loop-at l =
    pointwise same_type (map (λ field. field.kind) (drop l.at l.old_columns)) (map (λ field. field.kind) (drop l.at l.new_columns))
    ≡ pointwise same_type (map (λ field. field.kind) l.old_columns) (map (λ field. field.kind) l.new_columns)
