-- What follows from the rule of joins.
use Rattle.std.specs.Prelude.{◌≡◌, ◌⊎◌, ℕ, ℤ, nat_eq, Bool, List, [], ◌++◌, map, drop, length, All, Contains, Option, Some, Ok}
use Rattle.expression_messages.specs.declared.expression.Expr.{Expr}
use Rattle.plan_model.specs.declared.node.JoinKind.{JoinKind}
use Rattle.plan_model.specs.declared.node.JoinKind.TheVariants as kind
use Rattle.resolve_names.specs.declared.scope.ColumnOf.{ColumnOf}
use Rattle.resolve_relations.specs.declared.found.FoundOf.{FoundOf}
use Rattle.resolve_joins.specs.Joins.{join_rule, kind_numbered}

abbrev pub ids : List (ColumnOf ℕ) → List ℕ
ids columns = map (λ column. column.id) columns

-- the ids that columns of a join can have from the left's and the right's columns
abbrev pub ids_of : JoinKind → List ℕ → List ℕ → List ℕ
ids_of kind.Inner left right = left ++ right
ids_of kind.Full left right = left ++ right
ids_of kind.Left left right = left ++ right
ids_of kind.Right left right = left ++ right
ids_of kind.Anti left right = left
ids_of kind.Semi left right = left
ids_of kind.Cross left right = left ++ right

-- how many columns are neither the left's nor the right's: the keys of a full join, which stand first
abbrev pub new_columns : JoinKind → List (List ℕ) → ℕ
new_columns kind.Inner names = 0
new_columns kind.Full names = length names
new_columns kind.Left names = 0
new_columns kind.Right names = 0
new_columns kind.Anti names = 0
new_columns kind.Semi names = 0
new_columns kind.Cross names = 0

-- the other columns of a join have the ids of the left's columns, or of the right's; of a semi join and an anti join, of the left's
abbrev pub OtherColumnsAreOld : Type 0
OtherColumnsAreOld =
    (exact : Bool) (fresh : ℕ → ℕ) (left right : FoundOf ℕ) (number : ℤ) (condition : Option Expr) (names : List (List ℕ)) (kind : JoinKind)
    (found : FoundOf ℕ) → kind_numbered number ≡ Some kind → join_rule nat_eq exact fresh left right number condition names ≡ Ok found →
    All (λ column. Contains (ids_of kind (ids left.columns) (ids right.columns)) column.id) (drop (new_columns kind names) found.columns)

-- a semi join and an anti join without keys have the left's columns as they are
abbrev pub SemiJoinsHaveTheLeftAlone : Type 0
SemiJoinsHaveTheLeftAlone =
    (exact : Bool) (fresh : ℕ → ℕ) (left right : FoundOf ℕ) (number : ℤ) (condition : Option Expr) (found : FoundOf ℕ) →
    (kind_numbered number ≡ Some kind.Semi) ⊎ (kind_numbered number ≡ Some kind.Anti) →
    join_rule nat_eq exact fresh left right number condition [] ≡ Ok found → found.columns ≡ left.columns
