-- What follows for set operations.
use Rattle.std.specs.Prelude.{◌≡◌, ℕ, ℤ, Bool, List, map, length, take, Ok}
use Rattle.resolve_names.specs.declared.scope.ColumnOf.{ColumnOf}
use Rattle.resolve_relations.specs.declared.found.FoundOf.{FoundOf}
use Rattle.resolve_sets.specs.Sets.{set_rule}

-- columns that names and ids tell alike
pub record AreToldAs (columns others : List (ColumnOf ℕ)) : Type 0 where
  pub ids : map (λ column. column.id) columns ≡ map (λ column. column.id) others
  pub names : map (λ column. column.name) columns ≡ map (λ column. column.name) others
  pub qualifiers : map (λ column. column.qualifier) columns ≡ map (λ column. column.qualifier) others

-- by place and by name, the first columns are told as the left's are
abbrev pub ResultsBeginWithTheLeft : Type 0
ResultsBeginWithTheLeft =
    (exact : Bool) (fresh : ℕ → ℕ) (left right found : FoundOf ℕ) (number : ℤ) (all named missing : Bool) →
    set_rule exact fresh left right number all named missing ≡ Ok found →
    AreToldAs (take (length left.columns) found.columns) left.columns
