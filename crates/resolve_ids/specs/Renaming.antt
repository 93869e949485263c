-- Columns and relations under other ids. `I` and `J` are the types of the ids.
use Rattle.std.specs.Prelude.{◌≡◌, ℕ, ◌<◌, ◌≤◌, Bool, List, map, length, Ok, Err}
use Rattle.resolve_names.specs.declared.scope.ColumnOf.{ColumnOf}
use Rattle.resolve_names.specs.declared.scope.Tagged.{Tagged}
use Rattle.resolve_names.specs.Checks.{Checked, ◌>>=◌}
use Rattle.resolve_relations.specs.declared.found.FoundOf.{FoundOf}
use Rattle.resolve_relations.specs.Columns.{within_limits}

-- the same column under another id
abbrev pub renamed_column : {I J : Type 0} → (I → J) → ColumnOf I → ColumnOf J
renamed_column name column = record {
  qualifier = column.qualifier;
  name = column.name;
  id = name column.id;
  kind = column.kind;
  nullable = column.nullable;
}

abbrev pub renamed_columns : {I J : Type 0} → (I → J) → List (ColumnOf I) → List (ColumnOf J)
renamed_columns name columns = map (renamed_column name) columns

abbrev pub renamed_tagged : {I J : Type 0} → (I → J) → Tagged I → Tagged J
renamed_tagged name relation = record { plan_id = relation.plan_id; columns = renamed_columns name relation.columns }

abbrev pub renamed_relations : {I J : Type 0} → (I → J) → List (Tagged I) → List (Tagged J)
renamed_relations name relations = map (renamed_tagged name) relations

-- the same relation under other ids; its node has none
abbrev pub renamed : {I J : Type 0} → (I → J) → FoundOf I → FoundOf J
renamed name found = record {
  node = found.node;
  columns = renamed_columns name found.columns;
  relations = renamed_relations name found.relations;
}

-- other ids tell columns apart as these do
pub record TellsApart {I J : Type 0} (same : I → I → Bool) (same_too : J → J → Bool) (name : I → J) : Type 0 where
  pub told : (a b : I) → same_too (name a) (name b) ≡ same a b

-- the ids of new columns are the others of these, for as many columns as a relation may have
pub record DrawnAlike {I J : Type 0} (name : I → J) (fresh : ℕ → I) (fresh_too : ℕ → J) : Type 0 where
  pub drawn : (number : ℕ) → number < 1000 → fresh_too number ≡ name (fresh number)

-- the same node and as many columns; where those are no more than a relation may have, it is the same relation under other ids
pub record FoundAlike {I J : Type 0} (name : I → J) (found : FoundOf I) (other : FoundOf J) : Type 0 where
  pub node : other.node ≡ found.node
  pub count : length other.columns ≡ length found.columns
  pub whole : length found.columns ≤ 1000 → other ≡ renamed name found

-- one answer is the other under other ids
abbrev pub Alike : {I J : Type 0} → (I → J) → Checked (FoundOf I) → Checked (FoundOf J) → Type 0
Alike name (Ok found) (Ok other) = FoundAlike name found other
Alike name (Ok found) (Err stop_too) = ⊥
Alike name (Err stop) (Ok other) = ⊥
Alike name (Err stop) (Err stop_too) = stop_too ≡ stop

-- the relation, where its columns are within limits
abbrev pub limited : {I : Type 0} → Checked (FoundOf I) → Checked (FoundOf I)
limited answer = answer >>= λ found. within_limits found.columns >>= λ fine. Ok found
