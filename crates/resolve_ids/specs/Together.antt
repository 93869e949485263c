-- Relations that differ only in the ids of their columns, where it is known which ids belong together.
use Rattle.std.specs.Prelude.{◌≡◌, ℕ, ℤ, ◌<◌, Bool, List, [], ◌∷◌, ◌++◌, map, Ok, Err}
use Rattle.std.specs.List.{AllZip}
use Rattle.cn_types.specs.declared.schema.Field.{Field}
use Rattle.resolve_names.specs.declared.scope.ColumnOf.{ColumnOf}
use Rattle.resolve_names.specs.declared.scope.Tagged.{Tagged}
use Rattle.resolve_names.specs.Checks.{Checked}
use Rattle.resolve_relations.specs.declared.found.FoundOf.{FoundOf}

-- a relation with a plan id stands behind the relations with plan ids in it
abbrev pub with_plan_id : {I : Type 0} → FoundOf I → ℤ → FoundOf I
with_plan_id found plan = record {
  node = found.node;
  columns = found.columns;
  relations = found.relations ++ record { plan_id = plan; columns = found.columns } ∷ [];
}

-- what a schema shows of columns
abbrev pub shown_column : {I : Type 0} → ColumnOf I → Field
shown_column column = record { name = column.name; kind = column.kind; nullable = column.nullable }

abbrev pub shown : {I : Type 0} → FoundOf I → List Field
shown found = map shown_column found.columns

module _ {I J : Type 0} (Belong : I → J → Type 0) where
  -- one column under two ids
  pub record SameColumn (column : ColumnOf I) (other : ColumnOf J) : Type 0 where
    pub qualifier : other.qualifier ≡ column.qualifier
    pub name : other.name ≡ column.name
    pub id : Belong column.id other.id
    pub kind : other.kind ≡ column.kind
    pub nullable : other.nullable ≡ column.nullable

  pub record SameTagged (relation : Tagged I) (other : Tagged J) : Type 0 where
    pub plan_id : other.plan_id ≡ relation.plan_id
    pub columns : AllZip SameColumn relation.columns other.columns

  -- one relation under two ids for each column
  pub record SameFound (found : FoundOf I) (other : FoundOf J) : Type 0 where
    pub node : other.node ≡ found.node
    pub columns : AllZip SameColumn found.columns other.columns
    pub relations : AllZip SameTagged found.relations other.relations

  -- one answer under two ids for each column
  abbrev pub SameAnswer : Checked (FoundOf I) → Checked (FoundOf J) → Type 0
  SameAnswer (Ok found) (Ok other) = SameFound found other
  SameAnswer (Ok found) (Err stop_too) = ⊥
  SameAnswer (Err stop) (Ok other) = ⊥
  SameAnswer (Err stop) (Err stop_too) = stop_too ≡ stop

  -- what belongs to one id is told apart as that is
  pub record TellsTogether (same : I → I → Bool) (same_too : J → J → Bool) : Type 0 where
    pub told : (a b : I) (c d : J) → Belong a c → Belong b d → same_too c d ≡ same a b

  -- the ids of new columns belong together, for as many columns as a relation may have
  pub record DrawnTogether (fresh : ℕ → I) (fresh_too : ℕ → J) : Type 0 where
    pub drawn : (number : ℕ) → number < 1000 → Belong (fresh number) (fresh_too number)
