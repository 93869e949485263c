-- When a resolved relation is sound, when its columns tell where nulls are, and which rules keep that.
use Rattle.std.specs.Prelude.{◌≡◌, ◌||◌, Bool, IsTrue, List, [], ◌∷◌, All, map, IfOk, Ok}
use Rattle.cn_types.specs.declared.row.Row.{Row}
use Rattle.cn_types.specs.declared.schema.Schema.{Schema}
use Rattle.cn_types.specs.declared.value.DataType.{DataType}
use Rattle.cn_types.specs.declared.value.Value.{Value}
use Rattle.cn_types.specs.Fit.{Fits}
use Rattle.table_store.specs.declared.tables.NamedTable.{NamedTable}
use Rattle.plan_model.specs.Allows.{Allows}
use Rattle.plan_model.specs.NodeTypes.{types}
use Rattle.plan_model.specs.Truth.{is_present}
use Rattle.plan_model.specs.WellFormed.{IsWellFormed}
use Rattle.resolve_names.specs.declared.scope.ColumnOf.{ColumnOf}
use Rattle.resolve_names.specs.Checks.{Checked}
use Rattle.resolve_relations.specs.declared.found.FoundOf.{FoundOf}

abbrev pub kinds : {I : Type 0} → List (ColumnOf I) → List DataType
kinds columns = map (λ column. column.kind) columns

-- a sound relation: its node is well formed, and gives the types of its columns
pub record IsSoundFound {I : Type 0} (found : FoundOf I) : Type 0 where
  pub node : IsWellFormed found.node
  pub columns : types found.node ≡ kinds found.columns

-- ---- nulls

-- which columns may be null
abbrev pub flags : {I : Type 0} → List (ColumnOf I) → List Bool
flags columns = map (λ column. column.nullable) columns

abbrev pub schema_flags : Schema → List Bool
schema_flags schema = map (λ field. field.nullable) schema.0

-- one value for each column, and none is null but where the column may be
abbrev pub HaveNullsWithin : List Bool → List Value → Type 0
HaveNullsWithin [] [] = Unit {0}
HaveNullsWithin (nullable ∷ others) (value ∷ values) = IsTrue (nullable || is_present value) × HaveNullsWithin others values
HaveNullsWithin columns values = ⊥

abbrev pub FitsNulls : List Bool → Row → Type 0
FitsNulls columns row = HaveNullsWithin columns row.0

-- a sound relation of which no row that it allows has a null in a column that is never null
pub record IsNullSafe {I : Type 0} (found : FoundOf I) : Type 0 where
  pub sound : IsSoundFound found
  pub nulls : (rows : List Row) → Allows found.node (Ok rows) → All (FitsNulls (flags found.columns)) rows

-- ---- rules

-- a rule that makes a relation of which this holds of such a one, or refuses
abbrev pub Keeps : {I : Type 0} → (FoundOf I → Type 0) → (FoundOf I → Checked (FoundOf I)) → Type 0
Keeps {I = I} Is rule = (input : FoundOf I) → Is input → IfOk (rule input) Is

-- a rule that makes such a relation of two such ones, or refuses
abbrev pub KeepsBoth : {I : Type 0} → (FoundOf I → Type 0) → (FoundOf I → FoundOf I → Checked (FoundOf I)) → Type 0
KeepsBoth {I = I} Is rule = (left right : FoundOf I) → Is left → Is right → IfOk (rule left right) Is

-- tables whose rows fit their schemas
abbrev pub HaveFittingRows : List NamedTable → Type 0
HaveFittingRows tables = All (λ table. All (Fits table.schema) table.rows) tables

-- such tables with nulls only where their schemas say so
pub record HaveSafeRows (tables : List NamedTable) : Type 0 where
  pub fitting : HaveFittingRows tables
  pub nulls : All (λ table. All (FitsNulls (schema_flags table.schema)) table.rows) tables
