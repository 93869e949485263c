-- Rows that come with a plan (`relations.proto`, LocalRelation): an Arrow stream, a schema's JSON text, or both.
use Rattle.std.specs.Prelude.{ℕ, ◌&&◌, nat_eq, not, Bool, true, false, List, [], length, zip, Option, Some, None, Result, Ok, Err}
use Rattle.std.specs.List.{list_all, list_any}
use Rattle.cn_types.specs.declared.row.Row.{Row}
use Rattle.cn_types.specs.declared.schema.Field.{Field}
use Rattle.cn_types.specs.declared.schema.Schema.{Schema}
use Rattle.cn_types.specs.declared.value.Value.{Value}
use Rattle.cn_types.specs.Json.{schema_in}
use Rattle.arrow_read.specs.declared.want.Batches.{Batches}
use Rattle.arrow_read.specs.Reading.{stream_in}
use Rattle.plan_model.specs.declared.node.Node.TheVariants as node
use Rattle.plan_model.specs.FunctionTypes.{same_kind}
use Rattle.plan_model.specs.Truth.{is_present}
use Rattle.resolve_names.specs.declared.error.ErrorName.TheVariants.{BadLocalData}
use Rattle.resolve_names.specs.declared.scope.ColumnOf.{ColumnOf}
use Rattle.resolve_names.specs.Checks.{Checked, ◌>>=◌, refused}
use Rattle.resolve_names.specs.Refusals.{Refusal, refusal}
use Rattle.resolve_types.specs.Calls.{unless}
use Rattle.resolve_relations.specs.declared.found.FoundOf.{FoundOf}
use Rattle.resolve_relations.specs.Columns.{fresh_column, numbered}
use Rattle.plan_resolve.specs.declared.local.Local.{Local}

-- every fault of these parts is one error, without a detail
abbrev pub bad_data : Refusal
bad_data = refusal BadLocalData []

abbrev pub or_bad : {A F : Type 0} → Result A F → Checked A
or_bad (Ok x) = Ok x
or_bad (Err fault) = refused bad_data

-- a null stands where the column has none
abbrev pub is_misplaced : Field × Value → Bool
is_misplaced cell = not cell.0.nullable && not (is_present cell.1)

unfoldable pub has_misplaced_null : Schema → Row → Bool
has_misplaced_null schema row = list_any is_misplaced (zip schema.0 row.0)

abbrev pub under : Schema → List Row → Checked Local
under schema rows = do
  placed ← unless (list_any (has_misplaced_null schema) rows) bad_data
  Ok (record { schema = schema; rows = rows })

-- as many columns, and each has the type of the one at its place
abbrev pub has_type_of : Field × Field → Bool
has_type_of pair = same_kind pair.0.kind pair.1.kind

unfoldable pub have_same_types : Schema → Schema → Bool
have_same_types left right = nat_eq (length left.0) (length right.0) && list_all has_type_of (zip left.0 right.0)

-- with both parts, the columns have the same types, and the text has the names and says where nulls may stand
unfoldable pub renamed_rows : Schema → Schema → List Row → Checked Local
renamed_rows schema found rows = do
  alike ← unless (not (have_same_types schema found)) bad_data
  under schema rows

unfoldable pub local_of : Option (List ℕ) → Option (List ℕ) → Checked Local
local_of None None = refused bad_data
local_of (Some bytes) None = or_bad (stream_in bytes Batches.Any) >>= λ found. under found.0 found.1
local_of None (Some text) = or_bad (schema_in text) >>= λ schema. under schema []
local_of (Some bytes) (Some text) = do
  schema ← or_bad (schema_in text)
  found ← or_bad (stream_in bytes Batches.Any)
  renamed_rows schema found.0 found.1

abbrev pub local_column : {I : Type 0} → (ℕ → I) → ℕ → Field → ColumnOf I
local_column fresh number field = fresh_column (fresh number) field.name field.kind field.nullable

abbrev pub local_found : {I : Type 0} → (ℕ → I) → Local → FoundOf I
local_found fresh local = record {
  node = node.Rows local.schema local.rows;
  columns = numbered (local_column fresh) local.schema.0;
  relations = [];
}

-- `local_relation`
unfoldable pub local_rule : {I : Type 0} → (ℕ → I) → Option (List ℕ) → Option (List ℕ) → Checked (FoundOf I)
local_rule fresh payload schema = local_of payload schema >>= λ local. Ok (local_found fresh local)
