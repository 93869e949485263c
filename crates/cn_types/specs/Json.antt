-- The schema that a JSON text says (RFC 8259, as `serde_json` reads it: the last value of a key counts).
use Rattle.std.specs.Prelude.{ℕ, Bool, true, ◌&&◌, List, [], ◌∷◌, map, codes, Option, Some, None, is_some, is_none, unwrap_or, option_map, option_and_then, Result, Ok, Err, if◌then◌else◌, position}
use Rattle.std.specs.List.{list_all}
use Rattle.std.specs.Str.{bytes_eq}
use Rattle.serde_json.specs.Data.{Data, Items, no_items, item}
use Rattle.serde_json.specs.Find.{get, as_str, as_bool, as_array}
use Rattle.serde_json.specs.Read.{read}
use Rattle.cn_types.specs.declared.value.DataType.{DataType}
use Rattle.cn_types.specs.declared.schema.Field.{Field}
use Rattle.cn_types.specs.declared.schema.Schema.{Schema}
use Rattle.cn_types.specs.declared.fault.SchemaFault.{SchemaFault}

-- the items of a JSON array
abbrev pub items_in : Items → List Data
items_in no_items = []
items_in (item d ds) = d ∷ items_in ds

-- the text that stands under a key
abbrev pub text_at : List ℕ → Data → Option (List ℕ)
text_at key d = option_and_then as_str (get key d)

-- the list that stands under a key
abbrev pub items_at : List ℕ → Data → Option (List Data)
items_at key d = option_map items_in (option_and_then as_array (get key d))

-- the type of this name
abbrev pub kind_named : List ℕ → Option DataType
kind_named name =
    if bytes_eq name (codes "boolean") then Some DataType.Boolean
    else (if bytes_eq name (codes "integer") then Some DataType.Integer
    else (if bytes_eq name (codes "long") then Some DataType.Long
    else (if bytes_eq name (codes "string") then Some DataType.Text
    else (if bytes_eq name (codes "date") then Some DataType.Date else None))))

-- the type of a field, where its "type" is one of the five names
unfoldable pub kind_of : Data → Option DataType
kind_of field = option_and_then kind_named (text_at (codes "type") field)

-- whether a column may have nulls: a missing "nullable" is true, and what is no truth value says nothing
abbrev pub nullable_said : Option Data → Option Bool
nullable_said None = Some true
nullable_said (Some d) = as_bool d

unfoldable pub nullable_of : Data → Option Bool
nullable_of field = nullable_said (get (codes "nullable") field)

-- a field is an object with a text "name", and no "nullable" but a truth value
unfoldable pub is_field : Data → Bool
is_field d = is_some (text_at (codes "name") d) && is_some (nullable_of d)

-- the column that a field says, which has a name, a type and a nullability
unfoldable pub column_of : Data → Field
column_of field = record {
  name = unwrap_or (text_at (codes "name") field) [];
  kind = unwrap_or (kind_of field) DataType.Text;
  nullable = unwrap_or (nullable_of field) true;
}

-- the items of the list "fields", where "type" is "struct"
abbrev pub fields_if : Option (List ℕ) → Option (List Data) → Option (List Data)
fields_if (Some type) fields = if bytes_eq type (codes "struct") then fields else None
fields_if None fields = None

unfoldable pub struct_fields : Data → Option (List Data)
struct_fields d = fields_if (text_at (codes "type") d) (items_at (codes "fields") d)

-- the columns of fields, or the place of the first that has none of the five types
abbrev pub columns_or : Option ℕ → List Data → Result Schema SchemaFault
columns_or None fields = Ok (record { 0 = map column_of fields })
columns_or (Some place) fields = Err (SchemaFault.UnknownType place)

abbrev pub columns_if : Option (List Data) → Result Schema SchemaFault
columns_if None = Err SchemaFault.NotStruct
columns_if (Some fields) =
    if list_all is_field fields then columns_or (position (λ field. is_none (kind_of field)) fields) fields
    else Err SchemaFault.NotStruct

-- the schema that a JSON value says
abbrev pub schema_of : Data → Result Schema SchemaFault
schema_of d = columns_if (struct_fields d)

abbrev pub schema_if : Option Data → Result Schema SchemaFault
schema_if None = Err SchemaFault.NotJson
schema_if (Some d) = schema_of d

-- the schema that a text says
abbrev pub schema_in : List ℕ → Result Schema SchemaFault
schema_in text = schema_if (read text)
