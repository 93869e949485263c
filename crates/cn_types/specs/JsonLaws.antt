-- Which JSON values are structs of named fields.
use Rattle.std.specs.Prelude.{◌≡◌, ◌↔◌, ◌⊎◌, ℕ, Bool, List, All, codes, Some, None, Err}
use Rattle.serde_json.specs.Data.{Data, Items, boolean, string, array}
use Rattle.serde_json.specs.Find.{get}
use Rattle.cn_types.specs.declared.fault.SchemaFault.{SchemaFault}
use Rattle.cn_types.specs.Json.{items_in, schema_of}

-- a field is an object with a text "name", and without "nullable" or with one that is a truth value
pub record IsField (field : Data) : Type 0 where
  pub name : (text : List ℕ) × (get (codes "name") field ≡ Some (string text))
  pub nullable : (get (codes "nullable") field ≡ None) ⊎ ((value : Bool) × (get (codes "nullable") field ≡ Some (boolean value)))

-- a struct is an object with "type":"struct" and a list "fields" of fields
pub record IsStruct (d : Data) : Type 0 where
  pub type : get (codes "type") d ≡ Some (string (codes "struct"))
  pub fields : (items : Items) × ((get (codes "fields") d ≡ Some (array items)) × All IsField (items_in items))

-- a JSON value says no schema, for want of a struct, exactly where it is no struct
abbrev pub NoStructIsRefused : Type 0
NoStructIsRefused = (d : Data) → (schema_of d ≡ Err SchemaFault.NotStruct) ↔ (¬ IsStruct d)
