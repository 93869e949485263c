-- The items of a JSON array, as a list.
use Rattle.std.proofs.Common.{◌≡◌, ℕ, Bool, true, false, List, [], ◌∷◌, map, refl, sym, ap, ◌∙◌}
use Rattle.std.specs.Prelude.{None, Some, is_none, position, Ok, Err}
use Rattle.std.specs.List.{list_all, position_or_len}
use Rattle.std.proofs.lemmas.List.{length-map}
use Rattle.std.proofs.lemmas.List.Folds.{list_all-map}
use Rattle.serde_json.specs.Data.{Data}
use Rattle.serde_json.specs.View.{view, items_of}
use Rattle.serde_json.specs.declared.value.Value.{Value}
use Rattle.cn_types.specs.declared.schema.Field.{Field}
use Rattle.cn_types.specs.declared.schema.Schema.{Schema}
use Rattle.cn_types.specs.declared.fault.SchemaFault.{SchemaFault}
use Rattle.cn_types.specs.Json.{items_in, struct_fields, is_field, kind_of, column_of, columns_if, schema_of}

pub items_in_items_of : (ds : List Data) → items_in (items_of ds) ≡ ds
items_in_items_of [] = refl
items_in_items_of (d ∷ ds) = ap (λ (rest : List Data). d ∷ rest) (items_in_items_of ds)

position_or_len-map : {X Y : Type 0} (p : Y → Bool) (f : X → Y) (xs : List X) → position_or_len p (map f xs) ≡ position_or_len (λ x. p (f x)) xs
position_or_len-map p f [] = refl
position_or_len-map p f (x ∷ xs) = rw (position_or_len-map p f xs) refl

position-map : {X Y : Type 0} (p : Y → Bool) (f : X → Y) (xs : List X) → position p (map f xs) ≡ position (λ x. p (f x)) xs
position-map p f xs = rw (position_or_len-map p f xs, length-map xs f) refl

map-map : {X Y Z : Type 0} (g : Y → Z) (f : X → Y) (xs : List X) → map g (map f xs) ≡ map (λ x. g (f x)) xs
map-map g f [] = refl
map-map g f (x ∷ xs) = ap (λ (rest : List _). g (f x) ∷ rest) (map-map g f xs)

-- what a value says whose list of fields was found
module _ (d : Data) (fields : List Value) (found : Some (map view fields) ≡ struct_fields d) where
  says : schema_of d ≡ columns_if (Some (map view fields))
  says = ap columns_if (sym found)

  pub not_all_fields : list_all (λ field. is_field (view field)) fields ≡ false → schema_of d ≡ Err SchemaFault.NotStruct
  not_all_fields unlike = says ∙ rw (list_all-map is_field view fields, unlike) refl

  pub unknown_type : (place : ℕ) → list_all (λ field. is_field (view field)) fields ≡ true → position (λ field. is_none (kind_of (view field))) fields ≡ Some place → schema_of d ≡ Err (SchemaFault.UnknownType place)
  unknown_type place all at = says ∙ rw (list_all-map is_field view fields, all, position-map (λ field. is_none (kind_of field)) view fields, at) refl

  pub all_columns : list_all (λ field. is_field (view field)) fields ≡ true → position (λ field. is_none (kind_of (view field))) fields ≡ None → schema_of d ≡ Ok (record { 0 = map (λ field. column_of (view field)) fields })
  all_columns all none = says ∙ rw (list_all-map is_field view fields, all, position-map (λ field. is_none (kind_of field)) view fields, none) (ap (λ (columns : List Field). let schema : Schema = record { 0 = columns } in Ok schema) (map-map column_of view fields))
