-- The messages that are written are read as such.
use Rattle.std.proofs.Common.{◌≡◌, ℕ, zero, suc, ◌+◌, ◌*◌, Bool, true, false, List, [], ◌∷◌, length, map, Option, Some, Result, Ok, arith, refl, ap, ◌∙◌, subst, inr}
use Rattle.std.specs.Prelude.{pos, slice_get, IsTrue, IsUtf8, ◌≢◌, if◌then◌else◌}
use Rattle.std.specs.List.{AllByRecursion}
use Rattle.cn_types.specs.declared.value.DataType.{DataType}
use Rattle.cn_types.specs.declared.value.DataType.TheVariants as K
use Rattle.cn_types.specs.declared.schema.Field.{Field}
use Rattle.cn_types.specs.declared.schema.Schema.{Schema}
use Rattle.flat_tables.specs.declared.fault.FlatFault.{FlatFault}
use Rattle.flat_tables.specs.declared.object.FlatObject.{FlatObject}
use Rattle.flat_tables.specs.declared.object.FlatObject.TheVariants as O
use Rattle.flat_tables.specs.declared.object.FlatObject.TheViews.{outs-Table, outs-Tables, outs-Pairs, outs-Text}
use Rattle.flat_tables.specs.declared.object.FlatSlot.{FlatSlot}
use Rattle.flat_tables.specs.declared.object.FlatSlot.TheVariants.{Absent, U8, I16, I32, Object}
use Rattle.flat_tables.specs.declared.object.FlatPair.{FlatPair}
use Rattle.flat_tables.specs.Views.{TableView, VectorView}
use Rattle.flat_tables.specs.Reading.{◌>>=◌, at_field, field_at, named_table, named_vector, named_text, u8_field}
use Rattle.flat_tables.specs.Found.{Found, FoundTo, SlotsRead, TablesRead, PairsRead}
use Rattle.arrow_ipc.specs.Messages.{type_number, type_table, field_table, schema_table}
use Rattle.arrow_ipc.specs.Holds.{or_absent, IsTrueByte, Says, IsOfType, FieldHolds, SchemaHolds}

-- ---- what is found, by kind of object

pub found_table : (d : ℕ) (slots : List (FlatSlot FlatObject)) (b : List ℕ) (place : ℕ) → FoundTo (suc d) (O.Table slots) b place → (t : TableView) × (named_table b place ≡ Ok t) × SlotsRead (FoundTo d) t slots
found_table d slots b place h = subst (λ x. Found (FoundTo d) x b place) (outs-Table slots) h

found_tables : (d : ℕ) (tables : List FlatObject) (b : List ℕ) (place : ℕ) → FoundTo (suc d) (O.Tables tables) b place → (v : VectorView) × (named_vector b 4 place ≡ Ok v) × TablesRead (FoundTo d) v tables
found_tables d tables b place h = subst (λ x. Found (FoundTo d) x b place) (outs-Tables tables) h

pub found_pairs : (d : ℕ) (pairs : List FlatPair) (b : List ℕ) (place : ℕ) → FoundTo (suc d) (O.Pairs pairs) b place → (v : VectorView) × (named_vector b 16 place ≡ Ok v) × PairsRead v pairs
found_pairs d pairs b place h = subst (λ x. Found (FoundTo d) x b place) (outs-Pairs pairs) h

found_text : (d : ℕ) (text : List ℕ) (b : List ℕ) (place : ℕ) → FoundTo (suc d) (O.Text text) b place → named_text b place ≡ Ok text
found_text d text b place h = subst (λ x. Found (FoundTo d) x b place) (outs-Text text) h

-- a field that stands somewhere and is read there
pub field_read : {A : Type 0} → (read : ℕ → Result A FlatFault) (r : Result (Option ℕ) FlatFault) (place : ℕ) (x : A) → r ≡ Ok (Some place) → read place ≡ Ok x → at_field read r ≡ Ok (Some x)
field_read {A} read r place x e h = ap (at_field read) e ∙ ap (λ (found : Result A FlatFault). found >>= λ y. Ok (Some y)) h

-- ---- a field of the schema

one_is_not_zero : (n : ℕ) → n ≡ 1 → n ≡ 0 → ⊥
one_is_not_zero n a b = omega arith

-- a byte that is 1
true_byte : (byte : Result (Option ℕ) FlatFault) → byte ≡ Ok (Some 1) → IsTrueByte byte
true_byte byte e = (1, ap (or_absent 0) e, one_is_not_zero 1 refl)

no_truth : (A : Type 0) → IsTrue false → A
no_truth A h = absurd (cc)

flag : (b : Bool) (byte : Result (Option ℕ) FlatFault) → byte ≡ Ok (Some (if b then 1 else 0)) → Says b byte
flag true byte e = (1, ap (or_absent 0) e, (λ h. one_is_not_zero 1 refl, λ h. refl))
flag false byte e = (0, ap (or_absent 0) e, (no_truth (0 ≢ 0), λ h. absurd (h refl)))

abbrev pub type_slots : DataType → List (FlatSlot FlatObject)
type_slots K.Boolean = []
type_slots K.Integer = I32 (pos 32) ∷ U8 1 ∷ []
type_slots K.Long = I32 (pos 64) ∷ U8 1 ∷ []
type_slots K.Text = []
type_slots K.Date = I16 (pos 0) ∷ []

pub type_table_is : (kind : DataType) → type_table kind ≡ O.Table (type_slots kind)
unfolding type_table
type_table_is K.Boolean = refl
type_table_is K.Integer = refl
type_table_is K.Long = refl
type_table_is K.Text = refl
type_table_is K.Date = refl

is_of_type : (d : ℕ) (kind : DataType) (t : TableView) → SlotsRead (FoundTo d) t (type_slots kind) → IsOfType kind (type_number kind) t
is_of_type d K.Boolean t r = refl
is_of_type d K.Integer t r = record { is_int = refl; width_is = ap (or_absent (pos 0)) (r.each 0 (I32 (pos 32)) refl); signed = true_byte (u8_field t 1) (r.each 1 (U8 1) refl) }
is_of_type d K.Long t r = record { is_int = refl; width_is = ap (or_absent (pos 0)) (r.each 0 (I32 (pos 64)) refl); signed = true_byte (u8_field t 1) (r.each 1 (U8 1) refl) }
is_of_type d K.Text t r = refl
is_of_type d K.Date t r = record { is_date = refl; unit_is = ap (or_absent (pos 1)) (r.each 0 (I16 (pos 0)) refl) }

abbrev pub field_slots : Field → List (FlatSlot FlatObject)
field_slots field =
    Object (O.Text field.name) ∷ U8 (if field.nullable then 1 else 0) ∷ U8 (type_number field.kind) ∷ Object (type_table field.kind) ∷ Absent ∷ Object (O.Tables []) ∷ []

pub field_table_is : (field : Field) → field_table field ≡ O.Table (field_slots field)
unfolding field_table
field_table_is field = refl

field_holds : (field : Field) (t : TableView) → IsUtf8 field.name → SlotsRead (FoundTo 2) t (field_slots field) → FieldHolds t field
field_holds field t utf8 r =
    let name = r.each 0 (Object (O.Text field.name)) refl in
    let kind = r.each 3 (Object (type_table field.kind)) refl in
    let kind_table = found_table 1 (type_slots field.kind) t.buffer kind.0 (subst (λ (o : FlatObject). FoundTo 2 o t.buffer kind.0) (type_table_is field.kind) kind.2) in
    let children = r.each 5 (Object (O.Tables [])) refl in
    let children_vector = found_tables 1 [] t.buffer children.0 children.2 in
    record {
      number = type_number field.kind;
      type_table = kind_table.0;
      name_is = ap (or_absent []) (field_read (named_text t.buffer) (field_at t.buffer t.place 0) name.0 field.name name.1 (found_text 1 field.name t.buffer name.0 name.2));
      name_is_text = utf8;
      nullable = flag field.nullable (u8_field t 1) (r.each 1 (U8 (if field.nullable then 1 else 0)) refl);
      number_is = ap (or_absent 0) (r.each 2 (U8 (type_number field.kind)) refl);
      type_is = field_read (named_table t.buffer) (field_at t.buffer t.place 3) kind.0 kind_table.0 kind.1 kind_table.1;
      kind = is_of_type 1 field.kind kind_table.0 kind_table.2;
      no_dictionary = r.each 4 Absent refl;
      no_children = inr (children_vector.0, field_read (named_vector t.buffer 4) (field_at t.buffer t.place 5) children.0 children_vector.0 children.1 children_vector.1, children_vector.2.count);
    }

-- ---- the schema

pub get-map : {X Y : Type 0} → (f : X → Y) (xs : List X) (i : ℕ) (x : X) → slice_get xs i ≡ Some x → slice_get (map f xs) i ≡ Some (f x)
get-map f [] i x e = absurd (cc)
get-map f (y ∷ ys) zero x e = let same : y ≡ x = cc in ap (λ z. Some (f z)) same
get-map f (y ∷ ys) (suc i) x e = get-map f ys i x e

All-at : {X : Type 0} → (P : X → Type 0) (xs : List X) (i : ℕ) (x : X) → AllByRecursion P xs → slice_get xs i ≡ Some x → P x
All-at P [] i x h e = absurd (cc)
All-at P (y ∷ ys) zero x h e = let same : y ≡ x = cc in subst P same h.0
All-at P (y ∷ ys) (suc i) x h e = All-at P ys i x h.1 e

length-fields : (fields : List Field) → length (map field_table fields) ≡ length fields
length-fields [] = refl
length-fields (field ∷ fields) = ap suc (length-fields fields)

abbrev pub schema_slots : Schema → List (FlatSlot FlatObject)
schema_slots schema = I16 (pos 0) ∷ Object (O.Tables (map field_table schema.0)) ∷ []

pub schema_table_is : (schema : Schema) → schema_table schema ≡ O.Table (schema_slots schema)
unfolding schema_table
schema_table_is schema = refl

pub schema_holds : (schema : Schema) (t : TableView) → AllByRecursion (λ field. IsUtf8 field.name) schema.0 → SlotsRead (FoundTo 4) t (schema_slots schema) → SchemaHolds t schema
schema_holds schema t utf8 r =
    let named = r.each 1 (Object (O.Tables (map field_table schema.0))) refl in
    let fields = found_tables 3 (map field_table schema.0) t.buffer named.0 named.2 in
    record {
      fields = fields.0;
      little = ap (or_absent (pos 0)) (r.each 0 (I16 (pos 0)) refl);
      fields_are = field_read (named_vector t.buffer 4) (field_at t.buffer t.place 1) named.0 fields.0 named.1 fields.1;
      count = fields.2.count ∙ length-fields schema.0;
      each = λ place field e.
          let found = found_table 2 (field_slots field) fields.0.buffer (fields.0.start + place * 4)
          (subst (λ (o : FlatObject). FoundTo 3 o fields.0.buffer (fields.0.start + place * 4)) (field_table_is field) (fields.2.each place (field_table field) (get-map field_table schema.0 place field e))) in
          (found.0, found.1, field_holds field found.0 (All-at (λ (f : Field). IsUtf8 f.name) schema.0 place field utf8 e) found.2);
    }
