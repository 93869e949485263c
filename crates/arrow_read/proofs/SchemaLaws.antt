-- A schema is read exactly where a table holds it.
use Rattle.std.proofs.Common.{◌≡◌, ℕ, zero, suc, ◌+◌, Bool, true, false, not, cond, ltb, List, [], ◌∷◌, length, map, Option, None, Some, Ok, arith, refl, ap, ◌∙◌, subst, sym}
use Rattle.std.specs.Prelude.{ℤ, pos, unwrap_or, is_none, slice_get}
use Rattle.std.specs.Result.{result_ok}
use Rattle.std.specs.List.{position_or_len}
use Rattle.std.specs.Ordering.{int_eq}
use Rattle.std.proofs.lemmas.Bool.{le-ltb}
use Rattle.std.proofs.lemmas.Bool.Decides.{nat_tests}
use Rattle.std.proofs.lemmas.Option.{same_Some}
use Rattle.std.proofs.lemmas.List.{length-map}
use Rattle.cn_types.specs.declared.value.DataType.{DataType}
use Rattle.cn_types.specs.declared.schema.Field.{Field}
use Rattle.cn_types.specs.declared.schema.Schema.{Schema}
use Rattle.flat_tables.specs.Views.{TableView, VectorView}
use Rattle.flat_tables.specs.Reading.{i16_field, vector_field, item_table}
use Rattle.arrow_ipc.specs.Holds.{FieldHolds, SchemaHolds}
use Rattle.arrow_read.specs.Tables.{FieldView, field_in, fields_from, schema_in}
use Rattle.arrow_read.specs.Reading.{unsupported, field_of, if_supported, schema_of}
use Rattle.arrow_read.proofs.Chains.{same_Ok, ok_of, or_absent_is, is_or_absent, same_int}
use Rattle.arrow_read.proofs.Steps.{bind_some}
use Rattle.arrow_read.proofs.FieldLaws.{view_of, field_holds, field_read}

-- ---- the first field of another type

abbrev other : FieldView → Bool
other field = is_none field.kind

-- every field has a type
abbrev AreTyped : List FieldView → Type 0
AreTyped fields = (place : ℕ) (field : FieldView) → slice_get fields place ≡ Some field → (kind : DataType) × (field.kind ≡ Some kind)

typed : (field : FieldView) → other field ≡ false → (kind : DataType) × (field.kind ≡ Some kind)
typed field h = by_kind field.kind refl h
  where
    by_kind : (o : Option DataType) → field.kind ≡ o → is_none o ≡ false → (kind : DataType) × (field.kind ≡ Some kind)
    by_kind (Some kind) e k = (kind, e)
    by_kind None e k = absurd (cc)

all_typed : (fields : List FieldView) → ltb (position_or_len other fields) (length fields) ≡ false → AreTyped fields
all_typed [] h place field e = absurd (cc)
all_typed (x ∷ xs) h place field e = by_test (other x) refl h place e (λ g i k. all_typed xs g i field k)
  where
    by_test : (b : Bool) → other x ≡ b → ltb (cond (not b) (1 + position_or_len other xs) 0) (suc (length xs)) ≡ false → (i : ℕ) → slice_get (x ∷ xs) i ≡ Some field
        → (ltb (position_or_len other xs) (length xs) ≡ false → (j : ℕ) → slice_get xs j ≡ Some field → (kind : DataType) × (field.kind ≡ Some kind)) → (kind : DataType) × (field.kind ≡ Some kind)
    by_test true f g i k more = absurd (grind (arith, nat_tests))
    by_test false f g zero k more = let same : x ≡ field = same_Some x field k in typed field (ap other (sym same) ∙ f)
    by_test false f g (suc i) k more = more (grind (arith, nat_tests)) i k

none_other : (fields : List FieldView) → unsupported fields ≡ None → AreTyped fields
none_other fields h = by_test (ltb (position_or_len other fields) (length fields)) refl h
  where
    by_test : (b : Bool) → ltb (position_or_len other fields) (length fields) ≡ b → cond b (Some (position_or_len other fields)) None ≡ None → AreTyped fields
    by_test true e k = absurd (cc)
    by_test false e k = all_typed fields e

views_typed : (fields : List Field) → position_or_len other (map view_of fields) ≡ length (map view_of fields)
views_typed [] = refl
views_typed (field ∷ fields) = let e : 1 + position_or_len other (map view_of fields) ≡ suc (length (map view_of fields)) = omega (arith, views_typed fields) in e

views_supported : (fields : List Field) → unsupported (map view_of fields) ≡ None
views_supported fields = rw (views_typed fields, le-ltb (length (map view_of fields)) (length (map view_of fields)) (omega arith)) refl

views_are : (fields : List Field) → map field_of (map view_of fields) ≡ fields
views_are [] = refl
views_are (field ∷ fields) = ap (λ (fs : List Field). field ∷ fs) (views_are fields)

-- ---- all fields

-- the field of each place is held by its table
abbrev FieldsHold : VectorView → ℕ → List Field → Type 0
FieldsHold v start fields = (i : ℕ) (field : Field) → slice_get fields i ≡ Some field → (t : TableView) × (item_table v (start + i) ≡ Ok t) × FieldHolds t field

pub record FieldsAre (v : VectorView) (start count : ℕ) (xs : List FieldView) : Type 0 where
  pub length_is : length xs ≡ count
  pub hold : FieldsHold v start (map field_of xs)

first_holds : (v : VectorView) (start : ℕ) (x : FieldView) → field_in v start ≡ Some x → (kind : DataType) × (x.kind ≡ Some kind) → (t : TableView) × (item_table v start ≡ Ok t) × FieldHolds t (field_of x)
first_holds v start x h k = field_holds v start x k.0 h k.1

fields_hold : (v : VectorView) (start count : ℕ) (xs : List FieldView) → fields_from v start count ≡ Some xs → AreTyped xs → FieldsAre v start count xs
fields_hold v start zero xs h known = let e : [] ≡ xs = same_Some [] xs h in subst (FieldsAre v start zero) e (record { length_is = refl; hold = λ i field g. absurd (cc) })
fields_hold v start (suc count) xs h known =
    let (x, ex, h1) = bind_some (field_in v start) _ xs h in
    let (more, em, h2) = bind_some (fields_from v (start + 1) count) _ xs h1 in
    let e : x ∷ more ≡ xs = same_Some (x ∷ more) xs h2 in
    let typed_all : AreTyped (x ∷ more) = subst AreTyped (sym e) known in
    let rest : FieldsAre v (start + 1) count more = fields_hold v (start + 1) count more em (λ i field g. typed_all (suc i) field g) in
    subst (FieldsAre v start (suc count)) e (record { length_is = ap suc rest.length_is; hold = holds x more ex typed_all rest.hold })
  where
    holds : (x : FieldView) (more : List FieldView) → field_in v start ≡ Some x → AreTyped (x ∷ more) → FieldsHold v (start + 1) (map field_of more) → FieldsHold v start (map field_of (x ∷ more))
    holds x more ex known rest zero field g =
        let same : field_of x ≡ field = same_Some (field_of x) field g in
        let here : start + 0 ≡ start = omega arith in
        let f = first_holds v start x ex (known 0 x refl) in
        (f.0, subst (λ (n : ℕ). item_table v n ≡ Ok f.0) (sym here) f.1, subst (FieldHolds f.0) same f.2)
    holds x more ex known rest (suc i) field g =
        let there : start + 1 + i ≡ start + suc i = omega arith in
        subst (λ (n : ℕ). (t : TableView) × (item_table v n ≡ Ok t) × FieldHolds t field) there (rest i field g)

fields_read : (v : VectorView) (start : ℕ) (fields : List Field) → FieldsHold v start fields → fields_from v start (length fields) ≡ Some (map view_of fields)
fields_read v start [] h = refl
fields_read v start (field ∷ fields) h =
    let here : start + 0 ≡ start = omega arith in
    let f = h 0 field refl in
    let e : item_table v start ≡ Ok f.0 = subst (λ (n : ℕ). item_table v n ≡ Ok f.0) here f.1 in
    let more : FieldsHold v (start + 1) fields = λ i g k. let there : start + suc i ≡ start + 1 + i = omega arith in subst (λ (n : ℕ). (t : TableView) × (item_table v n ≡ Ok t) × FieldHolds t g) there (h (suc i) g k) in
    rw (field_read v start f.0 field e f.2, fields_read v (start + 1) fields more) refl

-- ---- the schema

pub supported : (fields : List FieldView) (o : Option ℕ) (schema : Schema) → if_supported fields o ≡ Ok schema → (o ≡ None) × (record { 0 = map field_of fields } ≡ schema)
supported fields None schema h = let e : record { 0 = map field_of fields } ≡ schema = same_Ok _ schema h in (refl, e)
supported fields (Some place) schema h = absurd (cc)

little_is : (z : ℤ) (fields : List FieldView) (seen : Option (List FieldView)) → cond (int_eq z (pos 0)) (Some fields) None ≡ seen → (schema : Schema) → schema_of seen ≡ Ok schema → (z ≡ pos 0) × (seen ≡ Some fields)
little_is z fields seen h schema k = by_test (int_eq z (pos 0)) refl h
  where
    by_test : (b : Bool) → int_eq z (pos 0) ≡ b → cond b (Some fields) None ≡ seen → (z ≡ pos 0) × (seen ≡ Some fields)
    by_test true e g = (same_int z (pos 0) e, sym g)
    by_test false e g = absurd (none g)
      where
        none : None ≡ seen → ⊥
        none f = let bad : schema_of None ≡ Ok schema = subst (λ (o : Option (List FieldView)). schema_of o ≡ Ok schema) (sym f) k in cc

pub schema_holds : (header : TableView) (seen : Option (List FieldView)) (schema : Schema) → schema_in header ≡ Some seen → schema_of seen ≡ Ok schema → SchemaHolds header schema
unfolding schema_in
schema_holds header seen schema h k =
    let (endianness, ee, h1) = bind_some (result_ok (i16_field header 0)) _ seen h in
    let (named, en, h2) = bind_some (result_ok (vector_field header 1 4)) _ seen h1 in
    let (vector, ev, h3) = bind_some named _ seen h2 in
    let (fields, ef, h4) = bind_some (fields_from vector 0 vector.count) _ seen h3 in
    let little = little_is (unwrap_or endianness (pos 0)) fields seen (same_Some _ seen h4) schema k in
    let s = supported fields (unsupported fields) schema (subst (λ (o : Option (List FieldView)). schema_of o ≡ Ok schema) little.1 k) in
    let are : FieldsAre vector 0 vector.count fields = fields_hold vector 0 vector.count fields ef (none_other fields s.0) in
    subst (SchemaHolds header) s.1 (record {
      fields = vector;
      little = or_absent_is (pos 0) (i16_field header 0) endianness (pos 0) (ok_of (i16_field header 0) endianness ee) little.0;
      fields_are = ok_of (vector_field header 1 4) named en ∙ ap (λ z. Ok z) ev;
      count = sym are.length_is ∙ sym (length-map fields field_of);
      each = λ place field e. let here : 0 + place ≡ place = omega arith in subst (λ (n : ℕ). (t : TableView) × (item_table vector n ≡ Ok t) × FieldHolds t field) here (are.hold place field e);
    })

pub schema_read : (header : TableView) (schema : Schema) → SchemaHolds header schema → (schema_in header ≡ Some (Some (map view_of schema.0))) × (schema_of (Some (map view_of schema.0)) ≡ Ok schema)
unfolding schema_in
schema_read header schema h =
    let endianness = is_or_absent (pos 0) (i16_field header 0) (pos 0) h.little in
    let fields : fields_from h.fields 0 h.fields.count ≡ Some (map view_of schema.0)
    = ap (fields_from h.fields 0) h.count ∙ fields_read h.fields 0 schema.0 (λ i field e. let here : i ≡ 0 + i = omega arith in subst (λ (n : ℕ). (t : TableView) × (item_table h.fields n ≡ Ok t) × FieldHolds t field) here (h.each i field e)) in (
      rw (endianness.1, h.fields_are, fields, endianness.2) refl,
      rw (views_supported schema.0, views_are schema.0) refl,
    )
