-- A JSON value is refused as no struct exactly where it is none.
use Rattle.std.proofs.Common.{◌≡◌, ℕ, zero, suc, ◌<◌, Bool, true, false, cond, List, [], ◌∷◌, length, refl, sym, ap, subst, ◌∙◌, ◌⊎◌, inl, inr, arith}
use Rattle.std.specs.Prelude.{All, ◌&&◌, codes, Option, None, Some, is_some, is_none, option_map, option_and_then, position, Err}
use Rattle.std.specs.List.{list_all}
use Rattle.std.specs.Str.{bytes_eq}
use Rattle.std.proofs.lemmas.Slice.Eq.{bytes_eq-Decides}
use Rattle.serde_json.specs.Data.{Data, null, boolean, number, string, array, object, Items}
use Rattle.serde_json.specs.Find.{get, as_str, as_array}
use Rattle.cn_types.specs.declared.fault.SchemaFault.{SchemaFault}
use Rattle.cn_types.specs.Json.{items_in, text_at, nullable_said, nullable_of, is_field, kind_of, fields_if, struct_fields, columns_or, columns_if, schema_of}
use Rattle.cn_types.specs.JsonLaws.{IsField, IsStruct, NoStructIsRefused}

both : (a b : Bool) → (a && b) ≡ true → (a ≡ true) × (b ≡ true)
both true b e = (refl, e)
both false b e = cc

true_or_false : (b : Bool) → (b ≡ true) ⊎ (b ≡ false)
true_or_false true = inl refl
true_or_false false = inr refl

-- ---- fields

named : (o : Option Data) → is_some (option_and_then as_str o) ≡ true → (text : List ℕ) × (o ≡ Some (string text))
named None e = cc
named (Some null) e = cc
named (Some (boolean b)) e = cc
named (Some (number n)) e = cc
named (Some (string s)) e = (s, refl)
named (Some (array ds)) e = cc
named (Some (object ms)) e = cc

nullable : (o : Option Data) → is_some (nullable_said o) ≡ true → (o ≡ None) ⊎ ((value : Bool) × (o ≡ Some (boolean value)))
nullable None e = inl refl
nullable (Some null) e = cc
nullable (Some (boolean b)) e = inr (b, refl)
nullable (Some (number n)) e = cc
nullable (Some (string s)) e = cc
nullable (Some (array ds)) e = cc
nullable (Some (object ms)) e = cc

is_nullable : (o : Option Data) → (o ≡ None) ⊎ ((value : Bool) × (o ≡ Some (boolean value))) → is_some (nullable_said o) ≡ true
is_nullable o (inl e) = rw e refl
is_nullable o (inr (b, e)) = rw e refl

field_from_test : (field : Data) → is_field field ≡ true → IsField field
unfolding is_field nullable_of
field_from_test field e =
    let parts = both (is_some (text_at (codes "name") field)) (is_some (nullable_said (get (codes "nullable") field))) e in
    record { name = named (get (codes "name") field) parts.0; nullable = nullable (get (codes "nullable") field) parts.1 }

test_from_field : (field : Data) → IsField field → is_field field ≡ true
unfolding is_field nullable_of
test_from_field field h = rw (h.name.1, is_nullable (get (codes "nullable") field) h.nullable) refl

fields_from_test : (fields : List Data) → list_all is_field fields ≡ true → All IsField fields
fields_from_test [] e k d below = absurd (omega (arith, below))
fields_from_test (x ∷ xs) e zero d below = field_from_test x (both (is_field x) (list_all is_field xs) e).0
fields_from_test (x ∷ xs) e (suc k) d below = fields_from_test xs (both (is_field x) (list_all is_field xs) e).1 k d (omega (arith, below))

test_from_fields : (fields : List Data) → All IsField fields → list_all is_field fields ≡ true
test_from_fields [] h = refl
test_from_fields (x ∷ xs) h =
    let first = test_from_field x (h 0 x (let here : 0 < length (x ∷ xs) = omega arith in here)) in
    let rest = test_from_fields xs (λ (k : ℕ) (d : Data) (below : k < length xs). h (suc k) d (let next : suc k < length (x ∷ xs) = omega (arith, below) in next)) in
    rw (first, rest) refl

-- ---- structs

-- what stands under "type" and "fields", where there are fields
record HasFields (o p : Option Data) (fields : List Data) : Type 0 where
  type : o ≡ Some (string (codes "struct"))
  items : Items
  list : p ≡ Some (array items)
  same : fields ≡ items_in items

some_same : (xs ys : List Data) → Some xs ≡ Some ys → xs ≡ ys
some_same xs ys e = cc

listed : (p : Option Data) (fields : List Data) → option_map items_in (option_and_then as_array p) ≡ Some fields → (items : Items) × ((p ≡ Some (array items)) × (fields ≡ items_in items))
listed None fields e = cc
listed (Some null) fields e = cc
listed (Some (boolean b)) fields e = cc
listed (Some (number n)) fields e = cc
listed (Some (string s)) fields e = cc
listed (Some (array ds)) fields e = (ds, (refl, sym (some_same (items_in ds) fields e)))
listed (Some (object ms)) fields e = cc

struct_if : (s : List ℕ) (found : Option (List Data)) (test : Bool) (fields : List Data) → test ≡ bytes_eq s (codes "struct") → cond test found None ≡ Some fields → (s ≡ codes "struct") × (found ≡ Some fields)
struct_if s found true fields is e = ((bytes_eq-Decides s (codes "struct")).0 (sym is), e)
struct_if s found false fields is e = cc

has_fields : (o p : Option Data) (fields : List Data) → fields_if (option_and_then as_str o) (option_map items_in (option_and_then as_array p)) ≡ Some fields → HasFields o p fields
has_fields None p fields e = cc
has_fields (Some null) p fields e = cc
has_fields (Some (boolean b)) p fields e = cc
has_fields (Some (number n)) p fields e = cc
has_fields (Some (array ds)) p fields e = cc
has_fields (Some (object ms)) p fields e = cc
has_fields (Some (string s)) p fields e =
    let parts = struct_if s (option_map items_in (option_and_then as_array p)) _ fields refl e in
    let found = listed p fields parts.1 in
    record { type = ap (λ (t : List ℕ). Some (string t)) parts.0; items = found.0; list = found.1.0; same = found.1.1 }

not_refused : (place : Option ℕ) (fields : List Data) → columns_or place fields ≡ Err SchemaFault.NotStruct → ⊥
not_refused None fields e = cc
not_refused (Some place) fields e = cc

struct_is_read : (d : Data) → IsStruct d → schema_of d ≡ Err SchemaFault.NotStruct → ⊥
unfolding struct_fields
struct_is_read d h e =
    let fields = items_in h.fields.0 in
    let found : struct_fields d ≡ Some fields = rw (h.type, h.fields.1.0) refl in
    not_refused (position (λ field. is_none (kind_of field)) fields) fields (sym (rw (test_from_fields fields h.fields.1.1) refl) ∙ ap columns_if (sym found) ∙ e)

refused_or_struct : (d : Data) (o : Option (List Data)) → struct_fields d ≡ o → (columns_if o ≡ Err SchemaFault.NotStruct) ⊎ IsStruct d
unfolding struct_fields
refused_or_struct d None e = inl refl
refused_or_struct d (Some fields) e = by (true_or_false (list_all is_field fields))
  where
    by : (list_all is_field fields ≡ true) ⊎ (list_all is_field fields ≡ false) → (columns_if (Some fields) ≡ Err SchemaFault.NotStruct) ⊎ IsStruct d
    by (inr unlike) = inl (rw unlike refl)
    by (inl all) =
        let has = has_fields (get (codes "type") d) (get (codes "fields") d) fields e in
        inr (record { type = has.type; fields = (has.items, (has.list, fields_from_test (items_in has.items) (subst (λ (xs : List Data). list_all is_field xs ≡ true) has.same all))) })

pub no_struct_refused : NoStructIsRefused
no_struct_refused d = (
  (λ (e : schema_of d ≡ Err SchemaFault.NotStruct) (h : IsStruct d). struct_is_read d h e),
  λ (none : IsStruct d → ⊥). by (refused_or_struct d (struct_fields d) refl) none,
)
  where
    by : (schema_of d ≡ Err SchemaFault.NotStruct) ⊎ IsStruct d → (IsStruct d → ⊥) → schema_of d ≡ Err SchemaFault.NotStruct
    by (inl e) none = e
    by (inr h) none = absurd (none h)
