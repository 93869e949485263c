-- Tables aren't read exactly where a row of the format's list says why.
use Rattle.std.proofs.Common.{◌≡◌, ◌≢◌, ℕ, zero, suc, ◌+◌, ◌<◌, ◌≤◌, ◌⊎◌, inl, inr, Bool, true, false, not, cond, eqb, ◌||◌, List, [], Option, None, Some, Result, Ok, Err, arith, refl, ap, ◌∙◌, subst, sym}
use Rattle.std.specs.Prelude.{ℤ, pos, ◌<ℤ◌, unwrap_or, is_some, option_map, IsUtf8, if◌then◌else◌, ◌==◌}
use Rattle.std.specs.Result.{result_ok}
use Rattle.std.specs.Ordering.{int_eq}
use Rattle.std.proofs.lemmas.Bool.{eqb-true, eqb-false, ne_eqb, cases_lt}
use Rattle.std.proofs.lemmas.Int.{ints}
use Rattle.std.proofs.lemmas.Option.{same_Some}
use Rattle.cn_types.specs.declared.value.DataType.{DataType}
use Rattle.cn_types.specs.declared.value.DataType.TheVariants as K
use Rattle.cn_types.specs.declared.schema.Field.{Field}
use Rattle.flat_tables.specs.declared.fault.FlatFault.{FlatFault}
use Rattle.flat_tables.specs.Views.{TableView, VectorView}
use Rattle.flat_tables.specs.Reading.{field_at, named_table, u8_field, i16_field, i32_field, i64_field, table_field, text_field, vector_field, item_table}
use Rattle.arrow_ipc.specs.Holds.{or_absent, IsVersion, IsOfType, FieldHolds}
use Rattle.arrow_read.specs.declared.head.Head.{Head}
use Rattle.arrow_read.specs.declared.batch.BatchTables.{BatchTables}
use Rattle.arrow_read.specs.Tables.{◌>>=◌, not_negative, utf8, presence, is_version, head_in, FieldView, int_kind, date_kind, plain_kind, kind_in, type_in, has_item, plain_type_in, field_in, fields_from, schema_in, first_header, batch_in, later_header}
use Rattle.arrow_read.specs.BadTables.{IsOutside, MessageBad, HeadBad, TypeBad, FieldBad, SchemaBad, FirstBad, BatchBad, LaterBad, FirstOther, LaterOther, OtherKind, OfOtherType, BadTablesAreTold}
use Rattle.arrow_read.specs.BadTables.{version_outside, number_outside, header_outside, size_outside, no_header, negative_size, other_version, message_outside, bad_message}
use Rattle.arrow_read.specs.BadTables.{width_outside, sign_outside, unit_outside, name_outside, nullable_outside, kind_outside, type_outside, dictionary_outside, children_outside, no_type, bad_type, no_text}
use Rattle.arrow_read.specs.BadTables.{endianness_outside, fields_outside, no_fields, item_outside, bad_field, a_batch, bad_schema, length_outside, nodes_outside, buffers_outside, compression_outside, negative_length, a_schema, bad_batch}
use Rattle.arrow_read.specs.BadTables.{other_header, big_endian}
use Rattle.arrow_read.specs.BadTables.{unsigned, other_width, other_unit, other_number, has_dictionary, has_children, of_other_kind}
use Rattle.arrow_read.proofs.Chains.{same_Ok, ok_of, or_absent_is, is_or_absent, not_negative_is, is_not_negative, negative_is, same_int}
use Rattle.arrow_read.proofs.Steps.{bind_some}
use Rattle.arrow_read.proofs.Texts.{utf8_is, is_utf8_text}
use Rattle.arrow_read.proofs.Heads.{HeadIs, head_is, of_version}
use Rattle.arrow_read.proofs.FieldLaws.{field_holds}

-- ---- steps that may give none

-- a chain gives none where its first step does, or where the others do
step : {A B G : Type 0} → (o : Option A) (f : A → Option B) → (o >>= f) ≡ None → (o ≡ None → G) → ((x : A) → o ≡ Some x → f x ≡ None → G) → G
step None f h none some = none refl
step (Some x) f h none some = some x refl h

outside_of : {A : Type 0} → (r : Result A FlatFault) → result_ok r ≡ None → IsOutside r
outside_of (Ok x) h = absurd (cc)
outside_of (Err e) h = (e, refl)

out_ok : {A : Type 0} → (r : Result A FlatFault) (x : A) → r ≡ Ok x → IsOutside r → ⊥
out_ok r x e o = let f = o.1 in cc

out_absent : {A : Type 0} → (d : A) (r : Result (Option A) FlatFault) (x : A) → or_absent d r ≡ Ok x → IsOutside r → ⊥
out_absent d r x e o = let s = is_or_absent d r x e in out_ok r s.0 s.1 o

none_some : {A : Type 0} → (o : Option A) (x : A) → o ≡ None → o ≡ Some x → ⊥
none_some o x e f = cc

presence_none : (t : TableView) (slot : ℕ) → presence t slot ≡ None → IsOutside (field_at t.buffer t.place slot)
unfolding presence
presence_none t slot h = by_field (field_at t.buffer t.place slot) h
  where
    by_field : (r : Result (Option ℕ) FlatFault) → option_map is_some (result_ok r) ≡ None → IsOutside r
    by_field (Ok o) k = absurd (cc)
    by_field (Err e) k = (e, refl)

none_presence : (t : TableView) (slot : ℕ) → IsOutside (field_at t.buffer t.place slot) → presence t slot ≡ None
unfolding presence
none_presence t slot o = rw o.1 refl

presence_there : (t : TableView) (slot : ℕ) → presence t slot ≡ Some true → (place : ℕ) × (field_at t.buffer t.place slot ≡ Ok (Some place))
unfolding presence
presence_there t slot h = by_field (field_at t.buffer t.place slot) h
  where
    by_field : (r : Result (Option ℕ) FlatFault) → option_map is_some (result_ok r) ≡ Some true → (place : ℕ) × (r ≡ Ok (Some place))
    by_field (Ok (Some place)) k = (place, refl)
    by_field (Ok None) k = absurd (cc)
    by_field (Err e) k = absurd (cc)

-- a number that is negative is there
negative_of : (r : Result (Option ℤ) FlatFault) (o : Option ℤ) → r ≡ Ok o → not_negative (unwrap_or o (pos 0)) ≡ None → (z : ℤ) × (r ≡ Ok (Some z)) × (z <ℤ pos 0)
negative_of r (Some z) e h = (z, e, negative_is z h)
negative_of r None e h = absurd (none_some (not_negative (pos 0)) 0 h (is_not_negative 0))

no_negative : (z : ℤ) (n : ℕ) → z ≡ pos n → z <ℤ pos 0 → ⊥
no_negative z n e l = omega (arith, ints, e, l)

cond_none : {A : Type 0} → (b : Bool) (x : A) → cond b (Some x) None ≡ None → b ≡ false
cond_none true x h = absurd (cc)
cond_none false x h = refl

same_tests : (b : Bool) → b ≡ true → b ≡ false → ⊥
same_tests b e f = cc

-- ---- Message

version_bad : (t : TableView) (o : Option ℤ) → i16_field t 0 ≡ Ok o → is_version (unwrap_or o (pos 0)) ≡ false → MessageBad t
version_bad t o e h =
    let z : ℤ = unwrap_or o (pos 0) in
    other_version z (or_absent_is (pos 0) (i16_field t 0) o z e refl) (λ v. same_tests (is_version z) (of_version z (inl v)) h) (λ v. same_tests (is_version z) (of_version z (inr v)) h)

pub head_bad : (metadata : List ℕ) → head_in metadata ≡ None → HeadBad metadata
unfolding head_in
head_bad metadata h =
    step (result_ok (named_table metadata 0)) _ h (λ e. message_outside (outside_of (named_table metadata 0) e)) (λ t et h1.
    let bad : MessageBad t → HeadBad metadata = bad_message t (ok_of (named_table metadata 0) t et) in
    step (result_ok (i16_field t 0)) _ h1 (λ e. bad (version_outside (outside_of (i16_field t 0) e))) (λ version ev h2.
    step (result_ok (u8_field t 1)) _ h2 (λ e. bad (number_outside (outside_of (u8_field t 1) e))) (λ number en h3.
    step (result_ok (table_field t 2)) _ h3 (λ e. bad (header_outside (outside_of (table_field t 2) e))) (λ named eh h4.
    step (result_ok (i64_field t 3)) _ h4 (λ e. bad (size_outside (outside_of (i64_field t 3) e))) (λ size es h5.
    step named _ h5 (λ e. bad (no_header (ok_of (table_field t 2) named eh ∙ ap (λ z. Ok z) e))) (λ header ed h6.
    step (not_negative (unwrap_or size (pos 0))) _ h6 (λ e. let n = negative_of (i64_field t 3) size (ok_of (i64_field t 3) size es) e in bad (negative_size n.0 n.1 n.2)) (λ body eb h7.
    bad (version_bad t version (ok_of (i16_field t 0) version ev) (cond_none (is_version (unwrap_or version (pos 0))) _ h7)))))))))

message_read : (t : TableView) (number body : ℕ) (header : TableView) → IsVersion (i16_field t 0) → or_absent 0 (u8_field t 1) ≡ Ok number → table_field t 2 ≡ Ok (Some header) → or_absent (pos 0) (i64_field t 3) ≡ Ok (pos body) → MessageBad t → ⊥
message_read t number body header v n h s (version_outside o) = elim v [ inl e ↦ out_absent (pos 0) (i16_field t 0) (pos 3) e o | inr e ↦ out_absent (pos 0) (i16_field t 0) (pos 4) e o ]
message_read t number body header v n h s (number_outside o) = out_absent 0 (u8_field t 1) number n o
message_read t number body header v n h s (header_outside o) = out_ok (table_field t 2) (Some header) h o
message_read t number body header v n h s (size_outside o) = out_absent (pos 0) (i64_field t 3) (pos body) s o
message_read t number body header v n h s (no_header e) = let same : Some header ≡ None = same_Ok (Some header) None (sym h ∙ e) in cc
message_read t number body header v n h s (negative_size z e l) = no_negative z body (same_Ok z (pos body) (sym (ap (or_absent (pos 0)) e) ∙ s)) l
message_read t number body header v n h s (other_version z e a b) = elim v [ inl f ↦ a (same_Ok z (pos 3) (sym e ∙ f)) | inr f ↦ b (same_Ok z (pos 4) (sym e ∙ f)) ]

pub bad_head : (metadata : List ℕ) → HeadBad metadata → head_in metadata ≡ None
bad_head metadata bad = by_head (head_in metadata) refl bad
  where
    no_head : (head : Head) → HeadIs metadata head → HeadBad metadata → ⊥
    no_head head h (message_outside o) = out_ok (named_table metadata 0) h.table h.table_is o
    no_head head h (bad_message t e m) =
        let same : t ≡ h.table = same_Ok t h.table (sym e ∙ h.table_is) in
        message_read h.table head.number head.body head.header h.version h.number_is h.header_is h.body_size (subst MessageBad same m)

    by_head : (o : Option Head) → head_in metadata ≡ o → HeadBad metadata → head_in metadata ≡ None
    by_head None e b = e
    by_head (Some head) e b = absurd (no_head head (head_is metadata head e) b)

-- ---- Field

type_bad : (number : ℕ) (table : TableView) → kind_in number table ≡ None → TypeBad number table
unfolding kind_in
type_bad number table h = by_int (eqb number 2) refl h
  where
    by_date : (b : Bool) → eqb number 8 ≡ b → (if b then kind_in 8 table else Some (plain_kind number)) ≡ None → TypeBad number table
    by_date true e g = step (result_ok (i16_field table 0)) _ g (λ x. unit_outside (eqb-true number 8 e) (outside_of (i16_field table 0) x)) (λ u eu g1. absurd (cc))
    by_date false e g = absurd (cc)

    by_int : (b : Bool) → eqb number 2 ≡ b → (if b then kind_in 2 table else (if number == 8 then kind_in 8 table else Some (plain_kind number))) ≡ None → TypeBad number table
    by_int true e g =
        step (result_ok (i32_field table 0)) _ g (λ x. width_outside (eqb-true number 2 e) (outside_of (i32_field table 0) x)) (λ w ew g1.
        step (result_ok (u8_field table 1)) _ g1 (λ x. sign_outside (eqb-true number 2 e) (outside_of (u8_field table 1) x)) (λ s es g2. absurd (cc)))
    by_int false e g = by_date (eqb number 8) refl g

type_in_bad : (t : TableView) → type_in t ≡ None → FieldBad t
unfolding type_in
type_in_bad t h =
    step (result_ok (u8_field t 2)) _ h (λ e. kind_outside (outside_of (u8_field t 2) e)) (λ number en h1.
    step (result_ok (table_field t 3)) _ h1 (λ e. type_outside (outside_of (table_field t 3) e)) (λ named et h2.
    step named _ h2 (λ e. no_type (ok_of (table_field t 3) named et ∙ ap (λ z. Ok z) e)) (λ table ea h3.
    bad_type (unwrap_or number 0) table (or_absent_is 0 (u8_field t 2) number (unwrap_or number 0) (ok_of (u8_field t 2) number en) refl)
    (ok_of (table_field t 3) named et ∙ ap (λ z. Ok z) ea) (type_bad (unwrap_or number 0) table h3))))

plain_bad : (t : TableView) → plain_type_in t ≡ None → FieldBad t
unfolding plain_type_in
plain_bad t h =
    step (type_in t) _ h (λ e. type_in_bad t e) (λ kind ek h1.
    step (presence t 4) _ h1 (λ e. dictionary_outside (presence_none t 4 e)) (λ dictionary ed h2.
    step (result_ok (vector_field t 5 4)) _ h2 (λ e. children_outside (outside_of (vector_field t 5 4) e)) (λ children ec h3. absurd (cc))))

text_bad : (t : TableView) (bytes : Option (List ℕ)) → text_field t 0 ≡ Ok bytes → utf8 (unwrap_or bytes []) ≡ None → FieldBad t
text_bad t bytes e h =
    let name : List ℕ = unwrap_or bytes [] in
    no_text name (or_absent_is [] (text_field t 0) bytes name e refl) (λ u. none_some (utf8 name) name h (is_utf8_text name u))

-- why a field isn't read
abbrev FieldMissing : VectorView → ℕ → Type 0
FieldMissing v place = IsOutside (item_table v place) ⊎ ((t : TableView) × (item_table v place ≡ Ok t) × FieldBad t)

field_bad : (v : VectorView) (place : ℕ) → field_in v place ≡ None → FieldMissing v place
unfolding field_in
field_bad v place h =
    step (result_ok (item_table v place)) _ h (λ e. inl (outside_of (item_table v place) e)) (λ t et h1.
    let bad : FieldBad t → FieldMissing v place = λ b. inr (t, ok_of (item_table v place) t et, b) in
    step (result_ok (text_field t 0)) _ h1 (λ e. bad (name_outside (outside_of (text_field t 0) e))) (λ bytes en h2.
    step (result_ok (u8_field t 1)) _ h2 (λ e. bad (nullable_outside (outside_of (u8_field t 1) e))) (λ nullable eb h3.
    step (plain_type_in t) _ h3 (λ e. bad (plain_bad t e)) (λ kind ek h4.
    step (utf8 (unwrap_or bytes [])) _ h4 (λ e. bad (text_bad t bytes (ok_of (text_field t 0) bytes en) e)) (λ name eu h5. absurd (cc))))))

-- what is read of a field
record FieldSeen (t : TableView) (x : FieldView) : Type 0 where
  bytes : Option (List ℕ)
  nullable : Option ℕ
  number : Option ℕ
  table : TableView
  kind : Option DataType
  dictionary : Bool
  children : Option VectorView
  bytes_are : text_field t 0 ≡ Ok bytes
  nullable_is : u8_field t 1 ≡ Ok nullable
  number_is : u8_field t 2 ≡ Ok number
  type_is : table_field t 3 ≡ Ok (Some table)
  kind_is : kind_in (unwrap_or number 0) table ≡ Some kind
  dictionary_is : presence t 4 ≡ Some dictionary
  children_are : vector_field t 5 4 ≡ Ok children
  name_is : IsUtf8 (unwrap_or bytes [])
  seen : (if dictionary || has_item children then None else kind) ≡ x.kind

field_seen : (v : VectorView) (place : ℕ) (x : FieldView) (t : TableView) → field_in v place ≡ Some x → item_table v place ≡ Ok t → FieldSeen t x
unfolding field_in plain_type_in type_in
field_seen v place x t h e =
    let (found, et, h1) = bind_some (result_ok (item_table v place)) _ x h in
    let same : found ≡ t = same_Ok found t (sym (ok_of (item_table v place) found et) ∙ e) in
    let (bytes, en, h2) = bind_some (result_ok (text_field found 0)) _ x h1 in
    let (nullable, eb, h3) = bind_some (result_ok (u8_field found 1)) _ x h2 in
    let (kind, ek, h4) = bind_some (plain_type_in found) _ x h3 in
    let (name, eu, h5) = bind_some (utf8 (unwrap_or bytes [])) _ x h4 in
    let (of, eo, k1) = bind_some (type_in found) _ kind ek in
    let (dictionary, ed, k2) = bind_some (presence found 4) _ kind k1 in
    let (children, ec, k3) = bind_some (result_ok (vector_field found 5 4)) _ kind k2 in
    let (number, ei, l1) = bind_some (result_ok (u8_field found 2)) _ of eo in
    let (named, ey, l2) = bind_some (result_ok (table_field found 3)) _ of l1 in
    let (table, ea, l3) = bind_some named _ of l2 in
    let is : record { name = name; nullable = not (unwrap_or nullable 0 == 0); kind = kind } ≡ x = same_Some _ x h5 in
    let text = utf8_is (unwrap_or bytes []) name eu in
    subst (λ (z : TableView). FieldSeen z x) same (record {
      bytes = bytes;
      nullable = nullable;
      number = number;
      table = table;
      kind = of;
      dictionary = dictionary;
      children = children;
      bytes_are = ok_of (text_field found 0) bytes en;
      nullable_is = ok_of (u8_field found 1) nullable eb;
      number_is = ok_of (u8_field found 2) number ei;
      type_is = ok_of (table_field found 3) named ey ∙ ap (λ z. Ok z) ea;
      kind_is = l3;
      dictionary_is = ed;
      children_are = ok_of (vector_field found 5 4) children ec;
      name_is = subst IsUtf8 (sym text.0) text.1;
      seen = same_Some _ kind k3 ∙ ap (λ (z : FieldView). z.kind) is;
    })

type_read : (number : ℕ) (table : TableView) (kind : Option DataType) → kind_in number table ≡ Some kind → TypeBad number table → ⊥
unfolding kind_in
type_read number table kind h (width_outside e o) =
    let k : kind_in 2 table ≡ Some kind = subst (λ (n : ℕ). kind_in n table ≡ Some kind) e h in
    let a = bind_some (result_ok (i32_field table 0)) _ kind k in
    out_ok (i32_field table 0) a.0 (ok_of (i32_field table 0) a.0 a.1) o
type_read number table kind h (sign_outside e o) =
    let k : kind_in 2 table ≡ Some kind = subst (λ (n : ℕ). kind_in n table ≡ Some kind) e h in
    let a = bind_some (result_ok (i32_field table 0)) _ kind k in
    let b = bind_some (result_ok (u8_field table 1)) _ kind a.2 in
    out_ok (u8_field table 1) b.0 (ok_of (u8_field table 1) b.0 b.1) o
type_read number table kind h (unit_outside e o) =
    let k : kind_in 8 table ≡ Some kind = subst (λ (n : ℕ). kind_in n table ≡ Some kind) e h in
    let a = bind_some (result_ok (i16_field table 0)) _ kind k in
    out_ok (i16_field table 0) a.0 (ok_of (i16_field table 0) a.0 a.1) o

-- the number and the table that a row names are those that are read
same_number : (t : TableView) (o : Option ℕ) (number : ℕ) → u8_field t 2 ≡ Ok o → or_absent 0 (u8_field t 2) ≡ Ok number → unwrap_or o 0 ≡ number
same_number t o number e h = same_Ok (unwrap_or o 0) number (sym (or_absent_is 0 (u8_field t 2) o (unwrap_or o 0) e refl) ∙ h)

same_table : (r : Result (Option TableView) FlatFault) (a b : TableView) → r ≡ Ok (Some a) → r ≡ Ok (Some b) → a ≡ b
same_table r a b e f = same_Some a b (same_Ok (Some a) (Some b) (sym e ∙ f))

field_no : (t : TableView) (x : FieldView) → FieldSeen t x → FieldBad t → ⊥
field_no t x s (name_outside o) = out_ok (text_field t 0) s.bytes s.bytes_are o
field_no t x s (nullable_outside o) = out_ok (u8_field t 1) s.nullable s.nullable_is o
field_no t x s (kind_outside o) = out_ok (u8_field t 2) s.number s.number_is o
field_no t x s (type_outside o) = out_ok (table_field t 3) (Some s.table) s.type_is o
field_no t x s (dictionary_outside o) = none_some (presence t 4) s.dictionary (none_presence t 4 o) s.dictionary_is
field_no t x s (children_outside o) = out_ok (vector_field t 5 4) s.children s.children_are o
field_no t x s (no_type e) = none_some None s.table refl (same_Ok None (Some s.table) (sym e ∙ s.type_is))
field_no t x s (bad_type number table n e b) =
    let here : number ≡ unwrap_or s.number 0 = sym (same_number t s.number number s.number_is n) in
    let there : table ≡ s.table = same_table (table_field t 3) table s.table e s.type_is in
    type_read (unwrap_or s.number 0) s.table s.kind s.kind_is (subst (λ (n : ℕ). TypeBad n s.table) here (subst (TypeBad number) there b))
field_no t x s (no_text name e n) =
    let same : unwrap_or s.bytes [] ≡ name = same_Ok (unwrap_or s.bytes []) name (sym (or_absent_is [] (text_field t 0) s.bytes (unwrap_or s.bytes []) s.bytes_are refl) ∙ e) in
    n (subst IsUtf8 same s.name_is)

-- ---- Schema

fields_bad : (v : VectorView) (start count : ℕ) → fields_from v start count ≡ None → (place : ℕ) × (place < start + count) × (field_in v place ≡ None)
fields_bad v start zero h = absurd (cc)
fields_bad v start (suc count) h =
    step (field_in v start) _ h (λ e. (start, omega arith, e)) (λ x ex h1.
    step (fields_from v (start + 1) count) _ h1 (λ e. let r = fields_bad v (start + 1) count e in (r.0, omega (arith, r.1), r.2)) (λ more em h2. absurd (cc)))

fields_at : (v : VectorView) (start count place : ℕ) (xs : List FieldView) → fields_from v start count ≡ Some xs → start ≤ place → place < start + count → (x : FieldView) × (field_in v place ≡ Some x)
fields_at v start zero place xs h low high = absurd (omega arith)
fields_at v start (suc count) place xs h low high =
    let (x, ex, h1) = bind_some (field_in v start) _ xs h in
    let (more, em, h2) = bind_some (fields_from v (start + 1) count) _ xs h1 in
    elim (cases_lt start place) [
      | inl l ↦ fields_at v (start + 1) count place more em (omega arith) (omega arith)
      | inr l ↦ let here : start ≡ place = omega arith in (x, subst (λ (n : ℕ). field_in v n ≡ Some x) here ex)
    ]

schema_bad : (t : TableView) → schema_in t ≡ None → SchemaBad t
unfolding schema_in
schema_bad t h =
    step (result_ok (i16_field t 0)) _ h (λ e. endianness_outside (outside_of (i16_field t 0) e)) (λ endianness ee h1.
    step (result_ok (vector_field t 1 4)) _ h1 (λ e. fields_outside (outside_of (vector_field t 1 4) e)) (λ named en h2.
    step named _ h2 (λ e. no_fields (ok_of (vector_field t 1 4) named en ∙ ap (λ z. Ok z) e)) (λ v ev h3.
    step (fields_from v 0 v.count) _ h3 (λ e. of_field v (ok_of (vector_field t 1 4) named en ∙ ap (λ z. Ok z) ev) (fields_bad v 0 v.count e)) (λ fields ef h4. absurd (cc)))))
  where
    of_field : (v : VectorView) → vector_field t 1 4 ≡ Ok (Some v) → (place : ℕ) × (place < 0 + v.count) × (field_in v place ≡ None) → SchemaBad t
    of_field v e (place, l, n) = elim (field_bad v place n) [
      | inl o ↦ item_outside v place e (omega arith) o
      | inr b ↦ bad_field v place b.0 e (omega arith) b.1 b.2
    ]

-- a schema's fields are all read
read_field : (v : VectorView) (place : ℕ) (fields : List FieldView) → fields_from v 0 v.count ≡ Some fields → place < v.count → (t : TableView) × (x : FieldView) × (item_table v place ≡ Ok t) × FieldSeen t x
unfolding field_in
read_field v place fields h l =
    let f = fields_at v 0 v.count place fields h (omega arith) (omega arith) in
    let (t, et, h1) = bind_some (result_ok (item_table v place)) _ f.0 f.1 in
    (t, f.0, ok_of (item_table v place) t et, field_seen v place f.0 t f.1 (ok_of (item_table v place) t et))

schema_no : (t : TableView) (endianness : Option ℤ) (v : VectorView) (fields : List FieldView) → i16_field t 0 ≡ Ok endianness → vector_field t 1 4 ≡ Ok (Some v) → fields_from v 0 v.count ≡ Some fields → SchemaBad t → ⊥
schema_no t endianness v fields ee en ef (endianness_outside o) = out_ok (i16_field t 0) endianness ee o
schema_no t endianness v fields ee en ef (fields_outside o) = out_ok (vector_field t 1 4) (Some v) en o
schema_no t endianness v fields ee en ef (no_fields e) = none_some None v refl (same_Ok None (Some v) (sym e ∙ en))
schema_no t endianness v fields ee en ef (item_outside w place e l o) =
    let same : w ≡ v = same_Some w v (same_Ok (Some w) (Some v) (sym e ∙ en)) in
    let below : place < v.count = subst (λ (u : VectorView). place < u.count) same l in
    let r = read_field v place fields ef below in
    out_ok (item_table v place) r.0 r.2 (subst (λ (u : VectorView). IsOutside (item_table u place)) same o)
schema_no t endianness v fields ee en ef (bad_field w place f e l i b) =
    let same : w ≡ v = same_Some w v (same_Ok (Some w) (Some v) (sym e ∙ en)) in
    let below : place < v.count = subst (λ (u : VectorView). place < u.count) same l in
    let r = read_field v place fields ef below in
    let item : item_table v place ≡ Ok f = subst (λ (u : VectorView). item_table u place ≡ Ok f) same i in
    let table : f ≡ r.0 = same_Ok f r.0 (sym item ∙ r.2) in
    field_no r.0 r.1 r.3 (subst FieldBad table b)

bad_schema_none : (t : TableView) → SchemaBad t → schema_in t ≡ None
unfolding schema_in
bad_schema_none t bad = by_schema (schema_in t) refl bad
  where
    read : (seen : Option (List FieldView)) → schema_in t ≡ Some seen → SchemaBad t → ⊥
    read seen h b =
        let (endianness, ee, h1) = bind_some (result_ok (i16_field t 0)) _ seen h in
        let (named, en, h2) = bind_some (result_ok (vector_field t 1 4)) _ seen h1 in
        let (v, ev, h3) = bind_some named _ seen h2 in
        let (fields, ef, h4) = bind_some (fields_from v 0 v.count) _ seen h3 in
        schema_no t endianness v fields (ok_of (i16_field t 0) endianness ee) (ok_of (vector_field t 1 4) named en ∙ ap (λ z. Ok z) ev) ef b

    by_schema : (o : Option (Option (List FieldView))) → schema_in t ≡ o → SchemaBad t → schema_in t ≡ None
    by_schema None e b = e
    by_schema (Some seen) e b = absurd (read seen e b)

-- ---- RecordBatch

batch_bad : (t : TableView) → batch_in t ≡ None → BatchBad t
unfolding batch_in
batch_bad t h =
    step (result_ok (i64_field t 0)) _ h (λ e. length_outside (outside_of (i64_field t 0) e)) (λ long el h1.
    step (not_negative (unwrap_or long (pos 0))) _ h1 (λ e. let n = negative_of (i64_field t 0) long (ok_of (i64_field t 0) long el) e in negative_length n.0 n.1 n.2) (λ count ec h2.
    step (result_ok (vector_field t 1 16)) _ h2 (λ e. nodes_outside (outside_of (vector_field t 1 16) e)) (λ nodes en h3.
    step (result_ok (vector_field t 2 16)) _ h3 (λ e. buffers_outside (outside_of (vector_field t 2 16) e)) (λ spans es h4.
    step (presence t 3) _ h4 (λ e. compression_outside (presence_none t 3 e)) (λ compressed ep h5. absurd (cc))))))

batch_no : (t : TableView) (long : Option ℤ) (count : ℕ) (nodes spans : Option VectorView) (compressed : Bool) → i64_field t 0 ≡ Ok long → not_negative (unwrap_or long (pos 0)) ≡ Some count → vector_field t 1 16 ≡ Ok nodes
    → vector_field t 2 16 ≡ Ok spans → presence t 3 ≡ Some compressed → BatchBad t → ⊥
batch_no t long count nodes spans compressed el ec en es ep (length_outside o) = out_ok (i64_field t 0) long el o
batch_no t long count nodes spans compressed el ec en es ep (nodes_outside o) = out_ok (vector_field t 1 16) nodes en o
batch_no t long count nodes spans compressed el ec en es ep (buffers_outside o) = out_ok (vector_field t 2 16) spans es o
batch_no t long count nodes spans compressed el ec en es ep (compression_outside o) = none_some (presence t 3) compressed (none_presence t 3 o) ep
batch_no t long count nodes spans compressed el ec en es ep (negative_length z e l) =
    let same : long ≡ Some z = same_Ok long (Some z) (sym el ∙ e) in
    no_negative z count (not_negative_is z count (subst (λ (o : Option ℤ). not_negative (unwrap_or o (pos 0)) ≡ Some count) same ec)) l

bad_batch_none : (t : TableView) → BatchBad t → batch_in t ≡ None
unfolding batch_in
bad_batch_none t bad = by_batch (batch_in t) refl bad
  where
    read : (batch : BatchTables) → batch_in t ≡ Some batch → BatchBad t → ⊥
    read batch h b =
        let (long, el, h1) = bind_some (result_ok (i64_field t 0)) _ batch h in
        let (count, ec, h2) = bind_some (not_negative (unwrap_or long (pos 0))) _ batch h1 in
        let (nodes, en, h3) = bind_some (result_ok (vector_field t 1 16)) _ batch h2 in
        let (spans, es, h4) = bind_some (result_ok (vector_field t 2 16)) _ batch h3 in
        let (compressed, ep, h5) = bind_some (presence t 3) _ batch h4 in
        batch_no t long count nodes spans compressed (ok_of (i64_field t 0) long el) ec (ok_of (vector_field t 1 16) nodes en) (ok_of (vector_field t 2 16) spans es) ep b

    by_batch : (o : Option BatchTables) → batch_in t ≡ o → BatchBad t → batch_in t ≡ None
    by_batch None e b = e
    by_batch (Some batch) e b = absurd (read batch e b)

-- ---- headers

pub first_bad : (head : Head) → first_header head ≡ None → FirstBad head
first_bad head h = by_schema (eqb head.number 1) refl h
  where
    by_batch : (b : Bool) → eqb head.number 3 ≡ b → cond {A = Option (Option (List FieldView))} b None (Some None) ≡ None → FirstBad head
    by_batch true e g = a_batch (eqb-true head.number 3 e)
    by_batch false e g = absurd (cc)

    by_schema : (b : Bool) → eqb head.number 1 ≡ b → cond b (schema_in head.header) (cond (eqb head.number 3) None (Some None)) ≡ None → FirstBad head
    by_schema true e g = bad_schema (eqb-true head.number 1 e) (schema_bad head.header g)
    by_schema false e g = by_batch (eqb head.number 3) refl g

pub bad_first : (head : Head) → FirstBad head → first_header head ≡ None
bad_first head (a_batch e) = rw e refl
bad_first head (bad_schema e b) = rw e (bad_schema_none head.header b)

pub later_bad : (head : Head) → later_header head ≡ None → LaterBad head
later_bad head h = by_batch (eqb head.number 3) refl h
  where
    of_batch : (o : Option BatchTables) → batch_in head.header ≡ o → option_map (λ b. Some b) o ≡ None → batch_in head.header ≡ None
    of_batch None e g = e
    of_batch (Some batch) e g = absurd (cc)

    by_schema : (b : Bool) → eqb head.number 1 ≡ b → cond {A = Option (Option BatchTables)} b None (Some None) ≡ None → LaterBad head
    by_schema true e g = a_schema (eqb-true head.number 1 e)
    by_schema false e g = absurd (cc)

    by_batch : (b : Bool) → eqb head.number 3 ≡ b → cond b (option_map (λ b. Some b) (batch_in head.header)) (cond (eqb head.number 1) None (Some None)) ≡ None → LaterBad head
    by_batch true e g = bad_batch (eqb-true head.number 3 e) (batch_bad head.header (of_batch (batch_in head.header) refl g))
    by_batch false e g = by_schema (eqb head.number 1) refl g

pub bad_later : (head : Head) → LaterBad head → later_header head ≡ None
bad_later head (a_schema e) = rw e refl
bad_later head (bad_batch e b) = rw e (ap (λ (o : Option BatchTables). option_map (λ b. Some b) o) (bad_batch_none head.header b))

-- ---- types

plain_none : (number : ℕ) → plain_kind number ≡ None → (number ≢ 5) × (number ≢ 6)
plain_none number h = by_text (eqb number 5) refl h
  where
    by_truth : (b : Bool) → eqb number 6 ≡ b → cond b (Some K.Boolean) None ≡ None → number ≢ 6
    by_truth true e g = absurd (cc)
    by_truth false e g = eqb-false number 6 e

    by_text : (b : Bool) → eqb number 5 ≡ b → cond b (Some K.Text) (cond (eqb number 6) (Some K.Boolean) None) ≡ None → (number ≢ 5) × (number ≢ 6)
    by_text true e g = absurd (cc)
    by_text false e g = (eqb-false number 5 e, by_truth (eqb number 6) refl g)

-- a number that isn't another
differs : (z w : ℤ) → int_eq z w ≡ false → int_eq w w ≡ true → z ≢ w
differs z w e same f = same_tests (int_eq z w) (subst (λ (u : ℤ). int_eq u w ≡ true) (sym f) same) e

int_none : (number : ℕ) (table : TableView) (w : Option ℤ) (s : Option ℕ) → number ≡ 2 → i32_field table 0 ≡ Ok w → u8_field table 1 ≡ Ok s → int_kind (unwrap_or w (pos 0)) (unwrap_or s 0) ≡ None → OtherKind number table
int_none number table w s two ew es h = by_sign (eqb signed 0) refl h
  where
    width : ℤ
    width = unwrap_or w (pos 0)

    signed : ℕ
    signed = unwrap_or s 0

    by_long : (b : Bool) → int_eq width (pos 64) ≡ b → cond b (Some K.Long) None ≡ None → width ≢ pos 32 → OtherKind number table
    by_long true e g n = absurd (cc)
    by_long false e g n = other_width width two (or_absent_is (pos 0) (i32_field table 0) w width ew refl) n (differs width (pos 64) e refl)

    by_width : (b : Bool) → int_eq width (pos 32) ≡ b → cond b (Some K.Integer) (cond (int_eq width (pos 64)) (Some K.Long) None) ≡ None → OtherKind number table
    by_width true e g = absurd (cc)
    by_width false e g = by_long (int_eq width (pos 64)) refl g (differs width (pos 32) e refl)

    by_sign : (b : Bool) → eqb signed 0 ≡ b → cond b None (cond (int_eq width (pos 32)) (Some K.Integer) (cond (int_eq width (pos 64)) (Some K.Long) None)) ≡ None → OtherKind number table
    by_sign true e g = unsigned two (or_absent_is 0 (u8_field table 1) s 0 es (eqb-true signed 0 e))
    by_sign false e g = by_width (int_eq width (pos 32)) refl g

date_none : (number : ℕ) (table : TableView) (u : Option ℤ) → number ≡ 8 → i16_field table 0 ≡ Ok u → date_kind (unwrap_or u (pos 1)) ≡ None → OtherKind number table
date_none number table u eight eu h = by_unit (int_eq (unwrap_or u (pos 1)) (pos 0)) refl h
  where
    by_unit : (b : Bool) → int_eq (unwrap_or u (pos 1)) (pos 0) ≡ b → cond b (Some K.Date) None ≡ None → OtherKind number table
    by_unit true e g = absurd (cc)
    by_unit false e g = other_unit (unwrap_or u (pos 1)) eight (or_absent_is (pos 1) (i16_field table 0) u (unwrap_or u (pos 1)) eu refl) (differs (unwrap_or u (pos 1)) (pos 0) e refl)

other_kind : (number : ℕ) (table : TableView) → kind_in number table ≡ Some None → OtherKind number table
unfolding kind_in
other_kind number table h = by_int (eqb number 2) refl h
  where
    by_date : (b : Bool) → eqb number 8 ≡ b → (if b then kind_in 8 table else Some (plain_kind number)) ≡ Some None → number ≢ 2 → OtherKind number table
    by_date true e g n =
        let a = bind_some (result_ok (i16_field table 0)) _ None g in
        date_none number table a.0 (eqb-true number 8 e) (ok_of (i16_field table 0) a.0 a.1) (same_Some _ None a.2)
    by_date false e g n = let p = plain_none number (same_Some (plain_kind number) None g) in other_number n p.0 p.1 (eqb-false number 8 e)

    by_int : (b : Bool) → eqb number 2 ≡ b → (if b then kind_in 2 table else (if number == 8 then kind_in 8 table else Some (plain_kind number))) ≡ Some None → OtherKind number table
    by_int true e g =
        let a = bind_some (result_ok (i32_field table 0)) _ None g in
        let b = bind_some (result_ok (u8_field table 1)) _ None a.2 in
        int_none number table a.0 b.0 (eqb-true number 2 e) (ok_of (i32_field table 0) a.0 a.1) (ok_of (u8_field table 1) b.0 b.1) (same_Some _ None b.2)
    by_int false e g = by_date (eqb number 8) refl g (eqb-false number 2 e)

-- what has one of the five types is of none of the others
no_kind : (k : DataType) (number : ℕ) (table : TableView) → IsOfType k number table → OtherKind number table → ⊥
no_kind K.Boolean number table h (unsigned e s) = omega (arith, h, e)
no_kind K.Boolean number table h (other_width w e f a b) = omega (arith, h, e)
no_kind K.Boolean number table h (other_unit u e f a) = omega (arith, h, e)
no_kind K.Boolean number table h (other_number a b c d) = c h
no_kind K.Integer number table h (unsigned e s) = h.signed.2 (same_Ok h.signed.0 0 (sym h.signed.1 ∙ s))
no_kind K.Integer number table h (other_width w e f a b) = a (same_Ok w (pos 32) (sym f ∙ h.width_is))
no_kind K.Integer number table h (other_unit u e f a) = omega (arith, h.is_int, e)
no_kind K.Integer number table h (other_number a b c d) = a h.is_int
no_kind K.Long number table h (unsigned e s) = h.signed.2 (same_Ok h.signed.0 0 (sym h.signed.1 ∙ s))
no_kind K.Long number table h (other_width w e f a b) = b (same_Ok w (pos 64) (sym f ∙ h.width_is))
no_kind K.Long number table h (other_unit u e f a) = omega (arith, h.is_int, e)
no_kind K.Long number table h (other_number a b c d) = a h.is_int
no_kind K.Text number table h (unsigned e s) = omega (arith, h, e)
no_kind K.Text number table h (other_width w e f a b) = omega (arith, h, e)
no_kind K.Text number table h (other_unit u e f a) = omega (arith, h, e)
no_kind K.Text number table h (other_number a b c d) = b h
no_kind K.Date number table h (unsigned e s) = omega (arith, h.is_date, e)
no_kind K.Date number table h (other_width w e f a b) = omega (arith, h.is_date, e)
no_kind K.Date number table h (other_unit u e f a) = a (same_Ok u (pos 0) (sym f ∙ h.unit_is))
no_kind K.Date number table h (other_number a b c d) = d h.is_date

-- ---- other headers

-- the numbers of a schema that is read
little : (t : TableView) (fields : List FieldView) → schema_in t ≡ Some (Some fields) → or_absent (pos 0) (i16_field t 0) ≡ Ok (pos 0)
unfolding schema_in
little t fields h =
    let (endianness, ee, h1) = bind_some (result_ok (i16_field t 0)) _ (Some fields) h in
    let (named, en, h2) = bind_some (result_ok (vector_field t 1 4)) _ (Some fields) h1 in
    let (v, ev, h3) = bind_some named _ (Some fields) h2 in
    let (found, ef, h4) = bind_some (fields_from v 0 v.count) _ (Some fields) h3 in
    let z : ℤ = unwrap_or endianness (pos 0) in
    or_absent_is (pos 0) (i16_field t 0) endianness (pos 0) (ok_of (i16_field t 0) endianness ee) (by_test z found (int_eq z (pos 0)) refl (same_Some _ (Some fields) h4))
  where
    by_test : (z : ℤ) (found : List FieldView) (b : Bool) → int_eq z (pos 0) ≡ b → cond b (Some found) None ≡ Some fields → z ≡ pos 0
    by_test z found true e g = same_int z (pos 0) e
    by_test z found false e g = absurd (cc)

big : (t : TableView) → schema_in t ≡ Some None → (z : ℤ) × (or_absent (pos 0) (i16_field t 0) ≡ Ok z) × (z ≢ pos 0)
unfolding schema_in
big t h =
    let (endianness, ee, h1) = bind_some (result_ok (i16_field t 0)) _ None h in
    let (named, en, h2) = bind_some (result_ok (vector_field t 1 4)) _ None h1 in
    let (v, ev, h3) = bind_some named _ None h2 in
    let (found, ef, h4) = bind_some (fields_from v 0 v.count) _ None h3 in
    let z : ℤ = unwrap_or endianness (pos 0) in
    (z, or_absent_is (pos 0) (i16_field t 0) endianness z (ok_of (i16_field t 0) endianness ee) refl, differs z (pos 0) (cond_none (int_eq z (pos 0)) found (same_Some _ None h4)) refl)

first_other : (head : Head) → first_header head ≡ Some None → FirstOther head
first_other head h = by_schema (eqb head.number 1) refl h
  where
    by_batch : (b : Bool) → eqb head.number 3 ≡ b → cond {A = Option (Option (List FieldView))} b None (Some None) ≡ Some None → head.number ≢ 1 → FirstOther head
    by_batch true e g n = absurd (cc)
    by_batch false e g n = other_header n (eqb-false head.number 3 e)

    by_schema : (b : Bool) → eqb head.number 1 ≡ b → cond b (schema_in head.header) (cond (eqb head.number 3) None (Some None)) ≡ Some None → FirstOther head
    by_schema true e g = let z = big head.header g in big_endian z.0 (eqb-true head.number 1 e) (λ b. none_some (schema_in head.header) None (bad_schema_none head.header b) g) z.1 z.2
    by_schema false e g = by_batch (eqb head.number 3) refl g (eqb-false head.number 1 e)

other_first : (head : Head) → FirstOther head → first_header head ≡ Some None
other_first head (other_header a b) = rw (ne_eqb head.number 1 a, ne_eqb head.number 3 b) refl
other_first head (big_endian z e nb en n) = rw e (by_schema (schema_in head.header) refl)
  where
    by_schema : (o : Option (Option (List FieldView))) → schema_in head.header ≡ o → schema_in head.header ≡ Some None
    by_schema None g = absurd (nb (schema_bad head.header g))
    by_schema (Some None) g = g
    by_schema (Some (Some fields)) g = absurd (n (same_Ok z (pos 0) (sym en ∙ little head.header fields g)))

later_other : (head : Head) → later_header head ≡ Some None → LaterOther head
later_other head h = by_batch (eqb head.number 3) refl h
  where
    no_batch : (o : Option BatchTables) → option_map (λ b. Some b) o ≡ Some None → ⊥
    no_batch None g = cc
    no_batch (Some batch) g = none_some None batch refl (sym (same_Some (Some batch) None g))

    by_schema : (b : Bool) → eqb head.number 1 ≡ b → cond {A = Option (Option BatchTables)} b None (Some None) ≡ Some None → head.number ≢ 3 → LaterOther head
    by_schema true e g n = absurd (cc)
    by_schema false e g n = (n, eqb-false head.number 1 e)

    by_batch : (b : Bool) → eqb head.number 3 ≡ b → cond b (option_map (λ b. Some b) (batch_in head.header)) (cond (eqb head.number 1) None (Some None)) ≡ Some None → LaterOther head
    by_batch true e g = absurd (no_batch (batch_in head.header) g)
    by_batch false e g = by_schema (eqb head.number 1) refl g (eqb-false head.number 3 e)

other_later : (head : Head) → LaterOther head → later_header head ≡ Some None
other_later head (a, b) = rw (ne_eqb head.number 3 a, ne_eqb head.number 1 b) refl

-- ---- types of fields

of_other : (t : TableView) (x : FieldView) → FieldSeen t x → x.kind ≡ None → OfOtherType t
of_other t x s h = by_dictionary s.dictionary refl (s.seen ∙ h)
  where
    by_children : (o : Option VectorView) → s.children ≡ o → (if has_item o then None else s.kind) ≡ None → OfOtherType t
    by_children None e g = of_other_kind (unwrap_or s.number 0) s.table (or_absent_is 0 (u8_field t 2) s.number (unwrap_or s.number 0) s.number_is refl) s.type_is (other_kind (unwrap_or s.number 0) s.table (s.kind_is ∙ ap (λ z. Some z) g))
    by_children (Some v) e g = by_count (eqb v.count 0) refl g
      where
        by_count : (b : Bool) → eqb v.count 0 ≡ b → (if not b then None else s.kind) ≡ None → OfOtherType t
        by_count true c k = of_other_kind (unwrap_or s.number 0) s.table (or_absent_is 0 (u8_field t 2) s.number (unwrap_or s.number 0) s.number_is refl) s.type_is (other_kind (unwrap_or s.number 0) s.table (s.kind_is ∙ ap (λ z. Some z) k))
        by_count false c k = has_children v (s.children_are ∙ ap (λ z. Ok z) e) (eqb-false v.count 0 c)

    by_dictionary : (d : Bool) → s.dictionary ≡ d → (if d || has_item s.children then None else s.kind) ≡ None → OfOtherType t
    by_dictionary true e g = let p = presence_there t 4 (s.dictionary_is ∙ ap (λ z. Some z) e) in has_dictionary p.0 p.1
    by_dictionary false e g = by_children s.children refl g

no_other : (t : TableView) {f : Field} → FieldHolds t f → OfOtherType t → ⊥
no_other t h (has_dictionary place e) = none_some None place refl (same_Ok None (Some place) (sym h.no_dictionary ∙ e))
no_other t h (has_children v e n) = elim h.no_children [
  | inl a ↦ none_some None v refl (same_Ok None (Some v) (sym a ∙ e))
  | inr b ↦ let same : b.0 ≡ v = same_Some b.0 v (same_Ok (Some b.0) (Some v) (sym b.1 ∙ e)) in n (ap (λ (u : VectorView). u.count) (sym same) ∙ b.2)
]
no_other t h (of_other_kind number table n e o) =
    let here : number ≡ h.number = same_Ok number h.number (sym n ∙ h.number_is) in
    let there : table ≡ h.type_table = same_table (table_field t 3) table h.type_table e h.type_is in
    no_kind _ h.number h.type_table h.kind (subst (λ (k : ℕ). OtherKind k h.type_table) here (subst (OtherKind number) there o))

other_none : (v : VectorView) (place : ℕ) (t : TableView) (x : FieldView) → item_table v place ≡ Ok t → field_in v place ≡ Some x → OfOtherType t → x.kind ≡ None
other_none v place t x e h o = by_kind x.kind refl
  where
    by_kind : (k : Option DataType) → x.kind ≡ k → x.kind ≡ None
    by_kind None g = g
    by_kind (Some k) g =
        let f = field_holds v place x k h g in
        let same : f.0 ≡ t = same_Ok f.0 t (sym f.1 ∙ e) in
        absurd (no_other f.0 f.2 (subst OfOtherType (sym same) o))

pub bad_tables_are_told : BadTablesAreTold
bad_tables_are_told = record {
  heads = λ metadata. (head_bad metadata, bad_head metadata);
  schemas = λ t. (schema_bad t, bad_schema_none t);
  batches = λ t. (batch_bad t, bad_batch_none t);
  first = λ head. (first_bad head, bad_first head);
  later = λ head. (later_bad head, bad_later head);
  other_first = λ head. (first_other head, other_first head);
  other_later = λ head. (later_other head, other_later head);
  kinds = λ v place t x e h. (of_other t x (field_seen v place x t h e), other_none v place t x e h);
}
