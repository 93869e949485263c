-- A field of a schema is read exactly where the schema has it.
use Rattle.std.proofs.Common.{◌≡◌, ◌≢◌, ℕ, zero, suc, ◌⊎◌, inl, inr, Bool, true, false, not, cond, eqb, ◌||◌, [], Option, None, Some, Result, Ok, Err, arith, refl, ap, ◌∙◌, subst, sym}
use Rattle.std.specs.Prelude.{ℤ, pos, unwrap_or, is_some, option_map, IsTrue, ◌↔◌, ◌==◌, if◌then◌else◌}
use Rattle.std.specs.Result.{result_ok}
use Rattle.std.specs.Ordering.{int_eq}
use Rattle.std.proofs.lemmas.Bool.{false≢true, eqb-true, eqb-false, ne_eqb}
use Rattle.std.proofs.lemmas.Option.{same_Some}
use Rattle.cn_types.specs.declared.value.DataType.{DataType}
use Rattle.cn_types.specs.declared.value.DataType.TheVariants as K
use Rattle.cn_types.specs.declared.schema.Field.{Field}
use Rattle.flat_tables.specs.declared.fault.FlatFault.{FlatFault}
use Rattle.flat_tables.specs.Views.{TableView, VectorView}
use Rattle.flat_tables.specs.Reading.{field_at, u8_field, i16_field, i32_field, table_field, text_field, vector_field, item_table}
use Rattle.arrow_ipc.specs.Holds.{or_absent, IsTrueByte, IsOfType, HasNoItem, Says, FieldHolds}
use Rattle.arrow_read.specs.Tables.{presence, utf8, FieldView, int_kind, date_kind, plain_kind, kind_in, type_in, has_item, plain_type_in, field_in}
use Rattle.arrow_read.specs.Reading.{field_of}
use Rattle.arrow_read.proofs.Chains.{ok_of, or_absent_is, is_or_absent, same_int}
use Rattle.arrow_read.proofs.Steps.{bind_some}
use Rattle.arrow_read.proofs.Texts.{utf8_is, is_utf8_text}

pub presence_absent : (t : TableView) (slot : ℕ) → presence t slot ≡ Some false → field_at t.buffer t.place slot ≡ Ok None
unfolding presence
presence_absent t slot h = by_field (field_at t.buffer t.place slot) h
  where
    by_field : (r : Result (Option ℕ) FlatFault) → option_map is_some (result_ok r) ≡ Some false → r ≡ Ok None
    by_field (Ok None) k = refl
    by_field (Ok (Some p)) k = absurd (cc)
    by_field (Err e) k = absurd (cc)

pub absent_presence : (t : TableView) (slot : ℕ) → field_at t.buffer t.place slot ≡ Ok None → presence t slot ≡ Some false
unfolding presence
absent_presence t slot h = rw h refl

-- ---- types

-- an Int's width and sign, of a type
pub record IntIs (width : ℤ) (signed : ℕ) (k : DataType) : Type 0 where
  pub is_signed : signed ≢ 0
  pub width_is : ((k ≡ K.Integer) × (width ≡ pos 32)) ⊎ ((k ≡ K.Long) × (width ≡ pos 64))

int_is : (width : ℤ) (signed : ℕ) (k : DataType) → int_kind width signed ≡ Some k → IntIs width signed k
int_is width signed k h = by_sign (eqb signed 0) refl h
  where
    by_long : (b : Bool) → int_eq width (pos 64) ≡ b → cond b (Some K.Long) None ≡ Some k → signed ≢ 0 → IntIs width signed k
    by_long true e g ne = let same : K.Long ≡ k = same_Some K.Long k g in record { is_signed = ne; width_is = inr (sym same, same_int width (pos 64) e) }
    by_long false e g ne = absurd (cc)

    by_width : (b : Bool) → int_eq width (pos 32) ≡ b → cond b (Some K.Integer) (cond (int_eq width (pos 64)) (Some K.Long) None) ≡ Some k → signed ≢ 0 → IntIs width signed k
    by_width true e g ne = let same : K.Integer ≡ k = same_Some K.Integer k g in record { is_signed = ne; width_is = inl (sym same, same_int width (pos 32) e) }
    by_width false e g ne = by_long (int_eq width (pos 64)) refl g ne

    by_sign : (b : Bool) → eqb signed 0 ≡ b → cond b None (cond (int_eq width (pos 32)) (Some K.Integer) (cond (int_eq width (pos 64)) (Some K.Long) None)) ≡ Some k → IntIs width signed k
    by_sign true e g = absurd (cc)
    by_sign false e g = by_width (int_eq width (pos 32)) refl g (eqb-false signed 0 e)

int_of_type : (number : ℕ) (table : TableView) (w : Option ℤ) (s : Option ℕ) (k : DataType) → number ≡ 2 → i32_field table 0 ≡ Ok w → u8_field table 1 ≡ Ok s → IntIs (unwrap_or w (pos 0)) (unwrap_or s 0) k
    → IsOfType k number table
int_of_type number table w s k two ew es is = of is.width_is
  where
    signed : IsTrueByte (u8_field table 1)
    signed = (unwrap_or s 0, or_absent_is 0 (u8_field table 1) s (unwrap_or s 0) es refl, is.is_signed)

    of : ((k ≡ K.Integer) × (unwrap_or w (pos 0) ≡ pos 32)) ⊎ ((k ≡ K.Long) × (unwrap_or w (pos 0) ≡ pos 64)) → IsOfType k number table
    of (inl (e, width)) = subst (λ (x : DataType). IsOfType x number table) (sym e) (record { is_int = two; width_is = or_absent_is (pos 0) (i32_field table 0) w (pos 32) ew width; signed = signed })
    of (inr (e, width)) = subst (λ (x : DataType). IsOfType x number table) (sym e) (record { is_int = two; width_is = or_absent_is (pos 0) (i32_field table 0) w (pos 64) ew width; signed = signed })

date_of_type : (number : ℕ) (table : TableView) (u : Option ℤ) (k : DataType) → number ≡ 8 → i16_field table 0 ≡ Ok u → date_kind (unwrap_or u (pos 1)) ≡ Some k → IsOfType k number table
date_of_type number table u k eight eu h = by_unit (int_eq (unwrap_or u (pos 1)) (pos 0)) refl h
  where
    by_unit : (b : Bool) → int_eq (unwrap_or u (pos 1)) (pos 0) ≡ b → cond b (Some K.Date) None ≡ Some k → IsOfType k number table
    by_unit true e g =
        let same : K.Date ≡ k = same_Some K.Date k g in
        subst (λ (x : DataType). IsOfType x number table) same (record { is_date = eight; unit_is = or_absent_is (pos 1) (i16_field table 0) u (pos 0) eu (same_int (unwrap_or u (pos 1)) (pos 0) e) })
    by_unit false e g = absurd (cc)

plain_of_type : (number : ℕ) (table : TableView) (k : DataType) → plain_kind number ≡ Some k → IsOfType k number table
plain_of_type number table k h = by_text (eqb number 5) refl h
  where
    by_truth : (b : Bool) → eqb number 6 ≡ b → cond b (Some K.Boolean) None ≡ Some k → IsOfType k number table
    by_truth true e g = let same : K.Boolean ≡ k = same_Some K.Boolean k g in subst (λ (x : DataType). IsOfType x number table) same (eqb-true number 6 e)
    by_truth false e g = absurd (cc)

    by_text : (b : Bool) → eqb number 5 ≡ b → cond b (Some K.Text) (cond (eqb number 6) (Some K.Boolean) None) ≡ Some k → IsOfType k number table
    by_text true e g = let same : K.Text ≡ k = same_Some K.Text k g in subst (λ (x : DataType). IsOfType x number table) same (eqb-true number 5 e)
    by_text false e g = by_truth (eqb number 6) refl g

kind_of_type : (number : ℕ) (table : TableView) (k : DataType) → kind_in number table ≡ Some (Some k) → IsOfType k number table
unfolding kind_in
kind_of_type number table k h = by_int (eqb number 2) refl h
  where
    by_date : (b : Bool) → eqb number 8 ≡ b → (if b then kind_in 8 table else Some (plain_kind number)) ≡ Some (Some k) → IsOfType k number table
    by_date true e g =
        let a = bind_some (result_ok (i16_field table 0)) _ (Some k) g in
        date_of_type number table a.0 k (eqb-true number 8 e) (ok_of (i16_field table 0) a.0 a.1) (same_Some _ (Some k) a.2)
    by_date false e g = plain_of_type number table k (same_Some (plain_kind number) (Some k) g)

    by_int : (b : Bool) → eqb number 2 ≡ b → (if b then kind_in 2 table else (if number == 8 then kind_in 8 table else Some (plain_kind number))) ≡ Some (Some k) → IsOfType k number table
    by_int true e g =
        let a = bind_some (result_ok (i32_field table 0)) _ (Some k) g in
        let b = bind_some (result_ok (u8_field table 1)) _ (Some k) a.2 in
        int_of_type number table a.0 b.0 k (eqb-true number 2 e) (ok_of (i32_field table 0) a.0 a.1) (ok_of (u8_field table 1) b.0 b.1)
        (int_is (unwrap_or a.0 (pos 0)) (unwrap_or b.0 0) k (same_Some _ (Some k) b.2))
    by_int false e g = by_date (eqb number 8) refl g

-- and the other way
pub type_of_kind : (k : DataType) (number : ℕ) (table : TableView) → IsOfType k number table → kind_in number table ≡ Some (Some k)
unfolding kind_in
type_of_kind K.Boolean number table h = rw h refl
type_of_kind K.Integer number table h =
    let w = is_or_absent (pos 0) (i32_field table 0) (pos 32) h.width_is in
    let s = is_or_absent 0 (u8_field table 1) h.signed.0 h.signed.1 in
    let z : eqb (unwrap_or s.0 0) 0 ≡ false = rw s.2 (ne_eqb h.signed.0 0 h.signed.2) in
    rw (h.is_int, w.1, s.1) (rw (w.2, z) refl)
type_of_kind K.Long number table h =
    let w = is_or_absent (pos 0) (i32_field table 0) (pos 64) h.width_is in
    let s = is_or_absent 0 (u8_field table 1) h.signed.0 h.signed.1 in
    let z : eqb (unwrap_or s.0 0) 0 ≡ false = rw s.2 (ne_eqb h.signed.0 0 h.signed.2) in
    rw (h.is_int, w.1, s.1) (rw (w.2, z) refl)
type_of_kind K.Text number table h = rw h refl
type_of_kind K.Date number table h =
    let u = is_or_absent (pos 1) (i16_field table 0) (pos 0) h.unit_is in
    rw (h.is_date, u.1) (rw u.2 refl)

-- ---- fields

-- a field's type, without a dictionary and children
pub record PlainType (t : TableView) (k : DataType) : Type 0 where
  pub number : ℕ
  pub type_table : TableView
  pub number_is : or_absent 0 (u8_field t 2) ≡ Ok number
  pub type_is : table_field t 3 ≡ Ok (Some type_table)
  pub kind : IsOfType k number type_table
  pub no_dictionary : field_at t.buffer t.place 4 ≡ Ok None
  pub no_children : HasNoItem (vector_field t 5 4)

no_item : (r : Result (Option VectorView) FlatFault) (v : Option VectorView) → r ≡ Ok v → has_item v ≡ false → HasNoItem r
no_item r None e h = inl e
no_item r (Some v) e h = inr (v, e, by_test (eqb v.count 0) refl h)
  where
    by_test : (b : Bool) → eqb v.count 0 ≡ b → not b ≡ false → v.count ≡ 0
    by_test true f g = eqb-true v.count 0 f
    by_test false f g = absurd (cc)

neither : (a b : Bool) (kind : Option DataType) (k : DataType) → (if a || b then None else kind) ≡ Some k → (a ≡ false) × (b ≡ false) × (kind ≡ Some k)
neither true b kind k h = absurd (cc)
neither false true kind k h = absurd (cc)
neither false false kind k h = (refl, refl, h)

plain_type : (t : TableView) (k : DataType) → plain_type_in t ≡ Some (Some k) → PlainType t k
unfolding plain_type_in type_in
plain_type t k h =
    let (kind, ek, h1) = bind_some (type_in t) _ (Some k) h in
    let (dictionary, ed, h2) = bind_some (presence t 4) _ (Some k) h1 in
    let (children, ec, h3) = bind_some (result_ok (vector_field t 5 4)) _ (Some k) h2 in
    let n = neither dictionary (has_item children) kind k (same_Some _ (Some k) h3) in
    let (number, en, h4) = bind_some (result_ok (u8_field t 2)) _ kind ek in
    let (named, et, h5) = bind_some (result_ok (table_field t 3)) _ kind h4 in
    let (table, ea, h6) = bind_some named _ kind h5 in
    record {
      number = unwrap_or number 0;
      type_table = table;
      number_is = or_absent_is 0 (u8_field t 2) number (unwrap_or number 0) (ok_of (u8_field t 2) number en) refl;
      type_is = ok_of (table_field t 3) named et ∙ ap (λ z. Ok z) ea;
      kind = kind_of_type (unwrap_or number 0) table k (h6 ∙ ap (λ z. Some z) n.2);
      no_dictionary = presence_absent t 4 (ed ∙ ap (λ z. Some z) n.0);
      no_children = no_item (vector_field t 5 4) children (ok_of (vector_field t 5 4) children ec) n.1;
    }

truth : (n : ℕ) → IsTrue (not (n == 0)) ↔ (n ≢ 0)
truth zero = (λ h. absurd (cc), λ h. absurd (h refl))
truth (suc n) = (λ h e. absurd (omega arith), λ h. ap not (ne_eqb (suc n) 0 (λ e. omega arith)))

says : (r : Result (Option ℕ) FlatFault) (o : Option ℕ) → r ≡ Ok o → Says (not (unwrap_or o 0 == 0)) r
says r o e = (unwrap_or o 0, or_absent_is 0 r o (unwrap_or o 0) e refl, truth (unwrap_or o 0))

-- what is read of a field that has one of the five types, it holds
pub field_holds : (v : VectorView) (place : ℕ) (x : FieldView) (k : DataType) → field_in v place ≡ Some x → x.kind ≡ Some k → (t : TableView) × (item_table v place ≡ Ok t) × FieldHolds t (field_of x)
unfolding field_in
field_holds v place x k h e =
    let (t, et, h1) = bind_some (result_ok (item_table v place)) _ x h in
    let (bytes, en, h2) = bind_some (result_ok (text_field t 0)) _ x h1 in
    let (nullable, eb, h3) = bind_some (result_ok (u8_field t 1)) _ x h2 in
    let (seen, ek, h4) = bind_some (plain_type_in t) _ x h3 in
    let (text, eu, h5) = bind_some (utf8 (unwrap_or bytes [])) _ x h4 in
    let is : record { name = text; nullable = not (unwrap_or nullable 0 == 0); kind = seen } ≡ x = same_Some _ x h5 in
    let kind : seen ≡ Some k = ap (λ (z : FieldView). z.kind) is ∙ e in
    let name = utf8_is (unwrap_or bytes []) text eu in
    let p = plain_type t k (ek ∙ ap (λ z. Some z) kind) in
    let same : k ≡ unwrap_or seen K.Text = sym (ap (λ (z : Option DataType). unwrap_or z K.Text) kind) in (
      t,
      ok_of (item_table v place) t et,
      subst (λ (z : FieldView). FieldHolds t (field_of z)) is (record {
        number = p.number;
        type_table = p.type_table;
        name_is = or_absent_is [] (text_field t 0) bytes text (ok_of (text_field t 0) bytes en) name.0;
        name_is_text = name.1;
        nullable = says (u8_field t 1) nullable (ok_of (u8_field t 1) nullable eb);
        number_is = p.number_is;
        type_is = p.type_is;
        kind = subst (λ (z : DataType). IsOfType z p.number p.type_table) same p.kind;
        no_dictionary = p.no_dictionary;
        no_children = p.no_children;
      }),
    )

-- ---- and the other way

flag_same : (b : Bool) (n : ℕ) → (IsTrue b ↔ (n ≢ 0)) → not (n == 0) ≡ b
flag_same true zero h = absurd (h.0 refl refl)
flag_same true (suc n) h = ap not (ne_eqb (suc n) 0 (λ e. omega arith))
flag_same false zero h = refl
flag_same false (suc n) h = absurd (false≢true (h.1 (λ e. omega arith)))

item_none : (r : Result (Option VectorView) FlatFault) → HasNoItem r → (v : Option VectorView) × (r ≡ Ok v) × (has_item v ≡ false)
item_none r (inl e) = (None, e, refl)
item_none r (inr h) = (Some h.0, h.1, rw h.2 refl)

-- what is read of a field
abbrev pub view_of : Field → FieldView
view_of field = record { name = field.name; nullable = field.nullable; kind = Some field.kind }

plain_type_read : (t : TableView) (field : Field) → FieldHolds t field → plain_type_in t ≡ Some (Some field.kind)
unfolding plain_type_in type_in
plain_type_read t field h =
    let number = is_or_absent 0 (u8_field t 2) h.number h.number_is in
    let kind : kind_in (unwrap_or number.0 0) h.type_table ≡ Some (Some field.kind) = rw number.2 (type_of_kind field.kind h.number h.type_table h.kind) in
    let children = item_none (vector_field t 5 4) h.no_children in
    rw (number.1, h.type_is, kind, absent_presence t 4 h.no_dictionary, children.1, children.2) refl

pub field_read : (v : VectorView) (place : ℕ) (t : TableView) (field : Field) → item_table v place ≡ Ok t → FieldHolds t field → field_in v place ≡ Some (view_of field)
unfolding field_in
field_read v place t field e h =
    let name = is_or_absent [] (text_field t 0) field.name h.name_is in
    let text : utf8 (unwrap_or name.0 []) ≡ Some field.name = rw name.2 (is_utf8_text field.name h.name_is_text) in
    let nullable = is_or_absent 0 (u8_field t 1) h.nullable.0 h.nullable.1 in
    let flag : not (unwrap_or nullable.0 0 == 0) ≡ field.nullable = rw nullable.2 (flag_same field.nullable h.nullable.0 h.nullable.2) in
    rw (e, name.1, nullable.1, plain_type_read t field h) (rw (text, flag) refl)
