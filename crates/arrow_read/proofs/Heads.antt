-- The table of a message is read exactly where the message is one.
use Rattle.std.proofs.Common.{◌≡◌, ℕ, ◌⊎◌, inl, inr, Bool, true, false, List, Option, Some, Result, Ok, refl, ap, ◌∙◌, subst}
use Rattle.std.specs.Prelude.{ℤ, pos, unwrap_or, ◌||◌}
use Rattle.std.specs.Result.{result_ok}
use Rattle.std.specs.Ordering.{int_eq}
use Rattle.std.proofs.lemmas.Option.{cond_some}
use Rattle.flat_tables.specs.declared.fault.FlatFault.{FlatFault}
use Rattle.flat_tables.specs.Views.{TableView}
use Rattle.flat_tables.specs.Reading.{named_table, u8_field, i16_field, i64_field, table_field}
use Rattle.arrow_ipc.specs.Holds.{or_absent, IsVersion}
use Rattle.arrow_read.specs.declared.head.Head.{Head}
use Rattle.arrow_read.specs.Tables.{is_version, not_negative, head_in}
use Rattle.arrow_read.proofs.Chains.{ok_of, or_absent_is, is_or_absent, not_negative_is, is_not_negative, same_int}
use Rattle.arrow_read.proofs.Steps.{bind_some}

pub record HeadIs (metadata : List ℕ) (head : Head) : Type 0 where
  pub table : TableView
  pub table_is : named_table metadata 0 ≡ Ok table
  pub version : IsVersion (i16_field table 0)
  pub number_is : or_absent 0 (u8_field table 1) ≡ Ok head.number
  pub header_is : table_field table 2 ≡ Ok (Some head.header)
  pub body_size : or_absent (pos 0) (i64_field table 3) ≡ Ok (pos head.body)

version_of : (z : ℤ) → is_version z ≡ true → (z ≡ pos 3) ⊎ (z ≡ pos 4)
version_of z h = by_three (int_eq z (pos 3)) refl h
  where
    by_three : (b : Bool) → int_eq z (pos 3) ≡ b → (b || int_eq z (pos 4)) ≡ true → (z ≡ pos 3) ⊎ (z ≡ pos 4)
    by_three true e k = inl (same_int z (pos 3) e)
    by_three false e k = inr (same_int z (pos 4) k)

pub of_version : (z : ℤ) → (z ≡ pos 3) ⊎ (z ≡ pos 4) → is_version z ≡ true
of_version z (inl e) = rw e refl
of_version z (inr e) = rw e refl

version_is : (r : Result (Option ℤ) FlatFault) (o : Option ℤ) → r ≡ Ok o → is_version (unwrap_or o (pos 0)) ≡ true → IsVersion r
version_is r o e h = elim (version_of (unwrap_or o (pos 0)) h) [ inl v ↦ inl (or_absent_is (pos 0) r o (pos 3) e v) | inr v ↦ inr (or_absent_is (pos 0) r o (pos 4) e v) ]

is_version_of : (r : Result (Option ℤ) FlatFault) → IsVersion r → (o : Option ℤ) × (r ≡ Ok o) × (is_version (unwrap_or o (pos 0)) ≡ true)
is_version_of r (inl h) = let o = is_or_absent (pos 0) r (pos 3) h in (o.0, o.1, of_version (unwrap_or o.0 (pos 0)) (inl o.2))
is_version_of r (inr h) = let o = is_or_absent (pos 0) r (pos 4) h in (o.0, o.1, of_version (unwrap_or o.0 (pos 0)) (inr o.2))

pub head_is : (metadata : List ℕ) (head : Head) → head_in metadata ≡ Some head → HeadIs metadata head
unfolding head_in
head_is metadata head h =
    let (t, et, h1) = bind_some (result_ok (named_table metadata 0)) _ head h in
    let (version, ev, h2) = bind_some (result_ok (i16_field t 0)) _ head h1 in
    let (number, en, h3) = bind_some (result_ok (u8_field t 1)) _ head h2 in
    let (named, eh, h4) = bind_some (result_ok (table_field t 2)) _ head h3 in
    let (size, es, h5) = bind_some (result_ok (i64_field t 3)) _ head h4 in
    let (header, ed, h6) = bind_some named _ head h5 in
    let (body, eb, h7) = bind_some (not_negative (unwrap_or size (pos 0))) _ head h6 in
    let g = cond_some (is_version (unwrap_or version (pos 0))) (record { number = unwrap_or number 0; header = header; body = body }) head h7 in
    subst (HeadIs metadata) g.1 (record {
      table = t;
      table_is = ok_of (named_table metadata 0) t et;
      version = version_is (i16_field t 0) version (ok_of (i16_field t 0) version ev) g.0;
      number_is = or_absent_is 0 (u8_field t 1) number (unwrap_or number 0) (ok_of (u8_field t 1) number en) refl;
      header_is = ok_of (table_field t 2) named eh ∙ ap (λ z. Ok z) ed;
      body_size = or_absent_is (pos 0) (i64_field t 3) size (pos body) (ok_of (i64_field t 3) size es) (not_negative_is (unwrap_or size (pos 0)) body eb);
    })

pub is_head : (metadata : List ℕ) (head : Head) → HeadIs metadata head → head_in metadata ≡ Some head
unfolding head_in
is_head metadata head h =
    let version = is_version_of (i16_field h.table 0) h.version in
    let number = is_or_absent 0 (u8_field h.table 1) head.number h.number_is in
    let size = is_or_absent (pos 0) (i64_field h.table 3) (pos head.body) h.body_size in
    rw (h.table_is, version.1, number.1, h.header_is, size.1) (rw (size.2, is_not_negative head.body) (rw (version.2, number.2) refl))
