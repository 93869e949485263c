-- A message's fault is the first one in the order of the format's tests.
use Rattle.std.proofs.Common.{◌≡◌, ◌≢◌, ℕ, zero, suc, ◌+◌, ◌<◌, ◌≤◌, ◌⊎◌, inl, inr, Bool, true, false, cond, eqb, leb, List, [], ◌∷◌, length, take, drop, get_or, Option, None, Some, Result, Ok, Err, arith, refl, ap, ◌∙◌, subst, sym, length-drop}
use Rattle.std.specs.Prelude.{ℤ, pos, negsuc, ◌<ℤ◌}
use Rattle.std.specs.Result.{result_ok}
use Rattle.std.specs.List.{list_all}
use Rattle.std.proofs.lemmas.Bool.{leb-false, eqb-true, eqb-false, le-leb, lt-leb, ne_eqb, cases_lt, and_parts}
use Rattle.std.proofs.lemmas.Int.{ints}
use Rattle.std.proofs.lemmas.List.{get_or-drop}
use Rattle.cn_types.specs.declared.schema.Schema.{Schema}
use Rattle.flat_tables.specs.Reading.{i32_at}
use Rattle.arrow_read.specs.declared.fault.ArrowFault.{ArrowFault}
use Rattle.arrow_read.specs.declared.fault.ArrowFault.TheVariants.{NotAMessage, BadTable, UnsupportedType, Compressed, Truncated}
use Rattle.arrow_read.specs.declared.head.Head.{Head}
use Rattle.arrow_read.specs.declared.batch.BatchTables.{BatchTables}
use Rattle.arrow_read.specs.declared.part.Part.{Part}
use Rattle.arrow_read.specs.Tables.{FieldView, not_negative, head_in, first_header, later_header}
use Rattle.arrow_read.specs.Reading.{◌>>=◌, or_fault, begins_as_message, if_whole, metadata_size, metadata_at, body_at, unsupported, if_supported, schema_of, if_more, first_message, if_plain, columns_in, batch_at, one_more, mark_or_batch, next_batch}
use Rattle.arrow_read.specs.ColumnFaults.{ColumnsFaulty}
use Rattle.arrow_read.specs.MessageFaults.{BeginsAsMessage, MetadataAt, MetadataFaulty, FirstTables, FirstFaulty, LaterTables, LaterFaulty, MessageFaultsAreFirst}
use Rattle.arrow_read.specs.MessageFaults.{other_mark, negative_size, no_size, cut, first_metadata, first_ended, first_headless, first_without_schema, first_of_other_header, first_of_other_type, first_cut, later_metadata, later_headless, later_without_batch, later_of_other_header, later_compressed, later_cut, later_columns}
use Rattle.arrow_read.proofs.Chains.{same_Err, fault_ok, ok_of, not_negative_is, is_not_negative, negative_is}
use Rattle.arrow_read.proofs.SchemaLaws.{supported}
use Rattle.arrow_read.proofs.BadTableLaws.{head_bad, bad_head, first_bad, bad_first, later_bad, bad_later}
use Rattle.arrow_read.proofs.MessageLaws.{is_mark_byte, metadata_is, is_metadata, body_stands}
use Rattle.arrow_read.proofs.BufferLaws.{i32_inside}
use Rattle.arrow_read.proofs.BatchLoop.{plain_is}
use Rattle.arrow_read.proofs.RowLaws.{batch_is}
use Rattle.arrow_read.proofs.StreamLaws.{more_is, batch_header}
use Rattle.arrow_read.proofs.ColumnFaultLaws.{bind_err, fault_err, columns_faulty, columns_fault}

-- ---- the mark

all_at : (n : ℕ) (xs : List ℕ) → list_all is_mark_byte (take n xs) ≡ true → (i : ℕ) → i < n → i < length xs → get_or xs i 0 ≡ 255
all_at zero xs h i l k = absurd (omega arith)
all_at (suc n) [] h i l k = absurd (omega arith)
all_at (suc n) (x ∷ xs) h zero l k = eqb-true x 255 (and_parts (is_mark_byte x) (list_all is_mark_byte (take n xs)) h).0
all_at (suc n) (x ∷ xs) h (suc i) l k = all_at n xs (and_parts (is_mark_byte x) (list_all is_mark_byte (take n xs)) h).1 i (omega arith) (omega arith)

at_all : (n : ℕ) (xs : List ℕ) → ((i : ℕ) → i < n → i < length xs → get_or xs i 0 ≡ 255) → list_all is_mark_byte (take n xs) ≡ true
at_all zero xs h = refl
at_all (suc n) [] h = refl
at_all (suc n) (x ∷ xs) h =
    let first : x ≡ 255 = h 0 (omega arith) (omega arith) in
    let rest : list_all is_mark_byte (take n xs) ≡ true = at_all n xs (λ i l k. h (suc i) (omega arith) (omega arith)) in
    rw (first, rest) refl

begins_is : (bytes : List ℕ) (at : ℕ) → begins_as_message (drop at bytes) ≡ true → BeginsAsMessage bytes at
begins_is bytes at h i l k =
    let inside : i < length (drop at bytes) = omega (arith, length-drop at bytes) in
    sym (get_or-drop at bytes i 0) ∙ all_at 4 (drop at bytes) h i l inside

is_begins : (bytes : List ℕ) (at : ℕ) → BeginsAsMessage bytes at → begins_as_message (drop at bytes) ≡ true
is_begins bytes at h = at_all 4 (drop at bytes) (λ i l k. let inside : at + i < length bytes = omega (arith, length-drop at bytes) in get_or-drop at bytes i 0 ∙ h i l inside)

-- ---- the metadata

no_number : (b : List ℕ) (at : ℕ) → result_ok (i32_at b at) ≡ None → length b < at + 4
no_number b at h = elim (cases_lt (length b) (at + 4)) [
  | inl l ↦ l
  | inr l ↦ let z = i32_inside b at l in absurd (let e : result_ok (i32_at b at) ≡ Some z.0 = ap result_ok z.1 in cc)
]

number_none : (b : List ℕ) (at : ℕ) → length b < at + 4 → result_ok (i32_at b at) ≡ None
unfolding i32_at
number_none b at l = rw (lt-leb (at + 4) (length b) l) refl

is_negative : (z : ℤ) → z <ℤ pos 0 → not_negative z ≡ None
is_negative (pos n) h = absurd (omega (arith, ints))
is_negative (negsuc n) h = refl

whole_err : (bytes : List ℕ) (at size : ℕ) (f : ArrowFault) → if_whole bytes at size ≡ Err f → (length bytes < at + 8 + size) × (Truncated ≡ f)
whole_err bytes at size f h = by_test (leb (at + 8 + size) (length bytes)) refl h
  where
    by_test : (b : Bool) → leb (at + 8 + size) (length bytes) ≡ b → cond b (Ok size) (Err Truncated) ≡ Err f → (length bytes < at + 8 + size) × (Truncated ≡ f)
    by_test true e k = absurd (cc)
    by_test false e k = let same : Truncated ≡ f = cc in (leb-false (at + 8 + size) (length bytes) e, same)

metadata_faulty : (bytes : List ℕ) (at : ℕ) (f : ArrowFault) → metadata_size bytes at ≡ Err f → MetadataFaulty bytes at f
unfolding metadata_size
metadata_faulty bytes at f h = by_mark (begins_as_message (drop at bytes)) refl h
  where
    by_mark : (b : Bool) → begins_as_message (drop at bytes) ≡ b
        → cond b (or_fault Truncated (result_ok (i32_at bytes (at + 4))) >>= λ number. or_fault (NotAMessage at) (not_negative number) >>= λ n. if_whole bytes at n) (Err (NotAMessage at)) ≡ Err f → MetadataFaulty bytes at f
    by_mark false e k = subst (MetadataFaulty bytes at) (same_Err (NotAMessage at) f k) (other_mark (λ b. absurd (let g = is_begins bytes at b in cc)))
    by_mark true e k =
        let begin : BeginsAsMessage bytes at = begins_is bytes at e in
        elim (bind_err (or_fault Truncated (result_ok (i32_at bytes (at + 4)))) _ f k) [
          | inl g ↦
              let n = fault_err Truncated (result_ok (i32_at bytes (at + 4))) f g in
              let short : length bytes < at + 8 = omega (arith, no_number bytes (at + 4) n.0) in
              subst (MetadataFaulty bytes at) n.1 (no_size begin short)
          | inr more ↦
              let (number, en, k1) = more in
              let number_is : i32_at bytes (at + 4) ≡ Ok number = ok_of (i32_at bytes (at + 4)) number (fault_ok Truncated (result_ok (i32_at bytes (at + 4))) number en) in
              elim (bind_err (or_fault (NotAMessage at) (not_negative number)) _ f k1) [
                | inl g ↦
                    let n = fault_err (NotAMessage at) (not_negative number) f g in
                    subst (MetadataFaulty bytes at) n.1 (negative_size number begin number_is (negative_is number n.0))
                | inr more1 ↦
                    let (size, es, k2) = more1 in
                    let w = whole_err bytes at size f k2 in
                    let same : number ≡ pos size = not_negative_is number size (fault_ok (NotAMessage at) (not_negative number) size es) in
                    subst (MetadataFaulty bytes at) w.1 (cut size begin (number_is ∙ ap (λ z. Ok z) same) w.0)
              ]
        ]

mark_fault : (bytes : List ℕ) (at : ℕ) → ¬ BeginsAsMessage bytes at → metadata_size bytes at ≡ Err (NotAMessage at)
unfolding metadata_size
mark_fault bytes at n = by_mark (begins_as_message (drop at bytes)) refl
  where
    by_mark : (b : Bool) → begins_as_message (drop at bytes) ≡ b
        → cond b (or_fault Truncated (result_ok (i32_at bytes (at + 4))) >>= λ number. or_fault (NotAMessage at) (not_negative number) >>= λ n. if_whole bytes at n) (Err (NotAMessage at)) ≡ Err (NotAMessage at)
    by_mark true e = absurd (n (begins_is bytes at e))
    by_mark false e = refl

metadata_fault : (bytes : List ℕ) (at : ℕ) {f : ArrowFault} → MetadataFaulty bytes at f → metadata_size bytes at ≡ Err f
unfolding metadata_size
metadata_fault bytes at (other_mark n) = mark_fault bytes at n
metadata_fault bytes at (negative_size size b e n) = rw (is_begins bytes at b, e) (rw (is_negative size n) refl)
metadata_fault bytes at (no_size b l) = let short : length bytes < at + 4 + 4 = omega arith in rw (is_begins bytes at b, number_none bytes (at + 4) short) refl
metadata_fault bytes at (cut size b e l) = rw (is_begins bytes at b, e) (rw (is_not_negative size, lt-leb (at + 8 + size) (length bytes) l) refl)

-- ---- bodies

body_err : (bytes : List ℕ) (at size : ℕ) (f : ArrowFault) → body_at bytes at size ≡ Err f → (length bytes < at + size) × (Truncated ≡ f)
body_err bytes at size f h = by_test (leb (at + size) (length bytes)) refl h
  where
    by_test : (b : Bool) → leb (at + size) (length bytes) ≡ b → cond b (Ok (take size (drop at bytes))) (Err Truncated) ≡ Err f → (length bytes < at + size) × (Truncated ≡ f)
    by_test true e k = absurd (cc)
    by_test false e k = let same : Truncated ≡ f = cc in (leb-false (at + size) (length bytes) e, same)

-- ---- the first message

more_err : (size : ℕ) (f : ArrowFault) → if_more size ≡ Err f → (size ≡ 0) × (Truncated ≡ f)
more_err size f h = by_test (eqb size 0) refl h
  where
    by_test : (b : Bool) → eqb size 0 ≡ b → cond b (Err Truncated) (Ok size) ≡ Err f → (size ≡ 0) × (Truncated ≡ f)
    by_test true e k = let same : Truncated ≡ f = cc in (eqb-true size 0 e, same)
    by_test false e k = absurd (cc)

schema_faulty : (bytes : List ℕ) (size : ℕ) (head : Head) (fields : Option (List FieldView)) (f : ArrowFault) → FirstTables bytes size head fields → schema_of fields ≡ Err f → FirstFaulty bytes f
schema_faulty bytes size head None f t h = subst (FirstFaulty bytes) (same_Err (UnsupportedType 0) f h) (first_of_other_header size head t)
schema_faulty bytes size head (Some fields) f t h = by_place (unsupported fields) refl h
  where
    by_place : (o : Option ℕ) → unsupported fields ≡ o → if_supported fields o ≡ Err f → FirstFaulty bytes f
    by_place None e k = absurd (cc)
    by_place (Some place) e k = subst (FirstFaulty bytes) (same_Err (UnsupportedType place) f k) (first_of_other_type size head fields place t e)

-- the fields of a schema, all of which have a type
schema_fields : (fields : Option (List FieldView)) (schema : Schema) → schema_of fields ≡ Ok schema → (seen : List FieldView) × (fields ≡ Some seen) × (unsupported seen ≡ None)
schema_fields None schema h = absurd (cc)
schema_fields (Some seen) schema h = (seen, refl, (supported seen (unsupported seen) schema h).0)

first_faulty : (bytes : List ℕ) (f : ArrowFault) → first_message bytes ≡ Err f → FirstFaulty bytes f
unfolding first_message
first_faulty bytes f h =
    elim (bind_err (metadata_size bytes 0) _ f h) [
      | inl e ↦ first_metadata f (metadata_faulty bytes 0 f e)
      | inr more ↦
          let (size, es, h1) = more in
          let m : MetadataAt bytes 0 size = metadata_is bytes 0 size es in
          elim (bind_err (if_more size) _ f h1) [
            | inl e ↦ let z = more_err size f e in subst (FirstFaulty bytes) z.1 (first_ended (subst (MetadataAt bytes 0) z.0 m))
            | inr more1 ↦
                let (found, em, h2) = more1 in
                let ne : size ≢ 0 = eqb-false size 0 (more_is size found em) in
                elim (bind_err (or_fault (BadTable 0) (head_in (metadata_at bytes 0 size))) _ f h2) [
                  | inl e ↦ let z = fault_err (BadTable 0) (head_in (metadata_at bytes 0 size)) f e in subst (FirstFaulty bytes) z.1 (first_headless size m ne (head_bad (metadata_at bytes 0 size) z.0))
                  | inr more2 ↦
                      let (head, eh, h3) = more2 in
                      let head_is : head_in (metadata_at bytes 0 size) ≡ Some head = fault_ok (BadTable 0) (head_in (metadata_at bytes 0 size)) head eh in
                      elim (bind_err (or_fault (BadTable 0) (first_header head)) _ f h3) [
                        | inl e ↦ let z = fault_err (BadTable 0) (first_header head) f e in subst (FirstFaulty bytes) z.1 (first_without_schema size head m ne head_is (first_bad head z.0))
                        | inr more3 ↦
                            let (fields, ef, h4) = more3 in
                            let t : FirstTables bytes size head fields = record { metadata = m; not_end = ne; head_is = head_is; fields_are = fault_ok (BadTable 0) (first_header head) fields ef } in
                            elim (bind_err (schema_of fields) _ f h4) [
                              | inl e ↦ schema_faulty bytes size head fields f t e
                              | inr more4 ↦
                                  let (schema, ek, h5) = more4 in
                                  let s = schema_fields fields schema ek in
                                  elim (bind_err (body_at bytes (8 + size) head.body) _ f h5) [
                                    | inl e ↦
                                        let z = body_err bytes (8 + size) head.body f e in
                                        subst (FirstFaulty bytes) z.1 (first_cut size head s.0 (subst (FirstTables bytes size head) s.1 t) s.2 z.0)
                                    | inr last ↦ let (body, eb, h6) = last in absurd (cc)
                                  ]
                            ]
                      ]
                ]
          ]
    ]

first_fault : (bytes : List ℕ) {f : ArrowFault} → FirstFaulty bytes f → first_message bytes ≡ Err f
unfolding first_message
first_fault bytes (first_metadata f m) = rw (metadata_fault bytes 0 m) refl
first_fault bytes (first_ended m) = rw (is_metadata bytes 0 0 m) refl
first_fault bytes (first_headless size m ne h) = rw (is_metadata bytes 0 size m, ne_eqb size 0 ne) (rw (bad_head (metadata_at bytes 0 size) h) refl)
first_fault bytes (first_without_schema size head m ne h k) = rw (is_metadata bytes 0 size m, ne_eqb size 0 ne) (rw (h, bad_first head k) refl)
first_fault bytes (first_of_other_header size head t) = rw (is_metadata bytes 0 size t.metadata, ne_eqb size 0 t.not_end) (rw (t.head_is, t.fields_are) refl)
first_fault bytes (first_of_other_type size head fields place t e) = rw (is_metadata bytes 0 size t.metadata, ne_eqb size 0 t.not_end) (rw (t.head_is, t.fields_are) (rw e refl))
first_fault bytes (first_cut size head fields t e l) = rw (is_metadata bytes 0 size t.metadata, ne_eqb size 0 t.not_end) (rw (t.head_is, t.fields_are) (rw (e, lt-leb (8 + size + head.body) (length bytes) l) refl))

-- ---- a later message

plain_err : (o : Option BatchTables) (f : ArrowFault) → if_plain o ≡ Err f → ((o ≡ None) × (UnsupportedType 0 ≡ f)) ⊎ ((batch : BatchTables) × (o ≡ Some batch) × (batch.compressed ≡ true) × (Compressed ≡ f))
plain_err None f h = let same : UnsupportedType 0 ≡ f = cc in inl (refl, same)
plain_err (Some b) f h = by_test b.compressed refl h
  where
    by_test : (c : Bool) → b.compressed ≡ c → cond c (Err Compressed) (Ok b) ≡ Err f → ((Some b ≡ None) × (UnsupportedType 0 ≡ f)) ⊎ ((batch : BatchTables) × (Some b ≡ Some batch) × (batch.compressed ≡ true) × (Compressed ≡ f))
    by_test true e k = let same : Compressed ≡ f = cc in inr (b, refl, e, same)
    by_test false e k = absurd (cc)

batch_faulty : (bytes : List ℕ) (schema : Schema) (at size : ℕ) (f : ArrowFault) → at ≢ length bytes → MetadataAt bytes at size → size ≢ 0 → batch_at bytes schema at size ≡ Err f → LaterFaulty bytes schema at f
unfolding batch_at
batch_faulty bytes schema at size f over m ne h =
    elim (bind_err (or_fault (BadTable at) (head_in (metadata_at bytes at size))) _ f h) [
      | inl e ↦ let z = fault_err (BadTable at) (head_in (metadata_at bytes at size)) f e in subst (LaterFaulty bytes schema at) z.1 (later_headless size over m ne (head_bad (metadata_at bytes at size) z.0))
      | inr more ↦
          let (head, eh, h1) = more in
          let head_is : head_in (metadata_at bytes at size) ≡ Some head = fault_ok (BadTable at) (head_in (metadata_at bytes at size)) head eh in
          elim (bind_err (or_fault (BadTable at) (later_header head)) _ f h1) [
            | inl e ↦ let z = fault_err (BadTable at) (later_header head) f e in subst (LaterFaulty bytes schema at) z.1 (later_without_batch size head over m ne head_is (later_bad head z.0))
            | inr more1 ↦
                let (header, ek, h2) = more1 in
                let t : LaterTables bytes at size head header = record { not_over = over; metadata = m; not_end = ne; head_is = head_is; batch_is = fault_ok (BadTable at) (later_header head) header ek } in
                elim (bind_err (if_plain header) _ f h2) [
                  | inl e ↦ elim (plain_err header f e) [
                    | inl z ↦ subst (LaterFaulty bytes schema at) z.1 (later_of_other_header size head (subst (LaterTables bytes at size head) z.0 t))
                    | inr z ↦ subst (LaterFaulty bytes schema at) z.3 (later_compressed size head z.0 (subst (LaterTables bytes at size head) z.1 t) z.2)
                  ]
                  | inr more2 ↦
                      let (batch, ep, h3) = more2 in
                      let p = plain_is header batch ep in
                      let tb : LaterTables bytes at size head (Some batch) = subst (LaterTables bytes at size head) p.0 t in
                      elim (bind_err (body_at bytes (at + 8 + size) head.body) _ f h3) [
                        | inl e ↦ let z = body_err bytes (at + 8 + size) head.body f e in subst (LaterFaulty bytes schema at) z.1 (later_cut size head batch tb p.1 z.0)
                        | inr more3 ↦
                            let (body, eb, h4) = more3 in
                            let w = body_stands bytes (at + 8 + size) head.body body eb in
                            elim (bind_err (columns_in batch body 0 0 schema.0) _ f h4) [
                              | inl e ↦
                                  let tables = (batch_is head.header batch (batch_header head batch tb.batch_is).1).tables in
                                  later_columns size head batch f tb p.1 w.2 (subst (λ (bs : List ℕ). ColumnsFaulty head.header bs batch.count 0 0 schema.0 f) (sym w.0) (columns_faulty head.header batch body 0 0 schema.0 f tables e))
                              | inr last ↦ let (columns, ea, h5) = last in absurd (cc)
                            ]
                      ]
                ]
          ]
    ]

mark_err : (bytes : List ℕ) (schema : Schema) (at size : ℕ) (f : ArrowFault) → mark_or_batch bytes schema at size ≡ Err f → (size ≢ 0) × (batch_at bytes schema at size ≡ Err f)
mark_err bytes schema at size f h = by_test (eqb size 0) refl h
  where
    inside : (r : Result Part ArrowFault) → (r >>= one_more) ≡ Err f → r ≡ Err f
    inside (Ok part) k = absurd (cc)
    inside (Err g) k = ap (λ (x : ArrowFault). Err x) (same_Err g f k)

    by_test : (b : Bool) → eqb size 0 ≡ b → cond b (Ok None) (batch_at bytes schema at size >>= one_more) ≡ Err f → (size ≢ 0) × (batch_at bytes schema at size ≡ Err f)
    by_test true e k = absurd (cc)
    by_test false e k = (eqb-false size 0 e, inside (batch_at bytes schema at size) k)

later_faulty : (bytes : List ℕ) (schema : Schema) (at : ℕ) (f : ArrowFault) → next_batch bytes schema at ≡ Err f → LaterFaulty bytes schema at f
unfolding next_batch
later_faulty bytes schema at f h = by_end (eqb at (length bytes)) refl h
  where
    by_end : (b : Bool) → eqb at (length bytes) ≡ b → cond b (Ok None) (metadata_size bytes at >>= mark_or_batch bytes schema at) ≡ Err f → LaterFaulty bytes schema at f
    by_end true e k = absurd (cc)
    by_end false e k =
        let over : at ≢ length bytes = eqb-false at (length bytes) e in
        elim (bind_err (metadata_size bytes at) (mark_or_batch bytes schema at) f k) [
          | inl g ↦ later_metadata f over (metadata_faulty bytes at f g)
          | inr more ↦
              let (size, es, k1) = more in
              let b = mark_err bytes schema at size f k1 in
              batch_faulty bytes schema at size f over (metadata_is bytes at size es) b.0 b.1
        ]

-- a batch's fault is that of the message
batch_fault : (bytes : List ℕ) (schema : Schema) (at size : ℕ) (f : ArrowFault) → at ≢ length bytes → MetadataAt bytes at size → size ≢ 0 → batch_at bytes schema at size ≡ Err f → next_batch bytes schema at ≡ Err f
unfolding next_batch
batch_fault bytes schema at size f over m ne h = rw (ne_eqb at (length bytes) over, is_metadata bytes at size m) (rw (ne_eqb size 0 ne, h) refl)

metadata_missing : (bytes : List ℕ) (schema : Schema) (at : ℕ) (f : ArrowFault) → at ≢ length bytes → metadata_size bytes at ≡ Err f → next_batch bytes schema at ≡ Err f
unfolding next_batch
metadata_missing bytes schema at f over h = rw (ne_eqb at (length bytes) over, h) refl

head_fault : (bytes : List ℕ) (schema : Schema) (at size : ℕ) → head_in (metadata_at bytes at size) ≡ None → batch_at bytes schema at size ≡ Err (BadTable at)
unfolding batch_at
head_fault bytes schema at size h = rw h refl

header_fault : (bytes : List ℕ) (schema : Schema) (at size : ℕ) (head : Head) → head_in (metadata_at bytes at size) ≡ Some head → later_header head ≡ None → batch_at bytes schema at size ≡ Err (BadTable at)
unfolding batch_at
header_fault bytes schema at size head h k = rw (h, k) refl

other_fault : (bytes : List ℕ) (schema : Schema) (at size : ℕ) (head : Head) → head_in (metadata_at bytes at size) ≡ Some head → later_header head ≡ Some None → batch_at bytes schema at size ≡ Err (UnsupportedType 0)
unfolding batch_at
other_fault bytes schema at size head h k = rw (h, k) refl

compressed_fault : (bytes : List ℕ) (schema : Schema) (at size : ℕ) (head : Head) (batch : BatchTables) → head_in (metadata_at bytes at size) ≡ Some head → later_header head ≡ Some (Some batch) → batch.compressed ≡ true
    → batch_at bytes schema at size ≡ Err Compressed
unfolding batch_at
compressed_fault bytes schema at size head batch h k c = rw (h, k) (rw c refl)

cut_fault : (bytes : List ℕ) (schema : Schema) (at size : ℕ) (head : Head) (batch : BatchTables) → head_in (metadata_at bytes at size) ≡ Some head → later_header head ≡ Some (Some batch) → batch.compressed ≡ false
    → length bytes < at + 8 + size + head.body → batch_at bytes schema at size ≡ Err Truncated
unfolding batch_at
cut_fault bytes schema at size head batch h k c l = rw (h, k) (rw c (rw (lt-leb (at + 8 + size + head.body) (length bytes) l) refl))

column_fault : (bytes : List ℕ) (schema : Schema) (at size : ℕ) (head : Head) (batch : BatchTables) (f : ArrowFault) → head_in (metadata_at bytes at size) ≡ Some head → later_header head ≡ Some (Some batch) → batch.compressed ≡ false
    → at + 8 + size + head.body ≤ length bytes → columns_in batch (take head.body (drop (at + 8 + size) bytes)) 0 0 schema.0 ≡ Err f → batch_at bytes schema at size ≡ Err f
unfolding batch_at
column_fault bytes schema at size head batch f h k c l e =
    let plain : if_plain (Some batch) ≡ Ok batch = rw c refl in
    rw (h, k) (rw plain (rw (le-leb (at + 8 + size + head.body) (length bytes) l) (rw e refl)))

later_fault : (bytes : List ℕ) (schema : Schema) (at : ℕ) {f : ArrowFault} → LaterFaulty bytes schema at f → next_batch bytes schema at ≡ Err f
later_fault bytes schema at (later_metadata f over m) = metadata_missing bytes schema at f over (metadata_fault bytes at m)
later_fault bytes schema at (later_headless size over m ne h) = batch_fault bytes schema at size (BadTable at) over m ne (head_fault bytes schema at size (bad_head (metadata_at bytes at size) h))
later_fault bytes schema at (later_without_batch size head over m ne h k) = batch_fault bytes schema at size (BadTable at) over m ne (header_fault bytes schema at size head h (bad_later head k))
later_fault bytes schema at (later_of_other_header size head t) = batch_fault bytes schema at size (UnsupportedType 0) t.not_over t.metadata t.not_end (other_fault bytes schema at size head t.head_is t.batch_is)
later_fault bytes schema at (later_compressed size head batch t c) = batch_fault bytes schema at size Compressed t.not_over t.metadata t.not_end (compressed_fault bytes schema at size head batch t.head_is t.batch_is c)
later_fault bytes schema at (later_cut size head batch t c l) = batch_fault bytes schema at size Truncated t.not_over t.metadata t.not_end (cut_fault bytes schema at size head batch t.head_is t.batch_is c l)
later_fault bytes schema at (later_columns size head batch f t c l k) =
    let tables = (batch_is head.header batch (batch_header head batch t.batch_is).1).tables in
    batch_fault bytes schema at size f t.not_over t.metadata t.not_end
    (column_fault bytes schema at size head batch f t.head_is t.batch_is c l (columns_fault head.header batch (take head.body (drop (at + 8 + size) bytes)) 0 0 schema.0 f tables k))

pub message_faults_are_first : MessageFaultsAreFirst
message_faults_are_first = record {
  first = λ bytes f. (first_faulty bytes f, first_fault bytes);
  later = λ bytes schema at f. (later_faulty bytes schema at f, later_fault bytes schema at);
}
