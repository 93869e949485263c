-- A message is read exactly where it stands.
use Rattle.std.proofs.Common.{◌≡◌, ℕ, zero, suc, ◌+◌, ◌≤◌, Bool, true, false, cond, eqb, leb, ◌&&◌, List, [], ◌∷◌, length, take, drop, Some, Ok, Err, arith, refl, ap, ◌∙◌, subst, sym, length-take, length-drop}
use Rattle.std.specs.Prelude.{pos}
use Rattle.std.specs.Result.{result_ok}
use Rattle.std.specs.List.{list_all}
use Rattle.std.proofs.lemmas.Bool.{leb-true, eqb-true, le-leb, ne_eqb, and_parts}
use Rattle.flat_tables.specs.Views.{TableView}
use Rattle.flat_tables.specs.Reading.{i32_at, u32_at, target_at, named_table}
use Rattle.arrow_ipc.specs.Stream.{mark}
use Rattle.arrow_ipc.specs.Holds.{MessageAt}
use Rattle.arrow_read.specs.declared.fault.ArrowFault.TheVariants.{NotAMessage, Truncated}
use Rattle.arrow_read.specs.declared.head.Head.{Head}
use Rattle.arrow_read.specs.Tables.{not_negative, head_in}
use Rattle.arrow_read.specs.Reading.{◌>>=◌, or_fault, begins_as_message, if_whole, metadata_size, metadata_at, body_at}
use Rattle.arrow_read.specs.MessageFaults.{MetadataAt}
use Rattle.arrow_read.proofs.Chains.{bind_ok, fault_ok, ok_of, not_negative_is, is_not_negative}
use Rattle.arrow_read.proofs.Heads.{head_is, is_head}

-- ---- the mark

abbrev pub is_mark_byte : ℕ → Bool
is_mark_byte byte = eqb byte 255

mark_is : (xs : List ℕ) → list_all is_mark_byte (take 4 xs) ≡ true → 4 ≤ length xs → take 4 xs ≡ mark
mark_is [] h l = absurd (omega arith)
mark_is (a ∷ []) h l = absurd (omega arith)
mark_is (a ∷ b ∷ []) h l = absurd (omega arith)
mark_is (a ∷ b ∷ c ∷ []) h l = absurd (omega arith)
mark_is (a ∷ b ∷ c ∷ d ∷ xs) h l =
    let p = and_parts (is_mark_byte a) (is_mark_byte b && (is_mark_byte c && (is_mark_byte d && true))) h in
    let q = and_parts (is_mark_byte b) (is_mark_byte c && (is_mark_byte d && true)) p.1 in
    let r = and_parts (is_mark_byte c) (is_mark_byte d && true) q.1 in
    let s = and_parts (is_mark_byte d) true r.1 in
    let ea : a ≡ 255 = eqb-true a 255 p.0 in
    let eb : b ≡ 255 = eqb-true b 255 q.0 in
    let ec : c ≡ 255 = eqb-true c 255 r.0 in
    let ed : d ≡ 255 = eqb-true d 255 s.0 in
    rw (ea, eb, ec, ed) refl

-- ---- the metadata

whole_is : (bytes : List ℕ) (at size found : ℕ) → if_whole bytes at size ≡ Ok found → (size ≡ found) × (at + 8 + size ≤ length bytes)
whole_is bytes at size found h = by_test (leb (at + 8 + size) (length bytes)) refl h
  where
    by_test : (b : Bool) → leb (at + 8 + size) (length bytes) ≡ b → cond b (Ok size) (Err Truncated) ≡ Ok found → (size ≡ found) × (at + 8 + size ≤ length bytes)
    by_test true e k = let same : size ≡ found = cc in (same, leb-true _ _ e)
    by_test false e k = absurd (cc)

pub metadata_is : (bytes : List ℕ) (at size : ℕ) → metadata_size bytes at ≡ Ok size → MetadataAt bytes at size
unfolding metadata_size
metadata_is bytes at size h = by_mark (begins_as_message (drop at bytes)) refl h
  where
    by_mark : (b : Bool) → begins_as_message (drop at bytes) ≡ b
        → cond b (or_fault Truncated (result_ok (i32_at bytes (at + 4))) >>= λ number. or_fault (NotAMessage at) (not_negative number) >>= λ n. if_whole bytes at n) (Err (NotAMessage at)) ≡ Ok size → MetadataAt bytes at size
    by_mark true e k =
        let (number, en, k1) = bind_ok (or_fault Truncated (result_ok (i32_at bytes (at + 4)))) _ size k in
        let (n, es, k2) = bind_ok (or_fault (NotAMessage at) (not_negative number)) _ size k1 in
        let w = whole_is bytes at n size k2 in
        let number_is : number ≡ pos n = not_negative_is number n (fault_ok (NotAMessage at) (not_negative number) n es) in
        let within : at + 8 + size ≤ length bytes = subst (λ (m : ℕ). at + 8 + m ≤ length bytes) w.0 w.1 in
        let four : 4 ≤ length (drop at bytes) = omega (arith, length-drop at bytes) in
        record {
          mark_is = mark_is (drop at bytes) e four;
          size_is = ok_of (i32_at bytes (at + 4)) number (fault_ok Truncated (result_ok (i32_at bytes (at + 4))) number en) ∙ ap (λ z. Ok z) number_is ∙ ap (λ (m : ℕ). Ok (pos m)) w.0;
          within = within;
        }
    by_mark false e k = absurd (cc)

begins : (bytes : List ℕ) → take 4 bytes ≡ mark → begins_as_message bytes ≡ true
begins bytes e = ap (list_all is_mark_byte) e

pub is_metadata : (bytes : List ℕ) (at size : ℕ) → MetadataAt bytes at size → metadata_size bytes at ≡ Ok size
unfolding metadata_size
is_metadata bytes at size h = rw (begins (drop at bytes) h.mark_is, h.size_is) (rw (is_not_negative size, le-leb (at + 8 + size) (length bytes) h.within) refl)

-- ---- the message

pub record Stands (bytes : List ℕ) (at number : ℕ) (header : TableView) (body : List ℕ) (next : ℕ) : Type 0 where
  pub size : ℕ
  pub size_is : metadata_size bytes at ≡ Ok size
  pub not_end : eqb size 0 ≡ false
  pub head_is : head_in (metadata_at bytes at size) ≡ Some (record { number = number; header = header; body = length body })
  pub body_is : body_at bytes (at + 8 + size) (length body) ≡ Ok body
  pub next_is : at + 8 + size + length body ≡ next

no_bytes : (t : TableView) → named_table [] 0 ≡ Ok t → ⊥
unfolding named_table target_at u32_at
no_bytes t e = cc

has_bytes : (bytes : List ℕ) (at size : ℕ) (t : TableView) → named_table (take size (drop (at + 8) bytes)) 0 ≡ Ok t → eqb size 0 ≡ false
has_bytes bytes at zero t e = absurd (no_bytes t e)
has_bytes bytes at (suc size) t e = ne_eqb (suc size) 0 (λ e. omega arith)

pub body_stands : (bytes : List ℕ) (at size : ℕ) (body : List ℕ) → body_at bytes at size ≡ Ok body → (take size (drop at bytes) ≡ body) × (length body ≡ size) × (at + size ≤ length bytes)
body_stands bytes at size body h = by_test (leb (at + size) (length bytes)) refl h
  where
    by_test : (b : Bool) → leb (at + size) (length bytes) ≡ b → cond b (Ok (take size (drop at bytes))) (Err Truncated) ≡ Ok body → (take size (drop at bytes) ≡ body) × (length body ≡ size) × (at + size ≤ length bytes)
    by_test true e k =
        let same : take size (drop at bytes) ≡ body = cc in
        let within : at + size ≤ length bytes = leb-true _ _ e in
        let long : length (take size (drop at bytes)) ≡ size = omega (arith, length-take size (drop at bytes), length-drop at bytes) in
        (same, ap length (sym same) ∙ long, within)
    by_test false e k = absurd (cc)

pub message_stands : (bytes : List ℕ) (at size : ℕ) (head : Head) (body : List ℕ) → metadata_size bytes at ≡ Ok size → head_in (metadata_at bytes at size) ≡ Some head → body_at bytes (at + 8 + size) head.body ≡ Ok body
    → MessageAt bytes at head.number head.header body (at + 8 + size + head.body)
message_stands bytes at size head body s h b =
    let m = metadata_is bytes at size s in
    let t = head_is (metadata_at bytes at size) head h in
    let stands = body_stands bytes (at + 8 + size) head.body body b in
    record {
      size = size;
      table = t.table;
      mark_is = m.mark_is;
      size_is = m.size_is;
      table_is = t.table_is;
      version = t.version;
      number_is = t.number_is;
      header_is = t.header_is;
      body_size = t.body_size ∙ ap (λ (n : ℕ). Ok (pos n)) (sym stands.1);
      body_is = ap (λ (n : ℕ). take n (drop (at + 8 + size) bytes)) stands.1 ∙ stands.0;
      next_is = ap (λ (n : ℕ). at + 8 + size + n) (sym stands.1);
      within = stands.2;
    }

pub message_read : (bytes : List ℕ) (at number : ℕ) (header : TableView) (body : List ℕ) (next : ℕ) → MessageAt bytes at number header body next → Stands bytes at number header body next
message_read bytes at number header body next m =
    let end : at + 8 + m.size + length body ≤ length bytes = omega (arith, m.next_is, m.within) in
    let inside : at + 8 + m.size ≤ length bytes = omega arith in
    record {
      size = m.size;
      size_is = is_metadata bytes at m.size (record { mark_is = m.mark_is; size_is = m.size_is; within = inside });
      not_end = has_bytes bytes at m.size m.table m.table_is;
      head_is = is_head (metadata_at bytes at m.size) (record { number = number; header = header; body = length body }) (record {
        table = m.table;
        table_is = m.table_is;
        version = m.version;
        number_is = m.number_is;
        header_is = m.header_is;
        body_size = m.body_size;
      });
      body_is = rw (le-leb (at + 8 + m.size + length body) (length bytes) end) (ap (λ z. Ok z) m.body_is);
      next_is = sym m.next_is;
    }
