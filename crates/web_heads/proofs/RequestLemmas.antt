-- A request's tree is what the grammar gives, both ways.
use Rattle.std.proofs.Common.{◌≡◌, ◌≢◌, ℕ, suc, ◌<◌, ◌≤◌, false, ◌&&◌, ltb, leb, List, [], ◌∷◌, ◌++◌, length, refl, sym, ap, ◌∙◌, subst, arith, append_assoc, append-nil, Some, None, ◌⊎◌, inl, inr}
use Rattle.std.specs.Prelude.{option_map, IsUtf8}
use Rattle.std.specs.List.{list_all}
use Rattle.std.specs.Str.{is_utf8}
use Rattle.std.proofs.lemmas.Bool.{and_parts, and_from, ltb-true, lt-ltb, leb-true, le-leb, ne_eqb, cond-true, cond-false}
use Rattle.std.proofs.lemmas.Str.{IsUtf8-from_is_utf8, is_utf8-from_IsUtf8}
use Rattle.std.proofs.lemmas.List.Sums.{AllPass-from_list_all, list_all-from_AllPass}
use Rattle.httparse.specs.Grammar.{LineEnd, print_end, print_blank, print_version, print_section, is_token_byte, is_uri_byte, AllPass, IsToken, is_token, RequestHead, IsRequestHead, ReadsRequest}
use Rattle.httparse.proofs.PieceLemmas.{space_ends_token}
use Rattle.httparse.proofs.GrammarLemmas.{print_request-append, cons-append}
use Rattle.web_heads.specs.Lines.{Line, lines_bytes, lines_of}
use Rattle.web_heads.specs.Texts.{is_empty, cut}
use Rattle.web_heads.specs.Trees.{most_fields, section_of, version_of, is_target, request_line_of, request_from, request_lines, request_tree}
use Rattle.web_heads.proofs.StepLemmas.{LacksByte, other, LacksByte-AllPass, LacksByte-append, found_after, found_map, chosen}
use Rattle.web_heads.proofs.LineLemmas.{lines_of-line, lines_bytes-lines_of}
use Rattle.web_heads.proofs.TextLemmas.{cut-Some, cut-append, nil-is_empty}
use Rattle.web_heads.proofs.TreeLemmas.{cr_ends_token, lf_ends_token, IsToken-is_token, is_token-IsToken, section_lines, lines_of-print_section, section_of-section_lines, section_of-Some, version_of-Some, version_of-print_version, print_version-lacks, blank_lines, lines_of-print_blank}

-- a request line's text
abbrev pub start_text : List ℕ → List ℕ → ℕ → List ℕ
start_text method target minor = method ++ 32 ∷ (target ++ 32 ∷ print_version minor)

pub record ReadsStart (text method target : List ℕ) (minor : ℕ) : Type 0 where
  pub method_is : IsToken method
  pub target_is : (0 < length target) × AllPass is_uri_byte target
  pub target_text : IsUtf8 target
  pub minor_is : minor ≤ 1
  pub text_is : text ≡ start_text method target minor

-- ---- what is found is there

request_line_of-Some : (text : List ℕ) (r : List ℕ × (List ℕ × ℕ)) → request_line_of text ≡ Some r → ReadsStart text r.0 r.1.0 r.1.1
unfolding request_line_of
request_line_of-Some text r e =
    let p = found_after (cut 32 text) _ r e in
    let q = found_after (cut 32 p.0.1) _ r p.2 in
    let v = found_after (version_of q.0.1) _ r q.2 in
    let method = p.0.0 in
    let target = q.0.0 in
    let minor = v.0 in
    elim (chosen (is_token method && is_target target) (Some (method, (target, minor))) None (Some r) v.2) [
      | inl h ↦
          let is : r ≡ (method, (target, minor)) = cc in
          let tests = and_parts (is_token method) (is_target target) h.0 in
          let visible = and_parts (ltb 0 (length target) && list_all is_uri_byte target) (is_utf8 target) tests.1 in
          let parts = and_parts (ltb 0 (length target)) (list_all is_uri_byte target) visible.0 in
          let version = version_of-Some q.0.1 minor v.1 in
          subst (λ (s : List ℕ × (List ℕ × ℕ)). ReadsStart text s.0 s.1.0 s.1.1) (sym is) (record {
            method_is = IsToken-is_token method tests.0;
            target_is = (ltb-true 0 (length target) parts.0, AllPass-from_list_all is_uri_byte target parts.1);
            target_text = IsUtf8-from_is_utf8 target visible.1;
            minor_is = version.0;
            text_is =
                cut-Some 32 text method p.0.1 p.1
                ∙ ap (λ (rest : List ℕ). method ++ 32 ∷ rest) (cut-Some 32 p.0.1 target q.0.1 q.1
                ∙ ap (λ (rest : List ℕ). target ++ 32 ∷ rest) version.1);
          })
      | inr h ↦ absurd (cc)
    ]

start_bytes : (method target : List ℕ) (minor : ℕ) (tail : List ℕ)
    → start_text method target minor ++ tail ≡ method ++ 32 ∷ (target ++ 32 ∷ (print_version minor ++ tail))
start_bytes method target minor tail = regroup method target (print_version minor) tail
  where
    regroup : (a b c d : List ℕ) → (a ++ 32 ∷ (b ++ 32 ∷ c)) ++ d ≡ a ++ 32 ∷ (b ++ 32 ∷ (c ++ d))
    regroup a b c d = simp (append_assoc, cons-append)

request_from-Some : (l : Line) (lines : List Line) (h : RequestHead) → request_from l lines ≡ Some h → ReadsRequest (lines_bytes (l ∷ lines)) h []
unfolding request_from
request_from-Some l lines h e =
    let p = found_after (request_line_of l.text) _ h e in
    let q = found_after (section_of lines) _ h p.2 in
    let start = request_line_of-Some l.text p.0 p.1 in
    let section = section_of-Some lines q.0 q.1 in
    let k : RequestHead = record {
      blank = [];
      method = p.0.0;
      target = p.0.1.0;
      minor = p.0.1.1;
      line_end = l.ending;
      fields = q.0.0;
      last = q.0.1;
    } in
    let is : h ≡ k = cc in
    subst (λ (g : RequestHead). ReadsRequest (lines_bytes (l ∷ lines)) g []) (sym is) (
      record {
        method = start.method_is;
        target = start.target_is;
        target_text = start.target_text;
        minor = start.minor_is;
        fields = section.valid;
      },
      ap (λ (text : List ℕ). (text ++ print_end l.ending) ++ lines_bytes lines) start.text_is
          ∙ append_assoc (start_text k.method k.target k.minor) (print_end l.ending) (lines_bytes lines)
          ∙ start_bytes k.method k.target k.minor (print_end l.ending ++ lines_bytes lines)
          ∙ ap (λ (tail : List ℕ). k.method ++ 32 ∷ (k.target ++ 32 ∷ (print_version k.minor ++ (print_end l.ending ++ tail))))
          (section.bytes ∙ sym (append-nil (print_section k.fields k.last)))
          ∙ sym (print_request-append k []),
    )

-- the same head after one empty line more
after_blank : (e : LineEnd) (bytes : List ℕ) (h : RequestHead) → ReadsRequest bytes h []
    → ReadsRequest (print_end e ++ bytes) (record h { blank = e ∷ h.blank }) []
after_blank e bytes h x = (
  record { method = x.0.method; target = x.0.target; target_text = x.0.target_text; minor = x.0.minor; fields = x.0.fields },
  ap (λ (rest : List ℕ). print_end e ++ rest) (x.1 ∙ print_request-append h [])
      ∙ sym (append_assoc (print_end e) (print_blank h.blank) _)
      ∙ sym (print_request-append (record h { blank = e ∷ h.blank }) []),
)

request_lines-Some : (lines : List Line) (h : RequestHead) → request_lines lines ≡ Some h → ReadsRequest (lines_bytes lines) h []
unfolding request_lines
request_lines-Some [] h e = absurd (cc)
request_lines-Some (l ∷ lines) h e =
    elim (chosen (is_empty l.text) (option_map (λ (g : RequestHead). record g { blank = l.ending ∷ g.blank }) (request_lines lines)) (request_from l lines) (Some h) e) [
      | inl t ↦
          let p = found_map (request_lines lines) (λ (g : RequestHead). record g { blank = l.ending ∷ g.blank }) h t.1 in
          let more = after_blank l.ending (lines_bytes lines) p.0 (request_lines-Some lines p.0 p.1) in
          let front : print_end l.ending ++ lines_bytes lines ≡ lines_bytes (l ∷ lines) =
          ap (λ (text : List ℕ). (text ++ print_end l.ending) ++ lines_bytes lines) (sym (nil-is_empty l.text t.0)) in
          subst (λ (g : RequestHead). ReadsRequest (lines_bytes (l ∷ lines)) g []) p.2
          (subst (λ (bytes : List ℕ). ReadsRequest bytes (record p.0 { blank = l.ending ∷ p.0.blank }) []) front more)
      | inr t ↦ request_from-Some l lines h t.1
    ]

pub sound : (bytes : List ℕ) (h : RequestHead) → request_tree bytes ≡ Some h → ReadsRequest bytes h [] × (length h.fields ≤ most_fields)
unfolding request_tree
sound bytes h e =
    let p = found_after (lines_of bytes) _ h e in
    let q = found_after (request_lines p.0) _ h p.2 in
    elim (chosen (leb (length q.0.fields) most_fields) (Some q.0) None (Some h) q.2) [
      | inl t ↦
          let is : q.0 ≡ h = cc in
          let reads = subst (λ (text : List ℕ). ReadsRequest text q.0 []) (sym (lines_bytes-lines_of bytes p.0 p.1)) (request_lines-Some p.0 q.0 q.1) in
          subst (λ (g : RequestHead). ReadsRequest bytes g [] × (length g.fields ≤ most_fields)) is
          (reads, leb-true (length q.0.fields) most_fields t.0)
      | inr t ↦ absurd (cc)
    ]

-- ---- what is there is found

request_line_of-start_text : (method target : List ℕ) (minor : ℕ) → IsToken method → 0 < length target → AllPass is_uri_byte target
    → IsUtf8 target → minor ≤ 1 → request_line_of (start_text method target minor) ≡ Some (method, (target, minor))
unfolding request_line_of
request_line_of-start_text method target minor token some visible text small =
    rw (
      cut-append 32 method (target ++ 32 ∷ print_version minor) (LacksByte-AllPass is_token_byte 32 space_ends_token method token.1),
      cut-append 32 target (print_version minor) (LacksByte-AllPass is_uri_byte 32 refl target visible),
      version_of-print_version minor small,
    ) (cond-true (is_token method && is_target target) (Some (method, (target, minor))) None
    (and_from (is_token method) (is_target target) (is_token-IsToken method token)
    (and_from (ltb 0 (length target) && list_all is_uri_byte target) (is_utf8 target)
    (and_from (ltb 0 (length target)) (list_all is_uri_byte target) (lt-ltb 0 (length target) some) (list_all-from_AllPass is_uri_byte target visible))
    (is_utf8-from_IsUtf8 target text))))

request_from-lines : (l : Line) (lines : List Line) (h : RequestHead) → request_line_of l.text ≡ Some (h.method, (h.target, h.minor))
    → section_of lines ≡ Some (h.fields, h.last) → l.ending ≡ h.line_end → request_from l lines ≡ Some (record h { blank = [] })
unfolding request_from
request_from-lines l lines h start section ending = rw (start, section, ending) refl

request_lines-start : (l : Line) (lines : List Line) → is_empty l.text ≡ false → request_lines (l ∷ lines) ≡ request_from l lines
unfolding request_lines
request_lines-start l lines some = cond-false (is_empty l.text) _ (request_from l lines) some

request_lines-blank : (ends : List LineEnd) (lines : List Line) (h : RequestHead) → request_lines lines ≡ Some (record h { blank = [] })
    → request_lines (blank_lines ends lines) ≡ Some (record h { blank = ends })
unfolding request_lines
request_lines-blank [] lines h e = e
request_lines-blank (end ∷ ends) lines h e =
    ap (option_map (λ (g : RequestHead). record g { blank = end ∷ g.blank })) (request_lines-blank ends lines h e)

-- a start line is not empty
start_text-some : (method target : List ℕ) (minor : ℕ) → IsToken method → is_empty (start_text method target minor) ≡ false
start_text-some [] target minor token = absurd (omega (arith, token.0))
start_text-some (b ∷ method) target minor token =
    ne_eqb (suc (length (method ++ 32 ∷ (target ++ 32 ∷ print_version minor)))) 0 (λ e. omega arith)

start_text-lacks : (stop : ℕ) → is_token_byte stop ≡ false → is_uri_byte stop ≡ false → ((stop ≡ 10) ⊎ ((stop ≡ 13) ⊎ (stop ≡ 32))) → 32 ≢ stop
    → (h : RequestHead) → IsRequestHead h → LacksByte stop (start_text h.method h.target h.minor)
start_text-lacks stop token uri which space h valid =
    LacksByte-append stop h.method (32 ∷ (h.target ++ 32 ∷ print_version h.minor))
    (LacksByte-AllPass is_token_byte stop token h.method valid.method.1)
    (other space (LacksByte-append stop h.target (32 ∷ print_version h.minor)
    (LacksByte-AllPass is_uri_byte stop uri h.target valid.target.1)
    (other space (print_version-lacks stop h.minor valid.minor which))))

-- the lines of a request's head
abbrev request_line_list : RequestHead → List Line
request_line_list h =
    blank_lines h.blank (record { text = start_text h.method h.target h.minor; ending = h.line_end } ∷ section_lines h.fields h.last)

lines_of-request : (bytes : List ℕ) (h : RequestHead) → ReadsRequest bytes h [] → lines_of bytes ≡ Some (request_line_list h)
lines_of-request bytes h x =
    let text = start_text h.method h.target h.minor in
    let tail = print_section h.fields h.last in
    let grouped : bytes ≡ print_blank h.blank ++ (text ++ (print_end h.line_end ++ tail)) =
    x.1 ∙ print_request-append h []
    ∙ ap (λ (rest : List ℕ). print_blank h.blank ++ rest) (sym (start_bytes h.method h.target h.minor (print_end h.line_end ++ (tail ++ []))))
    ∙ ap (λ (rest : List ℕ). print_blank h.blank ++ (text ++ (print_end h.line_end ++ rest))) (append-nil tail) in
    ap lines_of grouped
    ∙ lines_of-print_blank h.blank (text ++ (print_end h.line_end ++ tail)) _
    (lines_of-line text h.line_end tail (section_lines h.fields h.last)
    (start_text-lacks 13 cr_ends_token refl (inr (inl refl)) (omega arith) h x.0)
    (start_text-lacks 10 lf_ends_token refl (inl refl) (omega arith) h x.0)
    (lines_of-print_section h.fields h.last x.0.fields))

request_lines-list : (h : RequestHead) → IsRequestHead h → request_lines (request_line_list h) ≡ Some h
request_lines-list h x =
    let text = start_text h.method h.target h.minor in
    let l : Line = record { text = text; ending = h.line_end } in
    let lines = section_lines h.fields h.last in
    request_lines-blank h.blank (l ∷ lines) h
    (request_lines-start l lines (start_text-some h.method h.target h.minor x.method)
    ∙ request_from-lines l lines h (request_line_of-start_text h.method h.target h.minor x.method x.target.0 x.target.1 x.target_text x.minor)
    (section_of-section_lines h.fields h.last x.fields) refl)

pub complete : (bytes : List ℕ) (h : RequestHead) → ReadsRequest bytes h [] → length h.fields ≤ most_fields → request_tree bytes ≡ Some h
unfolding request_tree
complete bytes h x few =
    rw (lines_of-request bytes h x, request_lines-list h x.0)
    (cond-true (leb (length h.fields) most_fields) (Some h) None (le-leb (length h.fields) most_fields few))
