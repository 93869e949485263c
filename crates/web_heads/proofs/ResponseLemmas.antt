-- A response's tree is what the grammar gives, both ways.
use Rattle.std.proofs.Common.{◌≡◌, ◌≢◌, ℕ, ◌≤◌, false, ◌&&◌, eqb, leb, List, [], ◌∷◌, ◌++◌, length, refl, sym, ap, ◌∙◌, subst, arith, append_assoc, append-nil, Option, Some, None, ◌⊎◌, inl, inr}
use Rattle.std.specs.Prelude.{option_map}
use Rattle.std.specs.List.{list_all}
use Rattle.std.specs.Char.{is_ascii_digit}
use Rattle.std.proofs.lemmas.Bool.{and_parts, and_from, eqb-true, eq-eqb, leb-true, le-leb, ne_eqb, cond-true, cond-false}
use Rattle.std.proofs.lemmas.List.Sums.{AllPass-from_list_all, list_all-from_AllPass}
use Rattle.httparse.specs.Grammar.{LineEnd, print_end, print_blank, print_version, print_section, print_reason, reason_phrase, is_value_byte, AllPass, ResponseHead, IsResponseHead, ReadsResponse}
use Rattle.httparse.proofs.GrammarLemmas.{print_response-append}
use Rattle.web_heads.specs.Lines.{Line, lines_bytes, lines_of}
use Rattle.web_heads.specs.Texts.{is_empty, cut}
use Rattle.web_heads.specs.Trees.{most_fields, section_of, version_of, is_code, with_phrase, status_line_of, response_from, response_lines, response_tree}
use Rattle.web_heads.proofs.StepLemmas.{LacksByte, none, other, LacksByte-AllPass, LacksByte-append, found_after, found_map, chosen}
use Rattle.web_heads.proofs.LineLemmas.{lines_of-line, lines_bytes-lines_of}
use Rattle.web_heads.proofs.TextLemmas.{cut-Some, cut-append, cut-None, nil-is_empty}
use Rattle.web_heads.proofs.TreeLemmas.{section_lines, lines_of-print_section, section_of-section_lines, section_of-Some, version_of-Some, version_of-print_version, print_version-lacks, blank_lines, lines_of-print_blank}

-- a status line's text
abbrev pub status_text : ℕ → List ℕ → Option (List ℕ) → List ℕ
status_text minor digits reason = print_version minor ++ 32 ∷ (digits ++ print_reason reason)

pub record ReadsStatus (text : List ℕ) (minor : ℕ) (digits : List ℕ) (reason : Option (List ℕ)) : Type 0 where
  pub minor_is : minor ≤ 1
  pub digits_are : (length digits ≡ 3) × AllPass is_ascii_digit digits
  pub reason_is : AllPass is_value_byte (reason_phrase reason)
  pub text_is : text ≡ status_text minor digits reason

-- ---- what is found is there

-- a code and a phrase are the text that they were cut from
phrase_text : (text : List ℕ) (o : Option (List ℕ × List ℕ)) → cut 32 text ≡ o → text ≡ (with_phrase text o).0 ++ print_reason (with_phrase text o).1
phrase_text text None e = sym (append-nil text)
phrase_text text (Some parts) e = cut-Some 32 text parts.0 parts.1 e

status_line_of-Some : (text : List ℕ) (r : ℕ × (List ℕ × Option (List ℕ))) → status_line_of text ≡ Some r → ReadsStatus text r.0 r.1.0 r.1.1
unfolding status_line_of
status_line_of-Some text r e =
    let p = found_after (cut 32 text) _ r e in
    let v = found_after (version_of p.0.0) _ r p.2 in
    let minor = v.0 in
    let code = with_phrase p.0.1 (cut 32 p.0.1) in
    elim (chosen (is_code code.0 && list_all is_value_byte (reason_phrase code.1)) (Some (minor, code)) None (Some r) v.2) [
      | inl h ↦
          let is : r ≡ (minor, code) = cc in
          let tests = and_parts (is_code code.0) (list_all is_value_byte (reason_phrase code.1)) h.0 in
          let digits = and_parts (eqb (length code.0) 3) (list_all is_ascii_digit code.0) tests.0 in
          let version = version_of-Some p.0.0 minor v.1 in
          subst (λ (s : ℕ × (List ℕ × Option (List ℕ))). ReadsStatus text s.0 s.1.0 s.1.1) (sym is) (record {
            minor_is = version.0;
            digits_are = (eqb-true (length code.0) 3 digits.0, AllPass-from_list_all is_ascii_digit code.0 digits.1);
            reason_is = AllPass-from_list_all is_value_byte (reason_phrase code.1) tests.1;
            text_is =
                cut-Some 32 text p.0.0 p.0.1 p.1
                ∙ ap (λ (front : List ℕ). front ++ 32 ∷ p.0.1) version.1
                ∙ ap (λ (rest : List ℕ). print_version minor ++ 32 ∷ rest) (phrase_text p.0.1 (cut 32 p.0.1) refl);
          })
      | inr h ↦ absurd (cc)
    ]

status_bytes : (minor : ℕ) (digits : List ℕ) (reason : Option (List ℕ)) (tail : List ℕ)
    → status_text minor digits reason ++ tail ≡ print_version minor ++ 32 ∷ (digits ++ (print_reason reason ++ tail))
status_bytes minor digits reason tail = regroup (print_version minor) digits (print_reason reason) tail
  where
    regroup : (a b c d : List ℕ) → (a ++ 32 ∷ (b ++ c)) ++ d ≡ a ++ 32 ∷ (b ++ (c ++ d))
    regroup a b c d = simp append_assoc

response_from-Some : (l : Line) (lines : List Line) (h : ResponseHead) → response_from l lines ≡ Some h → ReadsResponse (lines_bytes (l ∷ lines)) h []
unfolding response_from
response_from-Some l lines h e =
    let p = found_after (status_line_of l.text) _ h e in
    let q = found_after (section_of lines) _ h p.2 in
    let start = status_line_of-Some l.text p.0 p.1 in
    let section = section_of-Some lines q.0 q.1 in
    let k : ResponseHead = record {
      blank = [];
      minor = p.0.0;
      digits = p.0.1.0;
      reason = p.0.1.1;
      line_end = l.ending;
      fields = q.0.0;
      last = q.0.1;
    } in
    let is : h ≡ k = cc in
    subst (λ (g : ResponseHead). ReadsResponse (lines_bytes (l ∷ lines)) g []) (sym is) (
      record { minor = start.minor_is; digits = start.digits_are; reason = start.reason_is; fields = section.valid },
      ap (λ (text : List ℕ). (text ++ print_end l.ending) ++ lines_bytes lines) start.text_is
          ∙ append_assoc (status_text k.minor k.digits k.reason) (print_end l.ending) (lines_bytes lines)
          ∙ status_bytes k.minor k.digits k.reason (print_end l.ending ++ lines_bytes lines)
          ∙ ap (λ (tail : List ℕ). print_version k.minor ++ 32 ∷ (k.digits ++ (print_reason k.reason ++ (print_end l.ending ++ tail))))
          (section.bytes ∙ sym (append-nil (print_section k.fields k.last)))
          ∙ sym (print_response-append k []),
    )

-- the same head after one empty line more
after_blank : (e : LineEnd) (bytes : List ℕ) (h : ResponseHead) → ReadsResponse bytes h []
    → ReadsResponse (print_end e ++ bytes) (record h { blank = e ∷ h.blank }) []
after_blank e bytes h x = (
  record { minor = x.0.minor; digits = x.0.digits; reason = x.0.reason; fields = x.0.fields },
  ap (λ (rest : List ℕ). print_end e ++ rest) (x.1 ∙ print_response-append h [])
      ∙ sym (append_assoc (print_end e) (print_blank h.blank) _)
      ∙ sym (print_response-append (record h { blank = e ∷ h.blank }) []),
)

response_lines-Some : (lines : List Line) (h : ResponseHead) → response_lines lines ≡ Some h → ReadsResponse (lines_bytes lines) h []
unfolding response_lines
response_lines-Some [] h e = absurd (cc)
response_lines-Some (l ∷ lines) h e =
    elim (chosen (is_empty l.text) (option_map (λ (g : ResponseHead). record g { blank = l.ending ∷ g.blank }) (response_lines lines)) (response_from l lines) (Some h) e) [
      | inl t ↦
          let p = found_map (response_lines lines) (λ (g : ResponseHead). record g { blank = l.ending ∷ g.blank }) h t.1 in
          let more = after_blank l.ending (lines_bytes lines) p.0 (response_lines-Some lines p.0 p.1) in
          let front : print_end l.ending ++ lines_bytes lines ≡ lines_bytes (l ∷ lines) =
          ap (λ (text : List ℕ). (text ++ print_end l.ending) ++ lines_bytes lines) (sym (nil-is_empty l.text t.0)) in
          subst (λ (g : ResponseHead). ReadsResponse (lines_bytes (l ∷ lines)) g []) p.2
          (subst (λ (bytes : List ℕ). ReadsResponse bytes (record p.0 { blank = l.ending ∷ p.0.blank }) []) front more)
      | inr t ↦ response_from-Some l lines h t.1
    ]

pub sound : (bytes : List ℕ) (h : ResponseHead) → response_tree bytes ≡ Some h → ReadsResponse bytes h [] × (length h.fields ≤ most_fields)
unfolding response_tree
sound bytes h e =
    let p = found_after (lines_of bytes) _ h e in
    let q = found_after (response_lines p.0) _ h p.2 in
    elim (chosen (leb (length q.0.fields) most_fields) (Some q.0) None (Some h) q.2) [
      | inl t ↦
          let is : q.0 ≡ h = cc in
          let reads = subst (λ (text : List ℕ). ReadsResponse text q.0 []) (sym (lines_bytes-lines_of bytes p.0 p.1)) (response_lines-Some p.0 q.0 q.1) in
          subst (λ (g : ResponseHead). ReadsResponse bytes g [] × (length g.fields ≤ most_fields)) is
          (reads, leb-true (length q.0.fields) most_fields t.0)
      | inr t ↦ absurd (cc)
    ]

-- ---- what is there is found

-- a code is cut off before its phrase, and is the whole where there is none
cut-phrase : (digits : List ℕ) (reason : Option (List ℕ)) → AllPass is_ascii_digit digits
    → with_phrase (digits ++ print_reason reason) (cut 32 (digits ++ print_reason reason)) ≡ (digits, reason)
cut-phrase digits None pass =
    let lacks = LacksByte-AllPass is_ascii_digit 32 refl digits pass in
    rw (append-nil digits, cut-None 32 digits lacks) refl
cut-phrase digits (Some phrase) pass =
    rw (cut-append 32 digits phrase (LacksByte-AllPass is_ascii_digit 32 refl digits pass)) refl

status_line_of-status_text : (minor : ℕ) (digits : List ℕ) (reason : Option (List ℕ)) → minor ≤ 1
    → length digits ≡ 3 → AllPass is_ascii_digit digits → AllPass is_value_byte (reason_phrase reason)
    → status_line_of (status_text minor digits reason) ≡ Some (minor, (digits, reason))
unfolding status_line_of
status_line_of-status_text minor digits reason small three pass phrase =
    rw (
      cut-append 32 (print_version minor) (digits ++ print_reason reason) (print_version-lacks 32 minor small (inr (inr refl))),
      version_of-print_version minor small,
      cut-phrase digits reason pass,
    ) (cond-true (is_code digits && list_all is_value_byte (reason_phrase reason)) (Some (minor, (digits, reason))) None
    (and_from (is_code digits) (list_all is_value_byte (reason_phrase reason))
    (and_from (eqb (length digits) 3) (list_all is_ascii_digit digits) (eq-eqb (length digits) 3 three) (list_all-from_AllPass is_ascii_digit digits pass))
    (list_all-from_AllPass is_value_byte (reason_phrase reason) phrase)))

response_from-lines : (l : Line) (lines : List Line) (h : ResponseHead) → status_line_of l.text ≡ Some (h.minor, (h.digits, h.reason))
    → section_of lines ≡ Some (h.fields, h.last) → l.ending ≡ h.line_end → response_from l lines ≡ Some (record h { blank = [] })
unfolding response_from
response_from-lines l lines h start section ending = rw (start, section, ending) refl

response_lines-start : (l : Line) (lines : List Line) → is_empty l.text ≡ false → response_lines (l ∷ lines) ≡ response_from l lines
unfolding response_lines
response_lines-start l lines some = cond-false (is_empty l.text) _ (response_from l lines) some

response_lines-blank : (ends : List LineEnd) (lines : List Line) (h : ResponseHead) → response_lines lines ≡ Some (record h { blank = [] })
    → response_lines (blank_lines ends lines) ≡ Some (record h { blank = ends })
unfolding response_lines
response_lines-blank [] lines h e = e
response_lines-blank (end ∷ ends) lines h e =
    ap (option_map (λ (g : ResponseHead). record g { blank = end ∷ g.blank })) (response_lines-blank ends lines h e)

-- a start line is not empty
status_text-some : (minor : ℕ) (digits : List ℕ) (reason : Option (List ℕ)) → is_empty (status_text minor digits reason) ≡ false
status_text-some minor digits reason = ne_eqb (length (status_text minor digits reason)) 0 (λ e. omega arith)

print_reason-lacks : (stop : ℕ) → is_value_byte stop ≡ false → 32 ≢ stop → (reason : Option (List ℕ)) → AllPass is_value_byte (reason_phrase reason)
    → LacksByte stop (print_reason reason)
print_reason-lacks stop fails space None pass = none
print_reason-lacks stop fails space (Some phrase) pass = other space (LacksByte-AllPass is_value_byte stop fails phrase pass)

status_text-lacks : (stop : ℕ) → is_ascii_digit stop ≡ false → is_value_byte stop ≡ false → ((stop ≡ 10) ⊎ ((stop ≡ 13) ⊎ (stop ≡ 32))) → 32 ≢ stop
    → (h : ResponseHead) → IsResponseHead h → LacksByte stop (status_text h.minor h.digits h.reason)
status_text-lacks stop digit value which space h valid =
    LacksByte-append stop (print_version h.minor) (32 ∷ (h.digits ++ print_reason h.reason)) (print_version-lacks stop h.minor valid.minor which)
    (other space (LacksByte-append stop h.digits (print_reason h.reason)
    (LacksByte-AllPass is_ascii_digit stop digit h.digits valid.digits.1)
    (print_reason-lacks stop value space h.reason valid.reason)))

-- the lines of a response's head
abbrev response_line_list : ResponseHead → List Line
response_line_list h =
    blank_lines h.blank (record { text = status_text h.minor h.digits h.reason; ending = h.line_end } ∷ section_lines h.fields h.last)

lines_of-response : (bytes : List ℕ) (h : ResponseHead) → ReadsResponse bytes h [] → lines_of bytes ≡ Some (response_line_list h)
lines_of-response bytes h x =
    let text = status_text h.minor h.digits h.reason in
    let tail = print_section h.fields h.last in
    let grouped : bytes ≡ print_blank h.blank ++ (text ++ (print_end h.line_end ++ tail)) =
    x.1 ∙ print_response-append h []
    ∙ ap (λ (rest : List ℕ). print_blank h.blank ++ rest) (sym (status_bytes h.minor h.digits h.reason (print_end h.line_end ++ (tail ++ []))))
    ∙ ap (λ (rest : List ℕ). print_blank h.blank ++ (text ++ (print_end h.line_end ++ rest))) (append-nil tail) in
    ap lines_of grouped
    ∙ lines_of-print_blank h.blank (text ++ (print_end h.line_end ++ tail)) _
    (lines_of-line text h.line_end tail (section_lines h.fields h.last)
    (status_text-lacks 13 refl refl (inr (inl refl)) (omega arith) h x.0)
    (status_text-lacks 10 refl refl (inl refl) (omega arith) h x.0)
    (lines_of-print_section h.fields h.last x.0.fields))

response_lines-list : (h : ResponseHead) → IsResponseHead h → response_lines (response_line_list h) ≡ Some h
response_lines-list h x =
    let text = status_text h.minor h.digits h.reason in
    let l : Line = record { text = text; ending = h.line_end } in
    let lines = section_lines h.fields h.last in
    response_lines-blank h.blank (l ∷ lines) h
    (response_lines-start l lines (status_text-some h.minor h.digits h.reason)
    ∙ response_from-lines l lines h (status_line_of-status_text h.minor h.digits h.reason x.minor x.digits.0 x.digits.1 x.reason)
    (section_of-section_lines h.fields h.last x.fields) refl)

pub complete : (bytes : List ℕ) (h : ResponseHead) → ReadsResponse bytes h [] → length h.fields ≤ most_fields → response_tree bytes ≡ Some h
unfolding response_tree
complete bytes h x few =
    rw (lines_of-response bytes h x, response_lines-list h x.0)
    (cond-true (leb (length h.fields) most_fields) (Some h) None (le-leb (length h.fields) most_fields few))
