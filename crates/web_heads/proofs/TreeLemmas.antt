-- What requests and responses have in common: field lines, versions and empty lines, both ways.
use Rattle.std.proofs.Common.{◌≡◌, ◌≢◌, ℕ, zero, suc, ◌≤◌, true, false, ◌&&◌, cond, ltb, List, [], ◌∷◌, ◌++◌, length, refl, sym, ap, ◌∙◌, subst, arith, append_assoc, append-nil, Some, None, ◌⊎◌, inl, inr, codes, ◌+◌}
use Rattle.std.specs.Prelude.{option_and_then, All}
use Rattle.std.specs.List.{list_all, flat_map}
use Rattle.std.specs.Str.{bytes_eq}
use Rattle.std.proofs.lemmas.Bool.{and_parts, and_from, ltb-true, lt-ltb, cond-true}
use Rattle.std.proofs.lemmas.List.Elements.{All-cons, All-nil, All-head, All-tail}
use Rattle.std.proofs.lemmas.Slice.Eq.{bytes_eq-Decides}
use Rattle.std.proofs.lemmas.List.Sums.{AllPass-from_list_all, list_all-from_AllPass}
use Rattle.httparse.specs.Grammar.{LineEnd, print_end, print_blank, print_version, Field, print_field, IsField, print_section, is_token_byte, is_value_byte, IsToken, is_token}
use Rattle.httparse.proofs.PieceLemmas.{colon_ends_token}
use Rattle.web_heads.specs.Lines.{Line, lines_bytes, lines_of}
use Rattle.web_heads.specs.Texts.{is_empty, cut}
use Rattle.web_heads.specs.Trees.{field_of, section_of, version_of}
use Rattle.web_heads.proofs.StepLemmas.{LacksByte, none, other, LacksByte-AllPass, LacksByte-append, found_after, chosen}
use Rattle.web_heads.proofs.LineLemmas.{lines_of-line, lines_of-nil}
use Rattle.web_heads.proofs.TextLemmas.{cut-Some, cut-append, nil-is_empty}

-- ---- tests

pub cr_ends_token : is_token_byte 13 ≡ false
unfolding is_token_byte
cr_ends_token = refl

pub lf_ends_token : is_token_byte 10 ≡ false
unfolding is_token_byte
lf_ends_token = refl

pub IsToken-is_token : (bytes : List ℕ) → is_token bytes ≡ true → IsToken bytes
IsToken-is_token bytes e =
    let p = and_parts (ltb 0 (length bytes)) (list_all is_token_byte bytes) e in
    (ltb-true 0 (length bytes) p.0, AllPass-from_list_all is_token_byte bytes p.1)

pub is_token-IsToken : (bytes : List ℕ) → IsToken bytes → is_token bytes ≡ true
is_token-IsToken bytes t =
    and_from (ltb 0 (length bytes)) (list_all is_token_byte bytes) (lt-ltb 0 (length bytes) t.0) (list_all-from_AllPass is_token_byte bytes t.1)

-- ---- field lines

pub record ReadsField (l : Line) (f : Field) : Type 0 where
  pub valid : IsField f
  pub text : l.text ≡ f.name ++ 58 ∷ f.raw
  pub ending : l.ending ≡ f.end

pub field_of-Some : (l : Line) (f : Field) → field_of l ≡ Some f → ReadsField l f
unfolding field_of
field_of-Some l f e =
    let p = found_after (cut 58 l.text) _ f e in
    let name = p.0.0 in
    let raw = p.0.1 in
    elim (chosen (is_token name && list_all is_value_byte raw) (Some (record { name = name; raw = raw; end = l.ending })) None (Some f) p.2) [
      | inl h ↦
          let is : f ≡ record { name = name; raw = raw; end = l.ending } = cc in
          let tests = and_parts (is_token name) (list_all is_value_byte raw) h.0 in
          subst (ReadsField l) (sym is) (record {
            valid = record { name = IsToken-is_token name tests.0; raw = AllPass-from_list_all is_value_byte raw tests.1 };
            text = cut-Some 58 l.text name raw p.1;
            ending = refl;
          })
      | inr h ↦ absurd (cc)
    ]

-- a field's line
abbrev pub field_line : Field → Line
field_line f = record { text = f.name ++ 58 ∷ f.raw; ending = f.end }

pub field_of-field_line : (f : Field) → IsField f → field_of (field_line f) ≡ Some f
unfolding field_of
field_of-field_line f valid =
    let lacks = LacksByte-AllPass is_token_byte 58 colon_ends_token f.name valid.name.1 in
    ap (option_and_then (λ (parts : List ℕ × List ℕ).
    cond (is_token parts.0 && list_all is_value_byte parts.1) (Some (record { name = parts.0; raw = parts.1; end = f.end })) None))
    (cut-append 58 f.name f.raw lacks)
    ∙ cond-true (is_token f.name && list_all is_value_byte f.raw) (Some f) None
    (and_from (is_token f.name) (list_all is_value_byte f.raw) (is_token-IsToken f.name valid.name) (list_all-from_AllPass is_value_byte f.raw valid.raw))

field_line-lacks : (stop : ℕ) → is_token_byte stop ≡ false → is_value_byte stop ≡ false → 58 ≢ stop → (f : Field) → IsField f
    → LacksByte stop (field_line f).text
field_line-lacks stop token value colon f valid =
    LacksByte-append stop f.name (58 ∷ f.raw) (LacksByte-AllPass is_token_byte stop token f.name valid.name.1)
    (other colon (LacksByte-AllPass is_value_byte stop value f.raw valid.raw))

-- ---- sections

-- the lines of a section
abbrev pub section_lines : List Field → LineEnd → List Line
section_lines [] last = record { text = []; ending = last } ∷ []
section_lines (f ∷ fs) last = field_line f ∷ section_lines fs last

pub lines_of-print_section : (fs : List Field) (last : LineEnd) → All IsField fs → lines_of (print_section fs last) ≡ Some (section_lines fs last)
lines_of-print_section [] last valid =
    ap lines_of (sym (append-nil (print_end last))) ∙ lines_of-line [] last [] [] none none lines_of-nil
lines_of-print_section (f ∷ fs) last valid =
    let here = All-head IsField f fs valid in
    let grouped : print_section (f ∷ fs) last ≡ (field_line f).text ++ (print_end f.end ++ print_section fs last) =
    append_assoc (print_field f) (flat_map print_field fs) (print_end last)
    ∙ append_assoc (field_line f).text (print_end f.end) (print_section fs last) in
    ap lines_of grouped
    ∙ lines_of-line (field_line f).text f.end (print_section fs last) (section_lines fs last)
    (field_line-lacks 13 cr_ends_token refl (omega arith) f here) (field_line-lacks 10 lf_ends_token refl (omega arith) f here)
    (lines_of-print_section fs last (All-tail IsField f fs valid))

section_more : (l m : Line) (lines : List Line) (f : Field) (fs : List Field) (last : LineEnd) → field_of l ≡ Some f
    → section_of (m ∷ lines) ≡ Some (fs, last) → section_of (l ∷ m ∷ lines) ≡ Some (f ∷ fs, last)
unfolding section_of
section_more l m lines f fs last first more = rw (first, more) refl

pub section_of-section_lines : (fs : List Field) (last : LineEnd) → All IsField fs → section_of (section_lines fs last) ≡ Some (fs, last)
unfolding section_of
section_of-section_lines [] last valid = refl
section_of-section_lines (f ∷ []) last valid =
    section_more (field_line f) (record { text = []; ending = last }) [] f [] last
    (field_of-field_line f (All-head IsField f [] valid)) (section_of-section_lines [] last (All-nil IsField))
section_of-section_lines (f ∷ g ∷ fs) last valid =
    section_more (field_line f) (field_line g) (section_lines fs last) f (g ∷ fs) last
    (field_of-field_line f (All-head IsField f (g ∷ fs) valid))
    (section_of-section_lines (g ∷ fs) last (All-tail IsField f (g ∷ fs) valid))

pub record ReadsLines (lines : List Line) (s : List Field × LineEnd) : Type 0 where
  pub valid : All IsField s.0
  pub bytes : lines_bytes lines ≡ print_section s.0 s.1

pub section_of-Some : (lines : List Line) (s : List Field × LineEnd) → section_of lines ≡ Some s → ReadsLines lines s
unfolding section_of
section_of-Some [] s e = absurd (cc)
section_of-Some (l ∷ []) s e =
    elim (chosen (is_empty l.text) (Some ([], l.ending)) None (Some s) e) [
      | inl h ↦
          let is : s ≡ ([], l.ending) = cc in
          let blank = nil-is_empty l.text h.0 in
          subst (ReadsLines (l ∷ [])) (sym is) (record {
            valid = All-nil IsField;
            bytes = append-nil (l.text ++ print_end l.ending) ∙ ap (λ (text : List ℕ). text ++ print_end l.ending) blank;
          })
      | inr h ↦ absurd (cc)
    ]
section_of-Some (l ∷ m ∷ lines) s e =
    let p = found_after (field_of l) _ s e in
    let q = found_after (section_of (m ∷ lines)) _ s p.2 in
    let f = p.0 in
    let t = q.0 in
    let is : s ≡ (f ∷ t.0, t.1) = cc in
    let here = field_of-Some l f p.1 in
    let later = section_of-Some (m ∷ lines) t q.1 in
    subst (ReadsLines (l ∷ m ∷ lines)) (sym is) (record {
      valid = All-cons IsField f t.0 here.valid later.valid;
      bytes =
          ap (λ (rest : List ℕ). (l.text ++ print_end l.ending) ++ rest) later.bytes
          ∙ ap (λ (text : List ℕ). (text ++ print_end l.ending) ++ print_section t.0 t.1) here.text
          ∙ ap (λ (ending : LineEnd). (f.name ++ 58 ∷ f.raw ++ print_end ending) ++ print_section t.0 t.1) here.ending
          ∙ sym (append_assoc (print_field f) (flat_map print_field t.0) (print_end t.1));
    })

-- ---- versions

pub version_of-Some : (text : List ℕ) (minor : ℕ) → version_of text ≡ Some minor → (minor ≤ 1) × (text ≡ print_version minor)
unfolding version_of
version_of-Some text minor e =
    elim (chosen (bytes_eq text (codes "HTTP/1.0")) (Some 0) (cond (bytes_eq text (codes "HTTP/1.1")) (Some 1) None) (Some minor) e) [
      | inl h ↦
          let is : 0 ≡ minor = cc in
          rw (← is) (omega arith, (bytes_eq-Decides text (codes "HTTP/1.0")).0 h.0)
      | inr h ↦ elim (chosen (bytes_eq text (codes "HTTP/1.1")) (Some 1) None (Some minor) h.1) [
        | inl g ↦
            let is : 1 ≡ minor = cc in
            rw (← is) (omega arith, (bytes_eq-Decides text (codes "HTTP/1.1")).0 g.0)
        | inr g ↦ absurd (cc)
      ]
    ]

pub version_of-print_version : (minor : ℕ) → minor ≤ 1 → version_of (print_version minor) ≡ Some minor
unfolding version_of
version_of-print_version zero small = refl
version_of-print_version (suc zero) small = refl
version_of-print_version (suc (suc n)) small = absurd (omega arith)

-- a version has none of these bytes
pub print_version-lacks : (stop minor : ℕ) → minor ≤ 1 → ((stop ≡ 10) ⊎ ((stop ≡ 13) ⊎ (stop ≡ 32))) → LacksByte stop (print_version minor)
print_version-lacks stop minor small which =
    LacksByte-append stop (codes "HTTP/1.") ((48 + minor) ∷ []) (letters which) (other (omega arith) none)
  where
    letters : ((stop ≡ 10) ⊎ ((stop ≡ 13) ⊎ (stop ≡ 32))) → LacksByte stop (codes "HTTP/1.")
    letters h = other (omega arith) (other (omega arith) (other (omega arith) (other (omega arith) (other (omega arith) (other (omega arith) (other (omega arith) none))))))

-- ---- empty lines

-- empty lines before other lines
abbrev pub blank_lines : List LineEnd → List Line → List Line
blank_lines [] lines = lines
blank_lines (e ∷ ends) lines = record { text = []; ending = e } ∷ blank_lines ends lines

pub lines_of-print_blank : (ends : List LineEnd) (rest : List ℕ) (lines : List Line) → lines_of rest ≡ Some lines
    → lines_of (print_blank ends ++ rest) ≡ Some (blank_lines ends lines)
lines_of-print_blank [] rest lines e = e
lines_of-print_blank (end ∷ ends) rest lines e =
    ap lines_of (append_assoc (print_end end) (print_blank ends) rest)
    ∙ lines_of-line [] end (print_blank ends ++ rest) (blank_lines ends lines) none none (lines_of-print_blank ends rest lines e)
