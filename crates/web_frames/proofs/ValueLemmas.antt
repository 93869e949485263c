-- A line `name:value`, and the first of a name.
use Rattle.std.proofs.Common.{◌≡◌, ◌≢◌, ℕ, ◌+◌, ◌<◌, Bool, true, false, cond, eqb, List, [], ◌∷◌, ◌++◌, length, take, drop, refl, sym, ap, ◌∙◌, subst, inl, inr, add-one, Option, Some, None, arith}
use Rattle.std.specs.Prelude.{option_map, option_and_then, position}
use Rattle.std.specs.List.{position_from}
use Rattle.std.specs.Str.{bytes_eq, str_to_ascii_lowercase}
use Rattle.std.proofs.lemmas.Bool.{cond-true, cond-false, cases_Bool, eqb-true, eqb-false, eq-eqb, ne_eqb}
use Rattle.std.proofs.lemmas.Iterator.Adapters.{position_from-zero}
use Rattle.std.proofs.lemmas.Option.{some_pair_parts}
use Rattle.web_heads.specs.Texts.{cut}
use Rattle.web_heads.proofs.StepLemmas.{found_after, found_map, chosen}
use Rattle.web_heads.proofs.TextLemmas.{cut-Some}
use Rattle.std.proofs.lemmas.Slice.Eq.{bytes_eq-Decides}
use Rattle.web_frames.specs.Lines.{colon, space, lines_of, without_space, value_if_named, value_of, or_else, first_of, first_value}
use Rattle.web_frames.specs.Standard.{FollowsColon, spaced, close, GivesValue, LacksName, IsFirstValue}

-- ---- a colon

-- a text is cut at the place of the first of a byte
abbrev pub IsCutAt : ℕ → ℕ → List ℕ → Option ℕ → Type 0
IsCutAt stop i text None = cut stop text ≡ None
IsCutAt stop i text (Some place) = (k : ℕ) × (place ≡ i + k) × (k < length text) × (cut stop text ≡ Some (take k text, drop (k + 1) text))

take-cons : (k b : ℕ) (text : List ℕ) → b ∷ take k text ≡ take (k + 1) (b ∷ text)
take-cons k b text = rw (add-one k)

drop-cons : (k b : ℕ) (text : List ℕ) → drop k text ≡ drop (k + 1) (b ∷ text)
drop-cons k b text = rw (add-one k)

cut_before : (stop i b : ℕ) (text : List ℕ) (ends : Bool) → eqb b stop ≡ ends → (o : Option ℕ) → IsCutAt stop (i + 1) text o → IsCutAt stop i (b ∷ text) (cond ends (Some i) o)
unfolding cut
cut_before stop i b text true e o rest = (0, omega arith, omega arith, cond-true (eqb b stop) _ _ e)
cut_before stop i b text false e None rest = cond-false (eqb b stop) _ _ e ∙ ap (option_map (λ (parts : List ℕ × List ℕ). (b ∷ parts.0, parts.1))) rest
cut_before stop i b text false e (Some place) rest = (
  rest.0 + 1,
  omega (arith, rest.1),
  omega (arith, rest.2),
  cond-false (eqb b stop) _ _ e ∙ ap (option_map (λ (parts : List ℕ × List ℕ). (b ∷ parts.0, parts.1))) rest.3
      ∙ rw (take-cons rest.0 b text, drop-cons (rest.0 + 1) b text),
)

cut_at : (stop i : ℕ) (text : List ℕ) → IsCutAt stop i text (position_from (λ b. eqb b stop) i text)
unfolding cut
cut_at stop i [] = refl
cut_at stop i (b ∷ text) = cut_before stop i b text (eqb b stop) refl (position_from (λ d. eqb d stop) (i + 1) text) (cut_at stop (i + 1) text)

pub cut-position : (stop : ℕ) (text : List ℕ) → IsCutAt stop 0 text (position (λ b. eqb b stop) text)
cut-position stop text = subst (IsCutAt stop 0 text) (sym (position_from-zero (λ b. eqb b stop) text)) (cut_at stop 0 text)

nil-append : (front : List ℕ) (b : ℕ) (back : List ℕ) → [] ≢ front ++ b ∷ back
nil-append [] b back e = cc
nil-append (c ∷ front) b back e = cc

-- a byte that a text lacks
abbrev pub Lacks : ℕ → List ℕ → Type 0
Lacks stop text = (front back : List ℕ) → text ≢ front ++ stop ∷ back

pub Lacks-nil : (stop : ℕ) → Lacks stop []
Lacks-nil stop front back = nil-append front stop back

pub Lacks-cons : (stop b : ℕ) (text : List ℕ) → b ≢ stop → Lacks stop text → Lacks stop (b ∷ text)
Lacks-cons stop b text other lacks [] back e = let same : b ≡ stop = cc in other same
Lacks-cons stop b text other lacks (c ∷ front) back e = let rest : text ≡ front ++ stop ∷ back = cc in lacks front back rest

pub Lacks-tail : (stop b : ℕ) (text : List ℕ) → Lacks stop (b ∷ text) → Lacks stop text
Lacks-tail stop b text lacks front back e = lacks (b ∷ front) back (ap (λ (rest : List ℕ). b ∷ rest) e)

-- the front of a text that is cut lacks the byte
cut-lacks : (stop : ℕ) (text front back : List ℕ) → cut stop text ≡ Some (front, back) → Lacks stop front
unfolding cut
cut-lacks stop [] front back e f g is = absurd (cc)
cut-lacks stop (b ∷ text) front back e f g is =
    elim (chosen (eqb b stop) (Some ([], text)) (option_map (λ (parts : List ℕ × List ℕ). (b ∷ parts.0, parts.1)) (cut stop text)) (Some (front, back)) e) [
      | inl h ↦ nil-append f stop g ((some_pair_parts [] front text back h.1).0 ∙ is)
      | inr h ↦
          let p = found_map (cut stop text) (λ (parts : List ℕ × List ℕ). (b ∷ parts.0, parts.1)) (front, back) h.1 in
          let first : b ∷ p.0.0 ≡ f ++ stop ∷ g = ap (λ (parts : List ℕ × List ℕ). parts.0) p.2 ∙ is in
          Lacks-cons stop b p.0.0 (eqb-false b stop h.0) (cut-lacks stop text p.0.0 p.0.1 p.1) f g first
    ]

pub cut-lacking : (stop : ℕ) (front back : List ℕ) → Lacks stop front → cut stop (front ++ stop ∷ back) ≡ Some (front, back)
unfolding cut
cut-lacking stop [] back lacks = cond-true (eqb stop stop) _ _ (eq-eqb stop stop refl)
cut-lacking stop (b ∷ front) back lacks =
    let other : b ≢ stop = λ same. lacks [] front (ap (λ (c : ℕ). c ∷ front) same) in
    cond-false (eqb b stop) _ _ (ne_eqb b stop other)
    ∙ ap (option_map (λ (parts : List ℕ × List ℕ). (b ∷ parts.0, parts.1))) (cut-lacking stop front back (Lacks-tail stop b front lacks))

-- ---- one line

without_space-follows : (rest : List ℕ) → FollowsColon rest (without_space rest)
without_space-follows [] = close (λ more e. cc) refl
without_space-follows (b ∷ text) = elim (cases_Bool (eqb b space)) [
  | inl e ↦ spaced (ap (λ (c : ℕ). c ∷ text) (eqb-true b space e) ∙ ap (λ (value : List ℕ). space ∷ value) (sym (cond-true (eqb b space) text (b ∷ text) e)))
  | inr e ↦ close (λ more is. let same : b ≡ space = cc in eqb-false b space e same) (cond-false (eqb b space) text (b ∷ text) e)
]

FollowsColon-value : (rest value : List ℕ) → FollowsColon rest value → without_space rest ≡ value
FollowsColon-value rest value (spaced e) = ap without_space e
FollowsColon-value [] value (close other e) = sym e
FollowsColon-value (b ∷ text) value (close other e) =
    cond-false (eqb b space) text (b ∷ text) (ne_eqb b space λ same. other text (ap (λ (c : ℕ). c ∷ text) same)) ∙ sym e

pub GivesValue-value_of : (name line value : List ℕ) → value_of name line ≡ Some value → GivesValue name line value
unfolding value_of
GivesValue-value_of name line value e =
    let p = found_after (cut colon line) (value_if_named name) value e in
    elim (chosen (bytes_eq (str_to_ascii_lowercase p.0.0) name) (Some (without_space p.0.1)) None (Some value) p.2) [
      | inl h ↦
          let is : without_space p.0.1 ≡ value = cc in
          record {
            own = p.0.0;
            line_is = record {
              rest = p.0.1;
              whole = cut-Some colon line p.0.0 p.0.1 p.1;
              first = cut-lacks colon line p.0.0 p.0.1 p.1;
              follows = subst (FollowsColon p.0.1) is (without_space-follows p.0.1);
            };
            same = (bytes_eq-Decides (str_to_ascii_lowercase p.0.0) name).0 h.0;
          }
      | inr h ↦ absurd (cc)
    ]

pub value_of-GivesValue : (name line value : List ℕ) → GivesValue name line value → value_of name line ≡ Some value
unfolding value_of
value_of-GivesValue name line value g =
    let found = ap (cut colon) g.line_is.whole ∙ cut-lacking colon g.own g.line_is.rest g.line_is.first in
    ap (option_and_then (value_if_named name)) found
    ∙ cond-true (bytes_eq (str_to_ascii_lowercase g.own) name) _ _ ((bytes_eq-Decides (str_to_ascii_lowercase g.own) name).1 g.same)
    ∙ ap (λ (text : List ℕ). Some text) (FollowsColon-value g.line_is.rest value g.line_is.follows)

pub value_of-nil : (name : List ℕ) → value_of name [] ≡ None
unfolding value_of cut
value_of-nil name = refl

-- ---- lines

pub LacksName-nil : (name : List ℕ) → LacksName name []
LacksName-nil name [] back line value e g = cc
LacksName-nil name (l ∷ front) back line value e g = cc

pub LacksName-cons : (name l : List ℕ) (lines : List (List ℕ)) → ((value : List ℕ) → ¬ GivesValue name l value) → LacksName name lines → LacksName name (l ∷ lines)
LacksName-cons name l lines never lacks [] back line value e g = let same : line ≡ l = cc in never value (subst (λ (text : List ℕ). GivesValue name text value) same g)
LacksName-cons name l lines never lacks (m ∷ front) back line value e g = let rest : lines ≡ front ++ line ∷ back = cc in lacks front back line value rest g

LacksName-tail : (name l : List ℕ) (lines : List (List ℕ)) → LacksName name (l ∷ lines) → LacksName name lines
LacksName-tail name l lines lacks front back line value e g = lacks (l ∷ front) back line value (ap (λ (rest : List (List ℕ)). l ∷ rest) e) g

pub none_given : (name line : List ℕ) → value_of name line ≡ None → (value : List ℕ) → ¬ GivesValue name line value
none_given name line e value g = let found = value_of-GivesValue name line value g in cc

none_found : (name line : List ℕ) (o : Option (List ℕ)) → value_of name line ≡ o → ((value : List ℕ) → ¬ GivesValue name line value) → o ≡ None
none_found name line None e never = refl
none_found name line (Some value) e never = absurd (never value (GivesValue-value_of name line value e))

pub first_of-nil : (name : List ℕ) → first_of name [] ≡ None
unfolding first_of
first_of-nil name = refl

pub first_of-cons : (name line : List ℕ) (lines : List (List ℕ)) → first_of name (line ∷ lines) ≡ or_else (value_of name line) (first_of name lines)
unfolding first_of
first_of-cons name line lines = refl

first_by : (name value line : List ℕ) (lines : List (List ℕ)) (o rest : Option (List ℕ)) → value_of name line ≡ o → or_else o rest ≡ Some value
    → (rest ≡ Some value → IsFirstValue name lines value) → IsFirstValue name (line ∷ lines) value
first_by name value line lines (Some found) rest e is later =
    let same : found ≡ value = cc in
    record {
      front = [];
      line = line;
      back = lines;
      whole = refl;
      gives = GivesValue-value_of name line value (e ∙ is);
      first = LacksName-nil name;
    }
first_by name value line lines None rest e is later =
    let next = later is in
    record {
      front = line ∷ next.front;
      line = next.line;
      back = next.back;
      whole = ap (λ (more : List (List ℕ)). line ∷ more) next.whole;
      gives = next.gives;
      first = LacksName-cons name line next.front (none_given name line e) next.first;
    }

pub IsFirstValue-first_of : (name : List ℕ) (lines : List (List ℕ)) (value : List ℕ) → first_of name lines ≡ Some value → IsFirstValue name lines value
IsFirstValue-first_of name [] value e = let none = first_of-nil name in absurd (cc)
IsFirstValue-first_of name (line ∷ lines) value e =
    first_by name value line lines (value_of name line) (first_of name lines) refl (sym (first_of-cons name line lines) ∙ e) (IsFirstValue-first_of name lines value)

first_of-lacking : (name : List ℕ) (front back : List (List ℕ)) → LacksName name front → first_of name (front ++ back) ≡ first_of name back
first_of-lacking name [] back lacks = refl
first_of-lacking name (line ∷ front) back lacks =
    let none = none_found name line (value_of name line) refl (λ value. lacks [] front line value refl) in
    first_of-cons name line (front ++ back)
    ∙ ap (λ (o : Option (List ℕ)). or_else o (first_of name (front ++ back))) none
    ∙ first_of-lacking name front back (LacksName-tail name line front lacks)

pub first_of-IsFirstValue : (name : List ℕ) (lines : List (List ℕ)) (value : List ℕ) → IsFirstValue name lines value → first_of name lines ≡ Some value
first_of-IsFirstValue name lines value first =
    ap (first_of name) first.whole
    ∙ first_of-lacking name first.front (first.line ∷ first.back) first.first
    ∙ first_of-cons name first.line first.back
    ∙ ap (λ (o : Option (List ℕ)). or_else o (first_of name first.back)) (value_of-GivesValue name first.line value first.gives)

pub first_of-LacksName : (name : List ℕ) (lines : List (List ℕ)) → LacksName name lines → first_of name lines ≡ None
first_of-LacksName name [] lacks = first_of-nil name
first_of-LacksName name (line ∷ lines) lacks =
    let none = none_found name line (value_of name line) refl (λ value. lacks [] lines line value refl) in
    first_of-cons name line lines
    ∙ ap (λ (o : Option (List ℕ)). or_else o (first_of name lines)) none
    ∙ first_of-LacksName name lines (LacksName-tail name line lines lacks)

both_none : (o rest : Option (List ℕ)) → or_else o rest ≡ None → (o ≡ None) × (rest ≡ None)
both_none None rest e = (refl, e)
both_none (Some value) rest e = absurd (cc)

pub LacksName-first_of : (name : List ℕ) (lines : List (List ℕ)) → first_of name lines ≡ None → LacksName name lines
LacksName-first_of name [] e = LacksName-nil name
LacksName-first_of name (line ∷ lines) e =
    let none = both_none (value_of name line) (first_of name lines) (sym (first_of-cons name line lines) ∙ e) in
    LacksName-cons name line lines (none_given name line none.0) (LacksName-first_of name lines none.1)

-- ---- by the place of the colon, as code finds it

place_cut : (place : ℕ) (line : List ℕ) → Some place ≡ position (λ b. eqb b colon) line → (place < length line) × (cut colon line ≡ Some (take place line, drop (place + 1) line))
place_cut place line e =
    let h : IsCutAt colon 0 line (Some place) = subst (IsCutAt colon 0 line) (sym e) (cut-position colon line) in
    let same : h.0 ≡ place = omega (arith, h.1) in
    subst (λ (k : ℕ). (k < length line) × (cut colon line ≡ Some (take k line, drop (k + 1) line))) same (h.2, h.3)

pub value_of-no_colon : (name line : List ℕ) → None ≡ position (λ b. eqb b colon) line → value_of name line ≡ None
unfolding value_of
value_of-no_colon name line e =
    let h : IsCutAt colon 0 line None = subst (IsCutAt colon 0 line) (sym e) (cut-position colon line) in ap (option_and_then (value_if_named name)) h

pub value_of-colon : (name line : List ℕ) (place : ℕ) (named : Bool) → Some place ≡ position (λ b. eqb b colon) line → bytes_eq (str_to_ascii_lowercase (take place line)) name ≡ named
    → value_of name line ≡ cond named (Some (without_space (drop (place + 1) line))) None
unfolding value_of
value_of-colon name line place named e is =
    ap (option_and_then (value_if_named name)) (place_cut place line e).1
    ∙ ap (λ (b : Bool). cond b (Some (without_space (drop (place + 1) line))) None) is

pub first_value-named : (name text line more value : List ℕ) → lines_of text ≡ line ∷ lines_of more → Some value ≡ value_of name line → Some value ≡ first_value name text
first_value-named name text line more value e is =
    sym (ap (first_of name) e ∙ first_of-cons name line (lines_of more) ∙ ap (λ (o : Option (List ℕ)). or_else o (first_value name more)) (sym is))

pub first_value-other : (name text line more : List ℕ) → lines_of text ≡ line ∷ lines_of more → None ≡ value_of name line → first_value name more ≡ first_value name text
first_value-other name text line more e is =
    sym (ap (first_of name) e ∙ first_of-cons name line (lines_of more) ∙ ap (λ (o : Option (List ℕ)). or_else o (first_value name more)) (sym is))

or_else-None : (o : Option (List ℕ)) → or_else o None ≡ o
or_else-None None = refl
or_else-None (Some value) = refl

pub first_value-last : (name text : List ℕ) → lines_of text ≡ text ∷ [] → value_of name text ≡ first_value name text
first_value-last name text e =
    sym (ap (first_of name) e ∙ first_of-cons name text [] ∙ ap (or_else (value_of name text)) (first_of-nil name) ∙ or_else-None (value_of name text))
