-- A text is cut into lines at each CR LF, in one way.
use Rattle.std.proofs.Common.{◌≡◌, ℕ, ◌+◌, ◌<◌, Bool, true, false, cond, ◌&&◌, eqb, List, [], ◌∷◌, ◌++◌, length, get_or, take, drop, refl, sym, ap, ◌∙◌, inl, inr, add-one, subst, take-append-drop, arith}
use Rattle.std.proofs.lemmas.Bool.{false≢true, cond-true, cond-false, cases_Bool, and_from, and_parts, false_from_ne_true, eqb-true, eq-eqb}
use Rattle.std.proofs.lemmas.List.{drop_more, length-take-le, get_or-take}
use Rattle.web_frames.specs.Lines.{carriage_return, line_feed, before_lines, lines_of}
use Rattle.web_frames.specs.Standard.{IsLine, AreLines}

pub lines_of-nil : lines_of [] ≡ [] ∷ []
unfolding lines_of
lines_of-nil = refl

pub lines_of-cons : (b : ℕ) (bytes : List ℕ) → lines_of (b ∷ bytes) ≡ before_lines b (lines_of bytes)
unfolding lines_of
lines_of-cons b bytes = refl

-- what stands in a line's rest, and in a text that a line begins
pub IsLine-tail : (b : ℕ) (line : List ℕ) → IsLine (b ∷ line) → IsLine line
IsLine-tail b line is front back e = is (b ∷ front) back (ap (λ (rest : List ℕ). b ∷ rest) e)

pub IsLine-nil : IsLine []
IsLine-nil [] back e = cc
IsLine-nil (b ∷ front) back e = cc

-- a byte more before a line, where it is no CR before an LF
pub IsLine-cons : (b c : ℕ) (line : List ℕ) → (b ≡ carriage_return → c ≡ line_feed → ⊥) → IsLine (c ∷ line) → IsLine (b ∷ c ∷ line)
IsLine-cons b c line apart is [] back e = let first : b ≡ carriage_return = cc in let second : c ≡ line_feed = cc in apart first second
IsLine-cons b c line apart is (d ∷ front) back e = let rest : c ∷ line ≡ front ++ carriage_return ∷ line_feed ∷ back = cc in is front back rest

pub IsLine-one : (b : ℕ) → IsLine (b ∷ [])
IsLine-one b [] back e = cc
IsLine-one b (c ∷ []) back e = cc
IsLine-one b (c ∷ d ∷ front) back e = cc

-- a text in which no CR stands before an LF, by places
pub IsLine-from_places : (line : List ℕ) → ((k : ℕ) → k + 1 < length line → get_or line k 0 ≡ carriage_return → get_or line (k + 1) 0 ≡ line_feed → ⊥) → IsLine line
IsLine-from_places [] never = IsLine-nil
IsLine-from_places (b ∷ []) never = IsLine-one b
IsLine-from_places (b ∷ c ∷ line) never =
    IsLine-cons b c line (never 0 (omega arith)) (IsLine-from_places (c ∷ line) (λ k within first second. never (k + 1) (omega arith) (rw add-one first) (rw add-one second)))

-- ---- the function

pub before_lines-kept : (b : ℕ) (line : List ℕ) (lines : List (List ℕ)) → IsLine (b ∷ line) → before_lines b (line ∷ lines) ≡ (b ∷ line) ∷ lines
before_lines-kept b [] lines is = refl
before_lines-kept b (c ∷ line) lines is =
    cond-false (eqb b carriage_return && eqb c line_feed) _ _ (false_from_ne_true _ λ both.
    let parts = and_parts (eqb b carriage_return) (eqb c line_feed) both in
    let first = eqb-true b carriage_return parts.0 in
    let second = eqb-true c line_feed parts.1 in
    is [] line (cc))

before_lines-feed : (line : List ℕ) (lines : List (List ℕ)) → before_lines line_feed (line ∷ lines) ≡ (line_feed ∷ line) ∷ lines
before_lines-feed [] lines = refl
before_lines-feed (c ∷ line) lines = refl

-- a text has a first line
pub record HasFirst (lines : List (List ℕ)) : Type 0 where
  pub first : List ℕ
  pub rest : List (List ℕ)
  pub is : lines ≡ first ∷ rest

before_lines-first : (b : ℕ) (lines : List (List ℕ)) → HasFirst (before_lines b lines)
before_lines-first b [] = record { first = b ∷ []; rest = []; is = refl }
before_lines-first b ([] ∷ lines) = record { first = b ∷ []; rest = lines; is = refl }
before_lines-first b ((c ∷ line) ∷ lines) = elim (cases_Bool (eqb b carriage_return && eqb c line_feed)) [
  | inl e ↦ record { first = []; rest = line ∷ lines; is = cond-true _ _ _ e }
  | inr e ↦ record { first = b ∷ c ∷ line; rest = lines; is = cond-false _ _ _ e }
]

pub lines_of-first : (text : List ℕ) → HasFirst (lines_of text)
lines_of-first [] = record { first = []; rest = []; is = lines_of-nil }
lines_of-first (b ∷ text) =
    let found = before_lines-first b (lines_of text) in record { first = found.first; rest = found.rest; is = lines_of-cons b text ∙ found.is }

lines_of-ends : (text : List ℕ) → lines_of (carriage_return ∷ line_feed ∷ text) ≡ [] ∷ lines_of text
lines_of-ends text =
    let found = lines_of-first text in
    lines_of-cons carriage_return (line_feed ∷ text)
    ∙ ap (before_lines carriage_return) (lines_of-cons line_feed text ∙ ap (before_lines line_feed) found.is ∙ before_lines-feed found.first found.rest)
    ∙ ap (λ (lines : List (List ℕ)). [] ∷ lines) (sym found.is)

-- a line and its end, and what follows them
pub lines_of-line : (line text : List ℕ) → IsLine line → lines_of (line ++ carriage_return ∷ line_feed ∷ text) ≡ line ∷ lines_of text
lines_of-line [] text is = lines_of-ends text
lines_of-line (b ∷ line) text is =
    lines_of-cons b (line ++ carriage_return ∷ line_feed ∷ text)
    ∙ ap (before_lines b) (lines_of-line line text (IsLine-tail b line is))
    ∙ before_lines-kept b line (lines_of text) is

-- a last line
pub lines_of-last : (line : List ℕ) → IsLine line → lines_of line ≡ line ∷ []
lines_of-last [] is = lines_of-nil
lines_of-last (b ∷ line) is = lines_of-cons b line ∙ ap (before_lines b) (lines_of-last line (IsLine-tail b line is)) ∙ before_lines-kept b line [] is

-- ---- the relation

-- lines are of one text
pub lines_of-AreLines : (text : List ℕ) (lines : List (List ℕ)) → AreLines text lines → lines_of text ≡ lines
lines_of-AreLines text [] are = absurd are
lines_of-AreLines text (line ∷ []) are = ap lines_of are.1 ∙ lines_of-last line are.0
lines_of-AreLines text (line ∷ next ∷ lines) are =
    ap lines_of are.1.1
    ∙ lines_of-line line are.1.0 are.0
    ∙ ap (λ (rest : List (List ℕ)). line ∷ rest) (lines_of-AreLines are.1.0 (next ∷ lines) are.1.2)

-- a byte more before lines
AreLines-feed_gone : (text line : List ℕ) (lines : List (List ℕ)) → AreLines (line_feed ∷ text) ((line_feed ∷ line) ∷ lines) → AreLines text (line ∷ lines)
AreLines-feed_gone text line [] are = (IsLine-tail line_feed line are.0, let e = are.1 in cc)
AreLines-feed_gone text line (next ∷ lines) are = (IsLine-tail line_feed line are.0, (are.1.0, let e = are.1.1 in cc, are.1.2))

-- the first line of a text that begins with a byte begins with it, where it is not empty
AreLines-first_byte : (text line : List ℕ) (c : ℕ) (lines : List (List ℕ)) → AreLines text ((c ∷ line) ∷ lines) → (rest : List ℕ) × (text ≡ c ∷ rest)
AreLines-first_byte text line c [] are = (line, are.1)
AreLines-first_byte text line c (next ∷ lines) are = (line ++ carriage_return ∷ line_feed ∷ are.1.0, are.1.1)

AreLines-kept : (b : ℕ) (text line : List ℕ) (lines : List (List ℕ)) → IsLine (b ∷ line) → AreLines text (line ∷ lines) → AreLines (b ∷ text) ((b ∷ line) ∷ lines)
AreLines-kept b text line [] is are = (is, ap (λ (rest : List ℕ). b ∷ rest) are.1)
AreLines-kept b text line (next ∷ lines) is are = (is, (are.1.0, ap (λ (rest : List ℕ). b ∷ rest) are.1.1, are.1.2))

AreLines-ended : (text line : List ℕ) (lines : List (List ℕ)) → AreLines text ((line_feed ∷ line) ∷ lines) → AreLines (carriage_return ∷ text) ([] ∷ line ∷ lines)
AreLines-ended text line lines are =
    let p = AreLines-first_byte text line line_feed lines are in
    let moved : AreLines (line_feed ∷ p.0) ((line_feed ∷ line) ∷ lines) = subst (λ (t : List ℕ). AreLines t ((line_feed ∷ line) ∷ lines)) p.1 are in
    (IsLine-nil, (p.0, ap (λ (t : List ℕ). carriage_return ∷ t) p.1, AreLines-feed_gone p.0 line lines moved))

IsLine-of_first : (text line : List ℕ) (lines : List (List ℕ)) → AreLines text (line ∷ lines) → IsLine line
IsLine-of_first text line [] are = are.0
IsLine-of_first text line (next ∷ lines) are = are.0

-- the byte and the first line's first byte end a line, or not
AreLines-chosen : (b c : ℕ) (text line : List ℕ) (lines : List (List ℕ)) (ends : Bool) → (eqb b carriage_return && eqb c line_feed) ≡ ends
    → AreLines text ((c ∷ line) ∷ lines) → AreLines (b ∷ text) (cond ends ([] ∷ line ∷ lines) ((b ∷ c ∷ line) ∷ lines))
AreLines-chosen b c text line lines true e are =
    let parts = and_parts (eqb b carriage_return) (eqb c line_feed) e in
    let first : carriage_return ≡ b = sym (eqb-true b carriage_return parts.0) in
    let second : c ≡ line_feed = eqb-true c line_feed parts.1 in
    let moved = subst (λ (d : ℕ). AreLines text ((d ∷ line) ∷ lines)) second are in
    subst (λ (d : ℕ). AreLines (d ∷ text) ([] ∷ line ∷ lines)) first (AreLines-ended text line lines moved)
AreLines-chosen b c text line lines false e are =
    AreLines-kept b text (c ∷ line) lines
    (IsLine-cons b c line (λ first second. false≢true (sym e ∙ and_from (eqb b carriage_return) (eqb c line_feed) (eq-eqb b carriage_return first) (eq-eqb c line_feed second)))
    (IsLine-of_first text (c ∷ line) lines are))
    are

AreLines-before : (b : ℕ) (text : List ℕ) (lines : List (List ℕ)) → AreLines text lines → AreLines (b ∷ text) (before_lines b lines)
AreLines-before b text [] are = absurd are
AreLines-before b text ([] ∷ lines) are = AreLines-kept b text [] lines (IsLine-one b) are
AreLines-before b text ((c ∷ line) ∷ lines) are = AreLines-chosen b c text line lines (eqb b carriage_return && eqb c line_feed) refl are

-- the lines of a text
pub AreLines-lines_of : (text : List ℕ) → AreLines text (lines_of text)
AreLines-lines_of [] = subst (AreLines []) (sym lines_of-nil) (IsLine-nil, refl)
AreLines-lines_of (b ∷ text) = subst (AreLines (b ∷ text)) (sym (lines_of-cons b text)) (AreLines-before b text (lines_of text) (AreLines-lines_of text))

-- ---- by places, as code finds them

-- the first CR LF of a text stands at a place
pub lines_of-at : (text : List ℕ) (place : ℕ) → place + 1 < length text → get_or text place 0 ≡ carriage_return → get_or text (place + 1) 0 ≡ line_feed
    → ((k : ℕ) → k < place → get_or text k 0 ≡ carriage_return → get_or text (k + 1) 0 ≡ line_feed → ⊥)
    → lines_of text ≡ take place text ∷ lines_of (drop (place + 2) text)
lines_of-at text place within first second never =
    let line = take place text in
    let is : IsLine line = IsLine-from_places line (λ k inside one two.
    let short : length line ≡ place = length-take-le place text (omega arith) in
    never k (omega arith)
    (sym (get_or-take place text k 0 (omega arith)) ∙ one)
    (sym (get_or-take place text (k + 1) 0 (omega arith)) ∙ two)) in
    let one = drop_more text place 0 (omega arith) in
    let two = drop_more text (place + 1) 0 within in
    let more : place + 1 + 1 ≡ place + 2 = omega arith in
    let rest : drop place text ≡ carriage_return ∷ line_feed ∷ drop (place + 2) text = rw (one, first, two, second, more) in
    let whole : text ≡ line ++ carriage_return ∷ line_feed ∷ drop (place + 2) text = sym (take-append-drop place text) ∙ ap (λ (back : List ℕ). line ++ back) rest in
    ap lines_of whole ∙ lines_of-line line (drop (place + 2) text) is
