-- What a printed text begins with, and that it has only one text.
use Rattle.std.proofs.Common.{◌≡◌, ◌≢◌, ℕ, ◌+◌, ◌/◌, ◌≤◌, Bool, List, [], ◌∷◌, ◌++◌, true, false, cond, eqb, ltb, refl, sym, ap, ◌∙◌, ◌⊎◌, inl, inr, arith, append_assoc, append-nil, length}
use Rattle.std.specs.Prelude.{Option, None, Some, option_map, unwrap_or}
use Rattle.std.proofs.lemmas.Bool.Decides.{nat_tests}
use Rattle.std.proofs.lemmas.List.Concat.{flat_map-cons}
use lib.Utf8.{encode}
use Rattle.cn_types.specs.Printed.{escaped, escaped_byte, pending}

-- the byte that a letter behind a backslash stands for
abbrev plain_of : ℕ → Option ℕ
plain_of b = cond (eqb b 92) (Some 92) (cond (eqb b 116) (Some 9) (cond (eqb b 110) (Some 10) (cond (eqb b 114) (Some 13) None)))

abbrev behind_backslash : List ℕ → Option (ℕ × List ℕ)
behind_backslash [] = None
behind_backslash (b ∷ rest) = option_map (λ c. (c, rest)) (plain_of b)

-- the first byte of the text that is printed so, and what is left of the spelling
abbrev pub first_of : List ℕ → Option (ℕ × List ℕ)
first_of [] = None
first_of (b ∷ rest) = cond (eqb b 92) (behind_backslash rest) (cond (eqb b 9) None (cond (eqb b 10) None (cond (eqb b 13) None (Some (b, rest)))))

first_by_tests : (b : ℕ) (rest : List ℕ) (slash tab line carriage : Bool) → slash ≡ eqb b 92 → tab ≡ eqb b 9 → line ≡ eqb b 10 → carriage ≡ eqb b 13
    → first_of (cond slash (92 ∷ 92 ∷ []) (cond tab (92 ∷ 116 ∷ []) (cond line (92 ∷ 110 ∷ []) (cond carriage (92 ∷ 114 ∷ []) (b ∷ [])))) ++ rest) ≡ Some (b, rest)
first_by_tests b rest true tab line carriage s t l c = let e : b ≡ 92 = grind (arith, nat_tests) in rw e refl
first_by_tests b rest false true line carriage s t l c = let e : b ≡ 9 = grind (arith, nat_tests) in rw e refl
first_by_tests b rest false false true carriage s t l c = let e : b ≡ 10 = grind (arith, nat_tests) in rw e refl
first_by_tests b rest false false false true s t l c = let e : b ≡ 13 = grind (arith, nat_tests) in rw e refl
first_by_tests b rest false false false false s t l c = rw (← s, ← t, ← l, ← c) refl

first_of-escaped_byte : (b : ℕ) (rest : List ℕ) → first_of (escaped_byte b ++ rest) ≡ Some (b, rest)
first_of-escaped_byte b rest = first_by_tests b rest _ _ _ _ refl refl refl refl

-- a printed text gives its first byte, and the rest as it is printed
pub first_of-escaped : (b : ℕ) (text : List ℕ) → first_of (escaped (b ∷ text)) ≡ Some (b, escaped text)
first_of-escaped b text = ap first_of (flat_map-cons escaped_byte b text) ∙ first_of-escaped_byte b (escaped text)

-- what two spellings give, where they are the same
same_first : (x y : ℕ) (r s : List ℕ) → ◌≡◌ {A = Option (ℕ × List ℕ)} (Some (x, r)) (Some (y, s)) → (x ≡ y) × (r ≡ s)
same_first x y r s e = (ap (λ (o : Option (ℕ × List ℕ)). (unwrap_or o (0, [])).0) e, ap (λ (o : Option (ℕ × List ℕ)). (unwrap_or o (0, [])).1) e)

nothing : (p : ℕ × List ℕ) {P : Type 0} → None ≡ Some p → P
nothing p e = cc

-- where nothing can be read, only the empty text can have been printed
pub not_escaped : (b : ℕ) (rest text : List ℕ) → first_of (b ∷ rest) ≡ None → escaped text ≢ b ∷ rest
not_escaped b rest [] none e = cc
not_escaped b rest (x ∷ text) none e = nothing (x, escaped text) (sym none ∙ ap first_of (sym e) ∙ first_of-escaped x text)

first_of-append : (x : ℕ) (front back : List ℕ) → first_of (escaped (x ∷ front) ++ back) ≡ Some (x, escaped front ++ back)
first_of-append x front back =
    ap (λ (s : List ℕ). first_of (s ++ back)) (flat_map-cons escaped_byte x front) ∙ ap first_of (append_assoc (escaped_byte x) (escaped front) back)
    ∙ first_of-escaped_byte x (escaped front ++ back)

-- what stands behind a printed text that begins a printed text is a printed text
pub escaped-cancel : (front back text : List ℕ) → escaped text ≡ escaped front ++ back → (rest : List ℕ) × (escaped rest ≡ back)
escaped-cancel [] back text e = (text, e)
escaped-cancel (x ∷ front) back [] e = nothing (x, escaped front ++ back) (ap first_of e ∙ first_of-append x front back)
escaped-cancel (x ∷ front) back (y ∷ text) e =
    let same = same_first y x (escaped text) (escaped front ++ back) (sym (first_of-escaped y text) ∙ ap first_of e ∙ first_of-append x front back) in
    escaped-cancel front back text same.1

-- two texts that are printed alike are the same
pub escaped_injective : (a b : List ℕ) → escaped a ≡ escaped b → a ≡ b
escaped_injective [] [] e = refl
escaped_injective [] (y ∷ b) e = nothing (y, escaped b) (ap first_of e ∙ first_of-escaped y b)
escaped_injective (x ∷ a) [] e = nothing (x, escaped a) (ap first_of (sym e) ∙ first_of-escaped x a)
escaped_injective (x ∷ a) (y ∷ b) e =
    let same = same_first x y (escaped a) (escaped b) (sym (first_of-escaped x a) ∙ ap first_of e ∙ first_of-escaped y b) in
    let rest = escaped_injective a b same.1 in
    ap (λ (first : ℕ). first ∷ a) same.0 ∙ ap (λ (tail : List ℕ). y ∷ tail) rest

-- a character's first byte is the character itself, or 128 and more
abbrev pub FirstByte : ℕ → List ℕ → Type 0
FirstByte c bytes = (b : ℕ) × ((rest : List ℕ) × ((bytes ≡ b ∷ rest) × ((b ≡ c) ⊎ (128 ≤ b))))

first_byte-cond : (c : ℕ) (test : Bool) (xs ys : List ℕ) → FirstByte c xs → FirstByte c ys → FirstByte c (cond test xs ys)
first_byte-cond c true xs ys one two = one
first_byte-cond c false xs ys one two = two

pub first_byte : (c : ℕ) → FirstByte c (encode c)
unfolding encode
first_byte c =
    first_byte-cond c (ltb c 128) _ _ (c, ([], (refl, inl refl)))
    (first_byte-cond c (ltb c 2048) _ _ (192 + c / 64, (_, (refl, inr (omega arith))))
    (first_byte-cond c (ltb c 65536) _ _ (224 + c / 4096, (_, (refl, inr (omega arith))))
    (240 + c / 262144, (_, (refl, inr (omega arith))))))

-- no printed text goes on, behind a printed beginning, with what can't be read
pub stops_here : (front : List ℕ) (b : ℕ) (rest text : List ℕ) → first_of (b ∷ rest) ≡ None → escaped text ≢ escaped front ++ b ∷ rest
stops_here front b rest text none e =
    let back = escaped-cancel front (b ∷ rest) text e in
    not_escaped b rest back.0 none back.1

-- a character behind a backslash that is none of the four letters
pub not_a_letter : (c : ℕ) → c ≢ 92 → c ≢ 116 → c ≢ 110 → c ≢ 114 → (rest : List ℕ) → first_of (92 ∷ (encode c ++ rest)) ≡ None
not_a_letter c one two three four rest = by (first_byte c)
  where
    none : (b : ℕ) → b ≢ 92 → b ≢ 116 → b ≢ 110 → b ≢ 114 → (tail : List ℕ) → first_of (92 ∷ b ∷ tail) ≡ None
    none b p q r s tail = grind (arith, nat_tests)

    by : FirstByte c (encode c) → first_of (92 ∷ (encode c ++ rest)) ≡ None
    by (b, (tail, (is, inl same))) = rw is (none b (λ e. one (sym same ∙ e)) (λ e. two (sym same ∙ e)) (λ e. three (sym same ∙ e)) (λ e. four (sym same ∙ e)) (tail ++ rest))
    by (b, (tail, (is, inr high))) = rw is (none b (λ e. omega arith) (λ e. omega arith) (λ e. omega arith) (λ e. omega arith) (tail ++ rest))

-- what is printed behind a printed beginning
pub escaped-append : (front back : List ℕ) → escaped (front ++ back) ≡ escaped front ++ escaped back
escaped-append [] back = refl
escaped-append (b ∷ front) back =
    flat_map-cons escaped_byte b (front ++ back) ∙ ap (λ (s : List ℕ). escaped_byte b ++ s) (escaped-append front back)
    ∙ sym (append_assoc (escaped_byte b) (escaped front) (escaped back)) ∙ ap (λ (s : List ℕ). s ++ escaped back) (sym (flat_map-cons escaped_byte b front))

-- no printed text goes on, behind a printed beginning, with what no text is printed as
pub stops_behind : (front back text : List ℕ) → ((t : List ℕ) → escaped t ≢ back) → escaped text ≢ escaped front ++ back
stops_behind front back text none e = let rest = escaped-cancel front back text e in none rest.0 rest.1

-- a printed text does not end behind a single backslash
pub not_pending : (front rest spelling : List ℕ) (escaping : Bool) → escaping ≡ true → length rest ≡ 0 → (escaped front ++ pending escaping) ++ rest ≡ spelling → (text : List ℕ) → escaped text ≢ spelling
not_pending front (b ∷ rest) spelling escaping is over e text spelled = absurd (omega (arith, over))
not_pending front [] spelling false is over e text spelled = cc
not_pending front [] spelling true is over e text spelled = stops_here front 92 [] text refl (spelled ∙ sym e ∙ append-nil (escaped front ++ 92 ∷ []))
