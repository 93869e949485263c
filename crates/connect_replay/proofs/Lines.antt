-- The words of a line.
use Rattle.std.specs.Borrow.{Bor}
use Rattle.std.proofs.Common.{◌≡◌, ◌≢◌, ⊎_elim, inl, inr, refl, ℕ, suc, ◌+◌, ◌%◌, ◌<◌, ◌≤◌, ◌^◌, ℤ, pos, negsuc, List, ◌∷◌, [], ◌++◌, length, Option, Some, None, true, arith, subst, length-append, take, Result, Ok, Err, sym, ap, ◌∙◌, unwrap_or}
use lib.Signed.{mag}
use Rattle.std.specs.Prelude.{IsSomeAnd, MatchOption, codes, All, IsTrue, IfOk}
use Rattle.std.specs.declared.alloc.AllocError.{AllocError}
use Rattle.std.specs.List.{AllByRecursion, join_with_byte}
use Rattle.std.specs.Str.{IsUtf8}
use Rattle.std.specs.Fmt.{decimal, signed_decimal}
use Rattle.std.proofs.Math.Seq.{drop-append_seam, take-append_seam}
use Rattle.std.proofs.lemmas.Bool.Decides.{nat_tests}
use Rattle.std.proofs.lemmas.Fmt.{decimal_by_steps}
use Rattle.std.proofs.lemmas.List.Elements.{All-from_recursion, All-append, All-cons, All-nil, All-weaker, All-same, All-head, All-drop}
use Rattle.std.proofs.lemmas.Str.{IsUtf8-from_ascii}
use Rattle.std.proofs.lemmas.Str.Ascii.{IsAscii-from_all, IsAscii-push}
use Rattle.connect_replay.specs.declared.ask.Ask.{Ask}
use Rattle.connect_replay.specs.Ask.{IsAsk, IsPlain, IsLineOf, IsNoLine, IsNoScript, Spells, is_word_byte, spelled, words_of}

-- an option that can't be None is some value with a fact
pub IsSomeAnd-from_match : {A : Type 0} (o : Option A) (P : A → Type 0) → MatchOption o ⊥ P → IsSomeAnd o P
IsSomeAnd-from_match None P h = absurd h
IsSomeAnd-from_match (Some x) P h = h

-- a byte of a word: a letter, a digit, `_` or `-`, and no control, no space and no byte from 128 on
IsGraphic : ℕ → Type 0
IsGraphic b = (45 ≤ b) × (b < 123)

-- and a byte of a line: one of these or a space
abbrev pub IsPrintable : ℕ → Type 0
IsPrintable b = (32 ≤ b) × (b < 123)

plain_from_graphic : (text : List ℕ) → All IsGraphic text → IsPlain text
unfolding IsGraphic
plain_from_graphic text graphic = All-weaker IsGraphic (λ b. b ≢ 32) (λ b within space. omega arith) text graphic

printable_from_graphic : (text : List ℕ) → All IsGraphic text → All IsPrintable text
unfolding IsGraphic
printable_from_graphic text graphic = All-weaker IsGraphic IsPrintable (λ b within. (omega arith, within.1)) text graphic

ask_graphic : All IsGraphic (codes "ask")
unfolding IsGraphic
ask_graphic = All-from_recursion IsGraphic (codes "ask") ((omega arith, omega arith), ((omega arith, omega arith), ((omega arith, omega arith), tt)))

range_graphic : All IsGraphic (codes "range")
unfolding IsGraphic
range_graphic =
    All-from_recursion IsGraphic (codes "range") ((omega arith, omega arith), ((omega arith, omega arith), ((omega arith, omega arith), ((omega arith, omega arith), ((omega arith, omega arith), tt)))))

pub ask_plain : IsPlain (codes "ask")
ask_plain = plain_from_graphic (codes "ask") ask_graphic

pub range_plain : IsPlain (codes "range")
range_plain = plain_from_graphic (codes "range") range_graphic

one_graphic : (b : ℕ) → IsGraphic b → All IsGraphic (b ∷ [])
one_graphic b graphic = All-from_recursion IsGraphic (b ∷ []) (graphic, tt)

word_byte-graphic : (b : ℕ) → is_word_byte b ≡ true → (45 ≤ b) × (b < 123)
word_byte-graphic b word = (grind (arith, nat_tests), grind (arith, nat_tests))

name_graphic : (name : List ℕ) → All (λ b. IsTrue (is_word_byte b)) name → All IsGraphic name
unfolding IsGraphic
name_graphic name words = All-weaker (λ b. IsTrue (is_word_byte b)) IsGraphic (λ b word. word_byte-graphic b word) name words

decimal_graphic : (n : ℕ) → n < 2 ^ 64 → All IsGraphic (decimal n)
unfolding IsGraphic
decimal_graphic n fits =
    decimal_by_steps (λ (k : ℕ) (ds : List ℕ). All IsGraphic ds)
    (λ k digit. one_graphic (48 + k) (omega arith, omega arith))
    (λ k ds large front. All-append IsGraphic ds _ front (one_graphic (48 + k % 10) (omega arith, omega arith)))
    n fits

signed_graphic : (z : ℤ) → mag z < 2 ^ 63 → All IsGraphic (signed_decimal z)
unfolding IsGraphic
signed_graphic (pos n) fits = decimal_graphic n (omega arith)
signed_graphic (negsuc n) fits = All-append IsGraphic (45 ∷ []) (decimal (suc n)) (one_graphic 45 (omega arith, omega arith)) (decimal_graphic (suc n) (omega arith))

-- a name has no space
pub name_plain : (name : List ℕ) → All (λ b. IsTrue (is_word_byte b)) name → IsPlain name
name_plain name words = plain_from_graphic name (name_graphic name words)

-- a number's spelling has no space
pub signed_plain : (z : ℤ) → mag z < 2 ^ 63 → IsPlain (signed_decimal z)
signed_plain z fits = plain_from_graphic (signed_decimal z) (signed_graphic z fits)

-- words of graphic bytes, joined by spaces
joined_printable : (words : List (List ℕ)) → AllByRecursion (All IsGraphic) words → All IsPrintable (join_with_byte 32 words)
joined_printable [] graphic = All-nil IsPrintable
joined_printable (word ∷ []) graphic = printable_from_graphic word graphic.0
joined_printable (word ∷ next ∷ words) graphic =
    All-append IsPrintable word (32 ∷ join_with_byte 32 (next ∷ words)) (printable_from_graphic word graphic.0)
    (All-cons IsPrintable 32 (join_with_byte 32 (next ∷ words)) (omega arith, omega arith) (joined_printable (next ∷ words) graphic.1))

-- the line of an ask
spelled_printable : (ask : Ask) → IsAsk ask → All IsPrintable (spelled ask)
spelled_printable ask valid =
    joined_printable (words_of ask)
    (ask_graphic, (name_graphic ask.name valid.name_is.word, (range_graphic, (signed_graphic ask.start valid.start_fits.sfits, (signed_graphic ask.end valid.end_fits.sfits, (signed_graphic ask.step valid.step_fits.sfits, tt))))))

-- a script of an ask is text
pub Spells-utf8 : (script : List ℕ) (ask : Ask) → Spells script ask → IsUtf8 script
Spells-utf8 script ask spells =
    let ascii = All-weaker IsPrintable (λ (b : ℕ). b < 128) (λ b within. omega arith) (spelled ask) (spelled_printable ask spells.valid) in
    ⊎_elim
    (λ (bare : script ≡ spelled ask). subst IsUtf8 (sym bare) (IsUtf8-from_ascii (spelled ask) (IsAscii-from_all (spelled ask) ascii)))
    (λ (ended : script ≡ spelled ask ++ 10 ∷ []).
    subst IsUtf8 (sym ended) (IsUtf8-from_ascii (spelled ask ++ 10 ∷ []) (IsAscii-push (spelled ask) 10 (IsAscii-from_all (spelled ask) ascii) (omega arith))))
    spells.line

-- no line of an ask ends with an LF
pub spelled-no_LF : (ask : Ask) (front : List ℕ) → IsAsk ask → spelled ask ≢ front ++ 10 ∷ []
spelled-no_LF ask front valid ends =
    let printable = All-same IsPrintable (front ++ 10 ∷ []) (spelled ask) (sym ends) (spelled_printable ask valid) in
    let last = All-head IsPrintable 10 [] (subst (All IsPrintable) (drop-append_seam front (10 ∷ [])) (All-drop IsPrintable (length front) (front ++ 10 ∷ []) printable)) in
    omega arith

-- an ask with these four parts
pub same_ask : (ask : Ask) (name : List ℕ) (start end step : ℤ) → name ≡ ask.name → start ≡ ask.start → end ≡ ask.end → step ≡ ask.step
    → ◌≡◌ {A = Ask} (record { name = name; start = start; end = end; step = step }) ask
same_ask ask name start end step name_is start_is end_is step_is =
    ap (λ (n : List ℕ). record { name = n; start = start; end = end; step = step }) name_is
    ∙ ap (λ (z : ℤ). record { name = ask.name; start = z; end = end; step = step }) start_is
    ∙ ap (λ (z : ℤ). record { name = ask.name; start = ask.start; end = z; step = step }) end_is
    ∙ ap (λ (z : ℤ). record { name = ask.name; start = ask.start; end = ask.end; step = z }) step_is

-- the parts of equal triples that are there
pub same_triple : (a b c x y z : ℤ) → ◌≡◌ {A = Option (ℤ × ℤ × ℤ)} (Some (a, b, c)) (Some (x, y, z)) → (a ≡ x) × (b ≡ y) × (c ≡ z)
same_triple a b c x y z same =
    let part = ap (λ (o : Option (ℤ × ℤ × ℤ)). unwrap_or o (a, b, c)) same in
    (ap (λ (t : ℤ × ℤ × ℤ). t.0) part, ap (λ (t : ℤ × ℤ × ℤ). t.1) part, ap (λ (t : ℤ × ℤ × ℤ). t.2) part)

same_front : (xs ys zs : List ℕ) → xs ++ zs ≡ ys ++ zs → xs ≡ ys
same_front xs ys zs same =
    let lengths : length xs ≡ length ys = omega (arith, length-append xs zs, length-append ys zs, ap (length {A = ℕ}) same) in
    sym (take-append_seam xs zs) ∙ ap (take (length xs)) same ∙ ap (λ (n : ℕ). take n (ys ++ zs)) lengths ∙ take-append_seam ys zs

pub IsLine-from_strip : (text : Bor (List ℕ)) (r : Option (Bor (List ℕ))) → MatchOption r ((front : List ℕ) → text.now ≢ front ++ 10 ∷ []) (λ x. text.now ≡ x.now ++ 10 ∷ []) → IsLineOf text.now (unwrap_or r text).now
IsLine-from_strip text None none =
    record { either = inl refl; stripped = λ front ends. absurd (none front ends) }
IsLine-from_strip text (Some x) ends =
    record { either = inr ends; stripped = λ front other. same_front x.now front (10 ∷ []) (sym ends ∙ other) }

-- what a line spells, its script spells
pub script_from_line : (script line : List ℕ) (r : Result (Option Ask) AllocError) → IsLineOf script line
    → IfOk r (λ found. MatchOption found (IsNoLine line) (λ ask. IsAsk ask × (line ≡ spelled ask)))
    → IfOk r (λ found. MatchOption found (IsNoScript script) (Spells script))
script_from_line script line (Err e) is found = tt
script_from_line script line (Ok None) is none = λ ask spells.
    ⊎_elim
    (λ (bare : script ≡ spelled ask).
    ⊎_elim (λ same. none ask spells.valid (sym same ∙ bare)) (λ ended. spelled-no_LF ask line spells.valid (sym bare ∙ ended)) is.either)
    (λ (ended : script ≡ spelled ask ++ 10 ∷ []). none ask spells.valid (is.stripped (spelled ask) ended))
    spells.line
script_from_line script line (Ok (Some ask)) is found =
    record { valid = found.0; line = ⊎_elim (λ same. inl (same ∙ found.1)) (λ ended. inr (ended ∙ ap (λ (l : List ℕ). l ++ 10 ∷ []) found.1)) is.either }
