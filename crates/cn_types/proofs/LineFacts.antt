-- The lines of two rows of the same types differ where the rows do.
use Rattle.std.proofs.Common.{◌≡◌, ◌≢◌, ℕ, suc, ◌+◌, ◌/◌, ◌%◌, ◌^◌, ◌<◌, ◌≤◌, ℤ, pos, negsuc, Bool, List, [], ◌∷◌, ◌++◌, true, false, cond, eqb, length, get_or, map, refl, sym, ap, subst, ◌∙◌, ◌⊎◌, inl, inr, arith, rules, append_assoc}
use Rattle.std.specs.Prelude.{All}
use Rattle.std.specs.List.{join_with_byte}
use Rattle.std.specs.Fmt.{decimal, signed_decimal}
use Rattle.std.proofs.lemmas.Bool.Decides.{nat_tests}
use Rattle.std.proofs.lemmas.Fmt.{decimal_is_IsNumeral}
use Rattle.std.proofs.lemmas.Str.Parse.{digit_at}
use Rattle.std.proofs.lemmas.List.Concat.{flat_map-cons}
use lib.Signed.{mag}
use Rattle.cn_types.specs.declared.value.DataType.{DataType}
use Rattle.cn_types.specs.declared.value.Value.{Value}
use Rattle.cn_types.specs.declared.row.Row.{Row}
use Rattle.cn_types.specs.Fit.{HaveTypes, FitsTypes, HasBits}
use Rattle.jiff_fmt.specs.Text.{pad2, pad4}
use Rattle.cn_types.specs.Dates.{date_text, year_of, month_of, month_day_of}
use Rattle.cn_types.specs.Printed.{printed, escaped, escaped_byte, boolean_text, line_of, row_line}
use Rattle.cn_types.specs.PrintedLaws.{LinesTellRowsApart}
use Rattle.cn_types.proofs.PrintedFacts.{printed_injective, mag_small, wider}

-- a byte that ends a part of a line: TAB or LF
abbrev Ends : ℕ → Type 0
Ends b = (b ≡ 9) ⊎ (b ≡ 10)

-- no byte ends a part
abbrev Plain : List ℕ → Type 0
Plain [] = Unit {0}
Plain (b ∷ bs) = (b ≢ 9) × ((b ≢ 10) × Plain bs)

Plain-append : (xs ys : List ℕ) → Plain xs → Plain ys → Plain (xs ++ ys)
Plain-append [] ys one two = two
Plain-append (x ∷ xs) ys one two = (one.0, (one.1.0, Plain-append xs ys one.1.1 two))

Plain-digits : (ds : List ℕ) → ((i : ℕ) → i < length ds → 48 ≤ get_or ds i 0) → Plain ds
Plain-digits [] h = tt
Plain-digits (d ∷ ds) h =
    let first = h 0 (omega arith) in
    ((λ (e : d ≡ 9). absurd (omega (arith, first, e))), ((λ (e : d ≡ 10). absurd (omega (arith, first, e))), Plain-digits ds (λ (i : ℕ) (below : i < length ds). h (suc i) (omega (arith, below)))))

Plain-decimal : (n : ℕ) → n < 2 ^ 64 → Plain (decimal n)
Plain-decimal n small =
    Plain-digits (decimal n) (λ (i : ℕ) (below : i < length (decimal n)). (digit_at (decimal n) i (decimal_is_IsNumeral n small).0.1 below).0)

wide : (n : ℕ) → n < 2 ^ 63 → n < 2 ^ 64
wide n h = omega arith

wide_next : (n : ℕ) → n < 2 ^ 63 → suc n < 2 ^ 64
wide_next n h = omega arith

Plain-signed : (n : ℤ) → mag n < 2 ^ 63 → Plain (signed_decimal n)
Plain-signed (pos n) small = Plain-decimal n (wide n small)
Plain-signed (negsuc n) small = ((λ e. omega (arith, e)), ((λ e. omega (arith, e)), Plain-decimal (suc n) (wide_next n small)))

Plain-escaped_byte : (b : ℕ) (slash tab line carriage : Bool) → slash ≡ eqb b 92 → tab ≡ eqb b 9 → line ≡ eqb b 10 → carriage ≡ eqb b 13
    → Plain (cond slash (92 ∷ 92 ∷ []) (cond tab (92 ∷ 116 ∷ []) (cond line (92 ∷ 110 ∷ []) (cond carriage (92 ∷ 114 ∷ []) (b ∷ [])))))
Plain-escaped_byte b true tab line carriage s t l c = search rules
Plain-escaped_byte b false true line carriage s t l c = search rules
Plain-escaped_byte b false false true carriage s t l c = search rules
Plain-escaped_byte b false false false true s t l c = search rules
Plain-escaped_byte b false false false false s t l c =
    let tab : b ≢ 9 = λ e. grind (arith, nat_tests) in
    let line : b ≢ 10 = λ e. grind (arith, nat_tests) in
    (tab, (line, tt))

Plain-escaped : (text : List ℕ) → Plain (escaped text)
Plain-escaped [] = tt
Plain-escaped (b ∷ text) =
    subst (λ (s : List ℕ). Plain s) (sym (flat_map-cons escaped_byte b text)) (Plain-append (escaped_byte b) (escaped text) (Plain-escaped_byte b _ _ _ _ refl refl refl refl) (Plain-escaped text))

digit_plain : (n : ℕ) → (48 + n ≢ 9) × (48 + n ≢ 10)
digit_plain n = ((λ e. omega (arith, e)), (λ e. omega (arith, e)))

digit_more : (n : ℕ) (bs : List ℕ) → Plain bs → Plain ((48 + n) ∷ bs)
digit_more n bs rest = ((digit_plain n).0, ((digit_plain n).1, rest))

Plain-dash : Plain (45 ∷ [])
Plain-dash = ((λ e. omega (arith, e)), ((λ e. omega (arith, e)), tt))

Plain-pad2 : (n : ℕ) → Plain (pad2 n)
Plain-pad2 n = digit_more (n / 10) ((48 + n % 10) ∷ []) (digit_more (n % 10) [] tt)

Plain-dated : (year month day : ℕ) → Plain (pad4 year ++ 45 ∷ [] ++ pad2 month ++ 45 ∷ [] ++ pad2 day)
Plain-dated year month day =
    let years : Plain (pad4 year) = Plain-append (pad2 (year / 100)) (pad2 (year % 100)) (Plain-pad2 (year / 100)) (Plain-pad2 (year % 100)) in
    let dash = Plain-append (pad4 year) (45 ∷ []) years Plain-dash in
    let months = Plain-append (pad4 year ++ 45 ∷ []) (pad2 month) dash (Plain-pad2 month) in
    let dashes = Plain-append (pad4 year ++ 45 ∷ [] ++ pad2 month) (45 ∷ []) months Plain-dash in
    Plain-append (pad4 year ++ 45 ∷ [] ++ pad2 month ++ 45 ∷ []) (pad2 day) dashes (Plain-pad2 day)

Plain-date : (days : ℤ) → Plain (date_text days)
unfolding date_text
Plain-date days = Plain-dated (year_of days) (month_of days) (month_day_of days)

Plain-boolean : (b : Bool) → Plain (boolean_text b)
Plain-boolean true = search rules
Plain-boolean false = search rules

Plain-printed : (v : Value) → HasBits v → Plain (printed v)
Plain-printed Value.Null bits = search rules
Plain-printed (Value.Boolean b) bits = Plain-boolean b
Plain-printed (Value.Integer n) bits = Plain-signed n (mag_small n (wider n bits))
Plain-printed (Value.Long n) bits = Plain-signed n (mag_small n bits)
Plain-printed (Value.Text t) bits = Plain-escaped t
Plain-printed (Value.Date days) bits = Plain-date days

-- ---- parts of a line

record SameParts (p q : List ℕ) (s t : ℕ) (x y : List ℕ) : Type 0 where
  part : p ≡ q
  stop : s ≡ t
  rest : x ≡ y

same_cons : (a b : ℕ) (x y : List ℕ) → a ∷ x ≡ b ∷ y → (a ≡ b) × (x ≡ y)
same_cons a b x y e = (cc, cc)

not_end : (b s : ℕ) → b ≢ 9 → b ≢ 10 → Ends s → b ≢ s
not_end b s nine ten (inl tab) e = nine (e ∙ tab)
not_end b s nine ten (inr line) e = ten (e ∙ line)

same_parts : (p q : List ℕ) (s t : ℕ) (x y : List ℕ) → Plain p → Plain q → Ends s → Ends t → p ++ s ∷ x ≡ q ++ t ∷ y → SameParts p q s t x y
same_parts [] [] s t x y one two three four e = let same = same_cons s t x y e in record { part = refl; stop = same.0; rest = same.1 }
same_parts [] (b ∷ q) s t x y one two three four e = absurd (not_end b s two.0 two.1.0 three (sym (same_cons s b x (q ++ t ∷ y) e).0))
same_parts (a ∷ p) [] s t x y one two three four e = absurd (not_end a t one.0 one.1.0 four (same_cons a t (p ++ s ∷ x) y e).0)
same_parts (a ∷ p) (b ∷ q) s t x y one two three four e =
    let same = same_cons a b (p ++ s ∷ x) (q ++ t ∷ y) e in
    let more = same_parts p q s t x y one.1.1 two.1.1 three four same.1 in
    record { part = ap (λ (first : ℕ). first ∷ p) same.0 ∙ ap (λ (tail : List ℕ). b ∷ tail) more.part; stop = more.stop; rest = more.rest }

abbrev AllPlain : List (List ℕ) → Type 0
AllPlain [] = Unit {0}
AllPlain (p ∷ ps) = Plain p × AllPlain ps

tail_bits : (v : Value) (vs : List Value) → All HasBits (v ∷ vs) → All HasBits vs
tail_bits v vs h = λ (k : ℕ) (d : Value) (below : k < length vs). h (suc k) d (let next : suc k < length (v ∷ vs) = omega (arith, below) in next)

head_bits : (v : Value) (vs : List Value) → All HasBits (v ∷ vs) → HasBits v
head_bits v vs h = h 0 v (let first : 0 < length (v ∷ vs) = omega arith in first)

all_plain : (vs : List Value) → All HasBits vs → AllPlain (map printed vs)
all_plain [] h = tt
all_plain (v ∷ vs) h = (Plain-printed v (head_bits v vs h), all_plain vs (tail_bits v vs h))

-- one part after another
more_parts : (p q : List ℕ) (ps qs : List (List ℕ)) → p ≡ q → ps ≡ qs → p ∷ ps ≡ q ∷ qs
more_parts p q ps qs first rest = ap (λ (part : List ℕ). part ∷ ps) first ∙ ap (λ (parts : List (List ℕ)). q ∷ parts) rest

same_lines : (ps qs : List (List ℕ)) → length ps ≡ length qs → AllPlain ps → AllPlain qs → line_of ps ≡ line_of qs → ps ≡ qs
same_lines [] [] long one two e = refl
same_lines [] (q ∷ qs) long one two e = absurd (omega (arith, long))
same_lines (p ∷ ps) [] long one two e = absurd (omega (arith, long))
same_lines (p ∷ []) (q ∷ []) long one two e =
    let same = same_parts p q 10 10 [] [] one.0 two.0 (inr refl) (inr refl) e in
    more_parts p q [] [] same.part refl
same_lines (p ∷ []) (q ∷ r ∷ qs) long one two e = absurd (omega (arith, long))
same_lines (p ∷ o ∷ ps) (q ∷ []) long one two e = absurd (omega (arith, long))
same_lines (p ∷ o ∷ ps) (q ∷ r ∷ qs) long one two e =
    let left = append_assoc p (9 ∷ join_with_byte 9 (o ∷ ps)) (10 ∷ []) in
    let right = append_assoc q (9 ∷ join_with_byte 9 (r ∷ qs)) (10 ∷ []) in
    let same = same_parts p q 9 9 (line_of (o ∷ ps)) (line_of (r ∷ qs)) one.0 two.0 (inl refl) (inl refl) (sym left ∙ e ∙ right) in
    more_parts p q (o ∷ ps) (r ∷ qs) same.part (same_lines (o ∷ ps) (r ∷ qs) (omega (arith, long)) one.1 two.1 same.rest)

same_parts_cons : (p q : List ℕ) (ps qs : List (List ℕ)) → p ∷ ps ≡ q ∷ qs → (p ≡ q) × (ps ≡ qs)
same_parts_cons p q ps qs e = (cc, cc)

same_values : (kinds : List DataType) (a b : List Value) → HaveTypes kinds a → HaveTypes kinds b → All HasBits a → All HasBits b → map printed a ≡ map printed b → a ≡ b
same_values [] [] [] one two three four e = refl
same_values [] [] (w ∷ ws) one two three four e = absurd two
same_values [] (v ∷ vs) ws one two three four e = absurd one
same_values (k ∷ ks) [] ws one two three four e = absurd one
same_values (k ∷ ks) (v ∷ vs) [] one two three four e = absurd two
same_values (k ∷ ks) (v ∷ vs) (w ∷ ws) one two three four e =
    let same = same_parts_cons (printed v) (printed w) (map printed vs) (map printed ws) e in
    let first = printed_injective k v w one.0 two.0 (head_bits v vs three) (head_bits w ws four) same.0 in
    let rest = same_values ks vs ws one.1 two.1 (tail_bits v vs three) (tail_bits w ws four) same.1 in
    ap (λ (value : Value). value ∷ vs) first ∙ ap (λ (values : List Value). w ∷ values) rest

as_long : (kinds : List DataType) (a : List Value) → HaveTypes kinds a → length (map printed a) ≡ length kinds
as_long [] [] h = refl
as_long [] (v ∷ vs) h = absurd h
as_long (k ∷ ks) [] h = absurd h
as_long (k ∷ ks) (v ∷ vs) h = omega (arith, as_long ks vs h.1)

lines_of_types : (kinds : List DataType) (a b : Row) → FitsTypes kinds a → FitsTypes kinds b → All HasBits a.0 → All HasBits b.0 → row_line a ≡ row_line b → a ≡ b
lines_of_types kinds a b one two three four e =
    let long = as_long kinds a.0 one ∙ sym (as_long kinds b.0 two) in
    let parts = same_lines (map printed a.0) (map printed b.0) long (all_plain a.0 three) (all_plain b.0 four) e in
    ap (λ (values : List Value). let row : Row = record { 0 = values } in row) (same_values kinds a.0 b.0 one two three four parts)

pub lines_tell_apart : LinesTellRowsApart
lines_tell_apart schema = lines_of_types (map (λ field. field.kind) schema.0)
