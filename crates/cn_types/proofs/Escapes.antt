-- Which bytes and characters are printed as they are.
use Rattle.std.proofs.Common.{◌≡◌, ◌≢◌, ℕ, ◌+◌, ◌/◌, ◌%◌, ◌≤◌, Bool, List, [], ◌∷◌, ◌++◌, true, false, cond, ltb, refl, ap, ◌∙◌, arith}
use Rattle.std.proofs.lemmas.Bool.Decides.{nat_tests}
use Rattle.std.proofs.lemmas.List.Concat.{flat_map-cons}
use lib.Utf8.{encode}
use Rattle.cn_types.specs.Printed.{escaped, escaped_byte}

-- a byte that is none of the four is printed as it is
escaped_byte-plain : (b : ℕ) → b ≢ 92 → b ≢ 9 → b ≢ 10 → b ≢ 13 → escaped_byte b ≡ b ∷ []
escaped_byte-plain b one two three four = grind (arith, nat_tests)

-- and so is a text that begins with one
escaped-plain : (b : ℕ) (rest : List ℕ) → b ≢ 92 → b ≢ 9 → b ≢ 10 → b ≢ 13 → escaped rest ≡ rest → escaped (b ∷ rest) ≡ b ∷ rest
escaped-plain b rest one two three four kept =
    flat_map-cons escaped_byte b rest ∙ ap (λ (front : List ℕ). front ++ escaped rest) (escaped_byte-plain b one two three four) ∙ ap (λ (back : List ℕ). b ∷ back) kept

-- bytes from 128 on are none of the four
escaped-high : (b : ℕ) (rest : List ℕ) → 128 ≤ b → escaped rest ≡ rest → escaped (b ∷ rest) ≡ b ∷ rest
escaped-high b rest high kept =
    escaped-plain b rest (λ e. omega arith) (λ e. omega arith) (λ e. omega arith) (λ e. omega arith) kept

escaped-cond : (test : Bool) (xs ys : List ℕ) → escaped xs ≡ xs → escaped ys ≡ ys → escaped (cond test xs ys) ≡ cond test xs ys
escaped-cond true xs ys one two = one
escaped-cond false xs ys one two = two

-- a character that is none of the four is printed as it is
pub escaped-encode : (c : ℕ) → c ≢ 92 → c ≢ 9 → c ≢ 10 → c ≢ 13 → escaped (encode c) ≡ encode c
unfolding encode
escaped-encode c one two three four =
    let last = escaped-high (128 + c % 64) [] (omega arith) refl in
    let last_two = escaped-high (128 + c / 64 % 64) _ (omega arith) last in
    let last_three = escaped-high (128 + c / 4096 % 64) _ (omega arith) last_two in
    escaped-cond (ltb c 128) _ _ (escaped-plain c [] one two three four refl)
    (escaped-cond (ltb c 2048) _ _ (escaped-high (192 + c / 64) _ (omega arith) last)
    (escaped-cond (ltb c 65536) _ _ (escaped-high (224 + c / 4096) _ (omega arith) last_two)
    (escaped-high (240 + c / 262144) _ (omega arith) last_three)))
