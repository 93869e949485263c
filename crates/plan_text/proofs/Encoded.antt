-- A character whose bytes are all written as they are.
use Rattle.std.proofs.Common.{◌≡◌, ◌≢◌, ℕ, ◌+◌, ◌/◌, ◌%◌, ◌<◌, ◌≤◌, Bool, List, [], ◌∷◌, ◌++◌, true, false, cond, ltb, refl, ap, ◌∙◌, arith}
use Rattle.std.specs.Prelude.{flat_map}
use Rattle.std.proofs.lemmas.Bool.Decides.{nat_tests}
use Rattle.std.proofs.lemmas.Bool.{ltb-true}
use Rattle.std.proofs.lemmas.List.Concat.{flat_map-cons}
use lib.Utf8.{encode}
use Rattle.plan_text.specs.Names.{doubled, doubled_byte, json_byte, json_escaped}

module _ (f : ℕ → List ℕ) (high : (b : ℕ) → 128 ≤ b → f b ≡ b ∷ []) where
  byte_kept : (b : ℕ) (more : List ℕ) → f b ≡ b ∷ [] → flat_map f more ≡ more → flat_map f (b ∷ more) ≡ b ∷ more
  byte_kept b more one kept =
      flat_map-cons f b more ∙ ap (λ (front : List ℕ). front ++ flat_map f more) one ∙ ap (λ (back : List ℕ). b ∷ back) kept

  either_kept : (test : Bool) (xs ys : List ℕ) → (test ≡ true → flat_map f xs ≡ xs) → flat_map f ys ≡ ys → flat_map f (cond test xs ys) ≡ cond test xs ys
  either_kept true xs ys one two = one refl
  either_kept false xs ys one two = two

  pub character_kept : (c : ℕ) → (c < 128 → f c ≡ c ∷ []) → flat_map f (encode c) ≡ encode c
  unfolding encode
  character_kept c low =
      let last = byte_kept (128 + c % 64) [] (high _ (omega arith)) refl in
      let last_two = byte_kept (128 + c / 64 % 64) _ (high _ (omega arith)) last in
      let last_three = byte_kept (128 + c / 4096 % 64) _ (high _ (omega arith)) last_two in
      either_kept (ltb c 128) _ _ (λ t. byte_kept c [] (low (ltb-true c 128 t)) refl)
      (either_kept (ltb c 2048) _ _ (λ t. byte_kept (192 + c / 64) _ (high _ (omega arith)) last)
      (either_kept (ltb c 65536) _ _ (λ t. byte_kept (224 + c / 4096) _ (high _ (omega arith)) last_two)
      (byte_kept (240 + c / 262144) _ (high _ (omega arith)) last_three)))

doubled_high : (b : ℕ) → 128 ≤ b → doubled_byte b ≡ b ∷ []
doubled_high b high = grind (arith, nat_tests)

doubled_low : (c : ℕ) → c ≢ 96 → doubled_byte c ≡ c ∷ []
doubled_low c other = grind (arith, nat_tests)

pub doubled_character : (c : ℕ) → c ≢ 96 → doubled (encode c) ≡ encode c
doubled_character c other = character_kept doubled_byte doubled_high c (λ low. doubled_low c other)

json_high : (b : ℕ) → 128 ≤ b → json_byte b ≡ b ∷ []
json_high b high = grind (arith, nat_tests)

json_low : (c : ℕ) → c ≢ 34 → c ≢ 92 → 32 ≤ c → json_byte c ≡ c ∷ []
json_low c one two plain = grind (arith, nat_tests)

pub json_character : (c : ℕ) → c ≢ 34 → c ≢ 92 → 32 ≤ c → json_escaped (encode c) ≡ encode c
json_character c one two plain = character_kept json_byte json_high c (λ low. json_low c one two plain)
