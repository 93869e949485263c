-- A text is what it is cut into.
use Rattle.std.proofs.Common.{◌≡◌, ℕ, true, eqb, List, [], ◌∷◌, ◌++◌, length, refl, ap, ◌∙◌, Some, None, inl, inr}
use Rattle.std.specs.Prelude.{option_map}
use Rattle.std.proofs.lemmas.Bool.{eqb-true, ne_eqb, eq-eqb, cond-true, cond-false}
use Rattle.std.proofs.lemmas.List.{nil_from_length}
use Rattle.std.proofs.lemmas.Option.{some_pair_parts}
use Rattle.web_heads.specs.Texts.{is_empty, cut}
use Rattle.web_heads.proofs.StepLemmas.{LacksByte, other, found_map, chosen}

pub cut-Some : (stop : ℕ) (text front back : List ℕ) → cut stop text ≡ Some (front, back) → text ≡ front ++ stop ∷ back
unfolding cut
cut-Some stop [] front back e = absurd (cc)
cut-Some stop (b ∷ text) front back e =
    elim (chosen (eqb b stop) (Some ([], text)) (option_map (λ (parts : List ℕ × List ℕ). (b ∷ parts.0, parts.1)) (cut stop text)) (Some (front, back)) e) [
      | inl h ↦
          let is : b ≡ stop = eqb-true b stop h.0 in
          let parts = some_pair_parts [] front text back h.1 in
          let first : b ∷ text ≡ stop ∷ back = cc in
          first ∙ ap (λ (before : List ℕ). before ++ stop ∷ back) parts.0
      | inr h ↦
          let p = found_map (cut stop text) (λ (parts : List ℕ × List ℕ). (b ∷ parts.0, parts.1)) (front, back) h.1 in
          ap (λ (rest : List ℕ). b ∷ rest) (cut-Some stop text p.0.0 p.0.1 p.1)
          ∙ ap (λ (parts : List ℕ × List ℕ). parts.0 ++ stop ∷ parts.1) p.2
    ]

pub cut-append : (stop : ℕ) (front back : List ℕ) → LacksByte stop front → cut stop (front ++ stop ∷ back) ≡ Some (front, back)
unfolding cut
cut-append stop [] back lacks = cond-true (eqb stop stop) _ _ (eq-eqb stop stop refl)
cut-append stop (b ∷ front) back (other differs lacks) =
    cond-false (eqb b stop) _ _ (ne_eqb b stop differs)
    ∙ ap (option_map (λ (parts : List ℕ × List ℕ). (b ∷ parts.0, parts.1))) (cut-append stop front back lacks)

pub cut-None : (stop : ℕ) (text : List ℕ) → LacksByte stop text → cut stop text ≡ None
unfolding cut
cut-None stop [] lacks = refl
cut-None stop (b ∷ text) (other differs lacks) =
    cond-false (eqb b stop) _ _ (ne_eqb b stop differs)
    ∙ ap (option_map (λ (parts : List ℕ × List ℕ). (b ∷ parts.0, parts.1))) (cut-None stop text lacks)

pub nil-is_empty : (bytes : List ℕ) → is_empty bytes ≡ true → bytes ≡ []
nil-is_empty bytes e = nil_from_length bytes (eqb-true (length bytes) 0 e)
