-- What is read spells the parts that were read.
use Rattle.std.proofs.Common.{arith, ◌≡◌, ◌≢◌, ℕ, Bool, List, [], ◌∷◌, ◌++◌, cond, refl, ap, sym, subst, ◌∙◌, inl, inr, Some, None, Option, append_assoc, append-nil}
use Rattle.std.specs.Prelude.{All, flat_map, option_map, ◌↔◌}
use Rattle.std.proofs.lemmas.Bool.Decides.{eqb_tells}
use Rattle.std.proofs.lemmas.List.Elements.{All-cons, All-nil, All-push}
use Rattle.std.proofs.lemmas.Grind.{flat_map-append}
use Rattle.resolve_names.specs.declared.identifier.Place.{Place}
use Rattle.resolve_names.specs.declared.identifier.Place.TheVariants.{Start, Bare, Quoted, Closing}
use Rattle.resolve_names.specs.declared.identifier.Effect.{Effect}
use Rattle.resolve_names.specs.Identifiers.{IsPlainByte, IsPlain, IsPart, IsIdentifier, doubled, quoted, after, in_front, parts_from, parts_in}
use Rattle.resolve_names.proofs.Characters.{in_front-nil, in_front-twice, plain_step, step-plain}
use Rattle.resolve_names.proofs.Reading.{read}
use Rattle.resolve_names.specs.Laws.{OneReading}

abbrev Parts : Type 0
Parts = Option (List (List ℕ))

-- the text of the part that is being read, and the part so far
abbrev HasRead : Place → List ℕ → List ℕ → Type 0
HasRead Start text part = (text ≡ []) × (part ≡ [])
HasRead Bare text part = (text ≡ part) × IsPlain part
HasRead Quoted text part = text ≡ 96 ∷ flat_map doubled part
HasRead Closing text part = text ≡ quoted part

abbrev Sound : List ℕ → Type 0
Sound rest = (place : Place) (text part : List ℕ) (parts : List (List ℕ)) → HasRead place text part →
    in_front part (parts_from place rest) ≡ Some parts → IsIdentifier (text ++ rest) parts

same_parts : (a b : List (List ℕ)) → ◌≡◌ {A = Parts} (Some a) (Some b) → a ≡ b
same_parts a b e = cc

nothing : {X : Type 0} (parts : List (List ℕ)) → ◌≡◌ {A = Parts} None (Some parts) → X
nothing parts e = absurd (let h : ⊥ = cc in h)

never_empty : (front : List ℕ) (b : ℕ) → front ++ b ∷ [] ≢ []
never_empty [] b e = cc
never_empty (x ∷ xs) b e = cc

module _ (b : ℕ) (rest : List ℕ) (later : Sound rest) where
  along : (text : List ℕ) (parts : List (List ℕ)) → IsIdentifier ((text ++ b ∷ []) ++ rest) parts → IsIdentifier (text ++ b ∷ rest) parts
  along text parts h = subst (λ (t : List ℕ). IsIdentifier t parts) (append_assoc text (b ∷ []) rest) h

  keep : (place : Place) (text part : List ℕ) (parts : List (List ℕ)) → HasRead place (text ++ b ∷ []) (part ++ b ∷ []) →
      in_front part (in_front (b ∷ []) (parts_from place rest)) ≡ Some parts → IsIdentifier (text ++ b ∷ rest) parts
  keep place text part parts has e =
      along text parts (later place (text ++ b ∷ []) (part ++ b ∷ []) parts has (sym (in_front-twice part (b ∷ []) (parts_from place rest)) ∙ e))

  skip : (place : Place) (text part : List ℕ) (parts : List (List ℕ)) → HasRead place (text ++ b ∷ []) part →
      in_front part (parts_from place rest) ≡ Some parts → IsIdentifier (text ++ b ∷ rest) parts
  skip place text part parts has e = along text parts (later place (text ++ b ∷ []) part parts has e)

dotted : (text part rest : List ℕ) → Sound rest → IsPart text part → (found : Parts) → parts_from Start rest ≡ found → (parts : List (List ℕ)) →
    in_front part (option_map (λ ps. [] ∷ ps) found) ≡ Some parts → IsIdentifier (text ++ 46 ∷ rest) parts
dotted text part rest later first None is parts e = nothing parts e
dotted text part rest later first (Some []) is parts e = absurd (later Start [] [] [] (refl, refl) (in_front-nil (parts_from Start rest) ∙ is))
dotted text part rest later first (Some (next ∷ others)) is parts e =
    let back = later Start [] [] (next ∷ others) (refl, refl) (in_front-nil (parts_from Start rest) ∙ is) in
    let same : part ∷ next ∷ others ≡ parts = ap (λ (p : List ℕ). p ∷ next ∷ others) (sym (append-nil part)) ∙ same_parts ((part ++ []) ∷ next ∷ others) parts e in
    subst (IsIdentifier (text ++ 46 ∷ rest)) same (record { front = text; back = rest; first = first; rest = back; whole = refl })

plain_part : (text part : List ℕ) → HasRead Bare text part → IsPart text part
plain_part text part has = inl (has.1, has.0)

dot-more : (part : List ℕ) (b : ℕ) → b ≢ 96 → 96 ∷ (flat_map doubled part ++ b ∷ []) ≡ 96 ∷ flat_map doubled (part ++ b ∷ [])
dot-more part b other =
    ap (λ (t : List ℕ). 96 ∷ t) (ap (λ (t : List ℕ). flat_map doubled part ++ t) (sym (one b other)) ∙ sym (flat_map-append doubled part (b ∷ [])))
  where
    one : (b : ℕ) → b ≢ 96 → flat_map doubled (b ∷ []) ≡ b ∷ []
    one b other = elim (eqb_tells b 96) [ inl h ↦ absurd (other h.1) | inr h ↦ ap (λ (test : Bool). cond test (96 ∷ 96 ∷ []) (b ∷ []) ++ []) h.0 ]

quote-more : (part : List ℕ) → quoted part ++ 96 ∷ [] ≡ 96 ∷ flat_map doubled (part ++ 96 ∷ [])
quote-more part =
    ap (λ (t : List ℕ). 96 ∷ t) (append_assoc (flat_map doubled part) (96 ∷ []) (96 ∷ []) ∙ sym (flat_map-append doubled part (96 ∷ [])))

dot_no_quote : ◌≢◌ {A = ℕ} 46 96
dot_no_quote e = omega arith

at_dot : (rest : List ℕ) → Sound rest → Sound (46 ∷ rest)
at_dot rest later Start text part parts has e = nothing parts e
at_dot rest later Bare text part parts has e = dotted text part rest later (plain_part text part has) (parts_from Start rest) refl parts e
at_dot rest later Quoted text part parts has e =
    keep 46 rest later Quoted text part parts (ap (λ (t : List ℕ). t ++ 46 ∷ []) has ∙ dot-more part 46 dot_no_quote) e
at_dot rest later Closing text part parts has e = dotted text part rest later (inr has) (parts_from Start rest) refl parts e

at_quote : (rest : List ℕ) → Sound rest → Sound (96 ∷ rest)
at_quote rest later Start text part parts has e =
    skip 96 rest later Quoted text part parts (ap (λ (t : List ℕ). t ++ 96 ∷ []) has.0 ∙ ap (λ (p : List ℕ). 96 ∷ flat_map doubled p) (sym has.1)) e
at_quote rest later Bare text part parts has e = nothing parts e
at_quote rest later Quoted text part parts has e = skip 96 rest later Closing text part parts (ap (λ (t : List ℕ). t ++ 96 ∷ []) has) e
at_quote rest later Closing text part parts has e =
    keep 96 rest later Quoted text part parts (ap (λ (t : List ℕ). t ++ 96 ∷ []) has ∙ quote-more part) e

at_plain : (b : ℕ) (rest : List ℕ) → IsPlainByte b → Sound rest → Sound (b ∷ rest)
at_plain b rest plain later place text part parts has e =
    by place has (subst (λ (effect : Effect). in_front part (after effect (b ∷ []) (λ next. parts_from next rest)) ≡ Some parts) (step-plain place b plain) e)
  where
    by : (place : Place) → HasRead place text part → in_front part (after (plain_step place) (b ∷ []) (λ next. parts_from next rest)) ≡ Some parts →
        IsIdentifier (text ++ b ∷ rest) parts
    by Start has e =
        let one : text ++ b ∷ [] ≡ part ++ b ∷ [] = ap (λ (t : List ℕ). t ++ b ∷ []) (has.0 ∙ sym has.1) in
        let alone : All IsPlainByte (part ++ b ∷ []) = subst (λ (t : List ℕ). All IsPlainByte (t ++ b ∷ [])) (sym has.1) (All-cons IsPlainByte b [] plain (All-nil IsPlainByte)) in
        keep b rest later Bare text part parts (one, (never_empty part b, alone)) e
    by Bare has e =
        keep b rest later Bare text part parts (ap (λ (t : List ℕ). t ++ b ∷ []) has.0, (never_empty part b, All-push IsPlainByte part b has.1.1 plain)) e
    by Quoted has e = keep b rest later Quoted text part parts (ap (λ (t : List ℕ). t ++ b ∷ []) has ∙ dot-more part b plain.1) e
    by Closing has e = nothing parts e

at_byte : (b : ℕ) (rest : List ℕ) → Sound rest → Sound (b ∷ rest)
at_byte b rest later =
    elim (eqb_tells b 46) [
      | inl dot ↦ subst (λ (c : ℕ). Sound (c ∷ rest)) (sym dot.1) (at_dot rest later)
      | inr no_dot ↦ elim (eqb_tells b 96) [
        | inl quote ↦ subst (λ (c : ℕ). Sound (c ∷ rest)) (sym quote.1) (at_quote rest later)
        | inr no_quote ↦ at_plain b rest (no_dot.1, no_quote.1) later
      ]
    ]

ended : (text part : List ℕ) (parts : List (List ℕ)) → IsPart text part → ◌≡◌ {A = Parts} (Some ((part ++ []) ∷ [])) (Some parts) → IsIdentifier (text ++ []) parts
ended text part parts h e =
    let same : part ∷ [] ≡ parts = ap (λ (p : List ℕ). p ∷ []) (sym (append-nil part)) ∙ same_parts ((part ++ []) ∷ []) parts e in
    subst (IsIdentifier (text ++ [])) same (subst (λ (t : List ℕ). IsPart t part) (sym (append-nil text)) h)

at_nil : Sound []
at_nil Start text part parts has e = nothing parts e
at_nil Bare text part parts has e = ended text part parts (plain_part text part has) e
at_nil Quoted text part parts has e = nothing parts e
at_nil Closing text part parts has e = ended text part parts (inr has) e

sound : (rest : List ℕ) → Sound rest
sound [] = at_nil
sound (b ∷ rest) = at_byte b rest (sound rest)

-- the parts that a text is read as are those that it spells
pub spelled : (text : List ℕ) (parts : List (List ℕ)) → (parts_in text ≡ Some parts) ↔ IsIdentifier text parts
unfolding parts_in
spelled text parts = (λ e. sound text Start [] [] parts (refl, refl) (in_front-nil (parts_from Start text) ∙ e), read parts text)

-- and for whatever it was read as
pub spelled_as : (text : List ℕ) (found : Parts) → found ≡ parts_in text → (parts : List (List ℕ)) → (found ≡ Some parts) ↔ IsIdentifier text parts
spelled_as text found is parts = let both = spelled text parts in (λ e. both.0 (sym is ∙ e), λ h. is ∙ both.1 h)

pub one_reading : OneReading
one_reading text a b first second = same_parts a b (sym (read a text first) ∙ read b text second)
