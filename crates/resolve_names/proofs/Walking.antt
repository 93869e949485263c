-- What is done, what stands of the part, and what is read of the rest are together what is read of the whole text.
use Rattle.std.proofs.Common.{◌≡◌, ℕ, List, [], ◌∷◌, ◌++◌, refl, ap, sym, ◌∙◌, Some, None, Option, append_assoc, append-nil}
use Rattle.std.specs.Prelude.{option_map}
use lib.Utf8.{encode}
use Rattle.resolve_names.specs.declared.identifier.Place.{Place}
use Rattle.resolve_names.specs.declared.identifier.Place.TheVariants.{Start}
use Rattle.resolve_names.specs.declared.identifier.Effect.{Effect}
use Rattle.resolve_names.specs.declared.identifier.Effect.TheVariants.{Keep, Skip, End, Refuse}
use Rattle.resolve_names.specs.Identifiers.{after, at_end, in_front, join_first, parts_from, parts_in, step}
use Rattle.resolve_names.proofs.Characters.{character, join_first-nil, join_first-twice}

abbrev Parts : Type 0
Parts = Option (List (List ℕ))

abbrev pub behind : List (List ℕ) → List ℕ → Parts → Parts
behind done part found = option_map (λ parts. done ++ join_first part parts) found

-- the walk has come to a place, with this done, this of a part, and this left
abbrev pub IsWalked : List ℕ → List (List ℕ) → List ℕ → Place → List ℕ → Type 0
IsWalked text done part place rest = parts_in text ≡ behind done part (parts_from place rest)

pub begins : (text : List ℕ) → IsWalked text [] [] Start text
unfolding parts_in
begins text = by (parts_from Start text)
  where
    by : (found : Parts) → found ≡ behind [] [] found
    by None = refl
    by (Some parts) = ap (λ (p : List (List ℕ)). let o : Parts = Some p in o) (sym (join_first-nil parts))

module _ (text : List ℕ) (done : List (List ℕ)) (part : List ℕ) (place : Place) (c : ℕ) (rest : List ℕ) where
  steps : (effect : Effect) → IsWalked text done part place (encode c ++ rest) → effect ≡ step place c →
      parts_in text ≡ behind done part (after effect (encode c) (λ next. parts_from next rest))
  steps effect walked is =
      walked ∙ ap (behind done part) (character c place rest)
      ∙ ap (λ (e : Effect). behind done part (after e (encode c) (λ next. parts_from next rest))) (sym is)

  pub kept : (next : Place) → IsWalked text done part place (encode c ++ rest) → Keep next ≡ step place c → IsWalked text done (part ++ encode c) next rest
  kept next walked is = steps (Keep next) walked is ∙ by (parts_from next rest)
    where
      by : (found : Parts) → behind done part (in_front (encode c) found) ≡ behind done (part ++ encode c) found
      by None = refl
      by (Some parts) = ap (λ (p : List (List ℕ)). let o : Parts = Some (done ++ p) in o) (join_first-twice part (encode c) parts)

  pub skipped : (next : Place) → IsWalked text done part place (encode c ++ rest) → Skip next ≡ step place c → IsWalked text done part next rest
  skipped next walked is = steps (Skip next) walked is

  pub ended : IsWalked text done part place (encode c ++ rest) → End ≡ step place c → IsWalked text (done ++ part ∷ []) [] Start rest
  ended walked is = steps End walked is ∙ by (parts_from Start rest)
    where
      by : (found : Parts) → behind done part (option_map (λ parts. [] ∷ parts) found) ≡ behind (done ++ part ∷ []) [] found
      by None = refl
      by (Some parts) =
          ap (λ (p : List (List ℕ)). let o : Parts = Some p in o)
          (ap (λ (p : List ℕ). done ++ p ∷ parts) (append-nil part) ∙ sym (append_assoc done (part ∷ []) parts)
          ∙ ap (λ (p : List (List ℕ)). (done ++ part ∷ []) ++ p) (sym (join_first-nil parts)))

  pub refused : IsWalked text done part place (encode c ++ rest) → Refuse ≡ step place c → parts_in text ≡ None
  refused walked is = steps Refuse walked is

pub over : (text : List ℕ) (done : List (List ℕ)) (part : List ℕ) (place : Place) → IsWalked text done part place [] →
    parts_in text ≡ behind done part (at_end place)
over text done part place walked = walked

pub last : (text : List ℕ) (done : List (List ℕ)) (part : List ℕ) → parts_in text ≡ behind done part (Some ([] ∷ [])) → parts_in text ≡ Some (done ++ part ∷ [])
last text done part is = is ∙ ap (λ (p : List ℕ). let o : Parts = Some (done ++ p ∷ []) in o) (append-nil part)
