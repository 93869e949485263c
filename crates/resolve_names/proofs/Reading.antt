-- A spelling of parts is read as them.
use Rattle.std.proofs.Common.{◌≡◌, ◌≢◌, ℕ, Bool, List, [], ◌∷◌, ◌++◌, true, false, cond, refl, ap, sym, ◌∙◌, inl, inr, ◌⊎◌, Some, Option, append_assoc, append-nil}
use Rattle.std.specs.Prelude.{flat_map, option_map, ◌==◌}
use Rattle.std.proofs.lemmas.Bool.Decides.{eqb_tells}
use Rattle.std.proofs.lemmas.List.Elements.{All-head, All-tail}
use Rattle.std.proofs.lemmas.List.Concat.{flat_map-cons}
use Rattle.resolve_names.specs.declared.identifier.Place.{Place}
use Rattle.resolve_names.specs.declared.identifier.Place.TheVariants.{Start, Bare, Quoted, Closing}
use Rattle.resolve_names.specs.declared.identifier.Effect.{Effect}
use Rattle.resolve_names.specs.declared.identifier.Effect.TheVariants.{Keep, Skip, End}
use Rattle.resolve_names.specs.Identifiers.{IsPlainByte, IsPlain, IsPart, IsIdentifier, doubled, after, at_end, in_front, parts_from, step}
use Rattle.resolve_names.proofs.Characters.{in_front-nil, in_front-twice, run, step-plain}

abbrev Parts : Type 0
Parts = Option (List (List ℕ))

-- how a part is read: its place at the end, and what is read with it in front
pub record IsRead (text part : List ℕ) : Type 0 where
  pub place : Place
  pub ends : at_end place ≡ Some ([] ∷ [])
  pub goes_on : step place 46 ≡ End
  pub is : (rest : List ℕ) → parts_from Start (text ++ rest) ≡ in_front part (parts_from place rest)

plain_read : (part : List ℕ) → IsPlain part → (rest : List ℕ) → parts_from Start (part ++ rest) ≡ in_front part (parts_from Bare rest)
plain_read [] plain rest = absurd (plain.0 refl)
plain_read (b ∷ bytes) plain rest =
    let one : step Start b ≡ Keep Bare = step-plain Start b (All-head IsPlainByte b bytes plain.1) in
    let walk : Place → Parts = λ next. parts_from next (bytes ++ rest) in
    ap (λ (effect : Effect). after effect (b ∷ []) walk) one
    ∙ ap (in_front (b ∷ [])) (run Bare refl bytes (All-tail IsPlainByte b bytes plain.1) rest)
    ∙ in_front-twice (b ∷ []) bytes (parts_from Bare rest)

-- a byte in backquotes
doubled_read : (b : ℕ) (rest : List ℕ) → parts_from Quoted (doubled b ++ rest) ≡ in_front (b ∷ []) (parts_from Quoted rest)
doubled_read b rest = by (b == 96) (eqb_tells b 96)
  where
    kept : b ≢ 96 → step Quoted b ≡ Keep Quoted
    kept other = elim (eqb_tells b 96) [ inl h ↦ absurd (other h.1) | inr h ↦ ap (λ (test : Bool). cond test (Skip Closing) (Keep Quoted)) h.0 ]

    by : (test : Bool) → ((test ≡ true) × (b ≡ 96)) ⊎ ((test ≡ false) × (b ≢ 96)) →
        parts_from Quoted (cond test (96 ∷ 96 ∷ []) (b ∷ []) ++ rest) ≡ in_front (b ∷ []) (parts_from Quoted rest)
    by true (inl (same, is)) = ap (λ (c : ℕ). in_front (c ∷ []) (parts_from Quoted rest)) (sym is)
    by true (inr (same, other)) = cc
    by false (inl (same, is)) = cc
    by false (inr (same, other)) =
        let keeps : step Quoted b ≡ Keep Quoted = kept other in
        let walk : Place → Parts = λ next. parts_from next rest in
        ap (λ (effect : Effect). after effect (b ∷ []) walk) keeps

quoted_read : (part rest : List ℕ) → parts_from Quoted (flat_map doubled part ++ rest) ≡ in_front part (parts_from Quoted rest)
quoted_read [] rest = sym (in_front-nil (parts_from Quoted rest))
quoted_read (b ∷ part) rest =
    ap (λ (bytes : List ℕ). parts_from Quoted (bytes ++ rest)) (flat_map-cons doubled b part)
    ∙ ap (parts_from Quoted) (append_assoc (doubled b) (flat_map doubled part) rest)
    ∙ doubled_read b (flat_map doubled part ++ rest)
    ∙ ap (in_front (b ∷ [])) (quoted_read part rest)
    ∙ in_front-twice (b ∷ []) part (parts_from Quoted rest)

part_read : (text part : List ℕ) → IsPart text part → IsRead text part
part_read text part (inl (plain, is)) = record {
  place = Bare;
  ends = refl;
  goes_on = refl;
  is = λ rest. ap (λ (t : List ℕ). parts_from Start (t ++ rest)) is ∙ plain_read part plain rest;
}
part_read text part (inr is) = record {
  place = Closing;
  ends = refl;
  goes_on = refl;
  is = λ rest.
      ap (λ (t : List ℕ). parts_from Start (t ++ rest)) is
      ∙ ap (parts_from Quoted) (append_assoc (flat_map doubled part) (96 ∷ []) rest)
      ∙ quoted_read part (96 ∷ rest);
}

pub read : (parts : List (List ℕ)) (text : List ℕ) → IsIdentifier text parts → parts_from Start text ≡ Some parts
read [] text h = absurd h
read (part ∷ []) text h =
    let r = part_read text part h in
    ap (parts_from Start) (sym (append-nil text)) ∙ r.is [] ∙ ap (in_front part) r.ends
    ∙ ap (λ (p : List ℕ). let o : Parts = Some (p ∷ []) in o) (append-nil part)
read (part ∷ next ∷ parts) text h =
    let r = part_read h.front part h.first in
    let walk : Place → Parts = λ place. parts_from place h.back in
    ap (parts_from Start) h.whole ∙ r.is (46 ∷ h.back)
    ∙ ap (λ (effect : Effect). in_front part (after effect (46 ∷ []) walk)) r.goes_on
    ∙ ap (λ (o : Parts). in_front part (option_map (λ found. [] ∷ found) o)) (read (next ∷ parts) h.back h.rest)
    ∙ ap (λ (p : List ℕ). let o : Parts = Some (p ∷ next ∷ parts) in o) (append-nil part)
