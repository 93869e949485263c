-- Where one text stands within another.
use Rattle.std.proofs.Common.{◌≡◌, ◌⊎◌, ℕ, Bool, true, false, ◌||◌, List, [], ◌∷◌, ◌++◌, length, drop, refl, ap, inl, inr}
use Rattle.std.proofs.lemmas.Bool.Decides.{Decides-eqb}
use Rattle.std.proofs.lemmas.Slice.Eq.{starts_is}
use Rattle.plan_model.specs.Texts.{has_start, has_part}
use Rattle.plan_model.specs.ValueLaws.{PartsAreWithin}

start_found : (text part : List ℕ) → has_start text part ≡ true → text ≡ part ++ drop (length part) text
start_found text part h = (starts_is Decides-eqb text part (has_start text part) refl).0 h

start_there : (text part rest : List ℕ) → text ≡ part ++ rest → has_start text part ≡ true
start_there text part rest e = (starts_is Decides-eqb text part (has_start text part) refl).1 rest e

either : (a b : Bool) → (a || b) ≡ true → (a ≡ true) ⊎ (b ≡ true)
either true b h = inl refl
either false b h = inr h

or-right : (a b : Bool) → b ≡ true → (a || b) ≡ true
or-right true b h = refl
or-right false b h = h

or-left : (a b : Bool) → a ≡ true → (a || b) ≡ true
or-left true b h = refl
or-left false b h = cc

abbrev Within : List ℕ → List ℕ → Type 0
Within text part = (before : List ℕ) × (after : List ℕ) × (text ≡ before ++ (part ++ after))

later : (b : ℕ) (rest part : List ℕ) → Within rest part → Within (b ∷ rest) part
later b rest part w = (b ∷ w.0, w.1, ap (λ (xs : List ℕ). b ∷ xs) w.2)

part_found : (text part : List ℕ) → has_part text part ≡ true → Within text part
part_found [] part h = ([], drop (length part) [], start_found [] part h)
part_found (b ∷ rest) part h =
    elim (either (has_start (b ∷ rest) part) (has_part rest part) h) [
      | inl p ↦ ([], drop (length part) (b ∷ rest), start_found (b ∷ rest) part p)
      | inr q ↦ later b rest part (part_found rest part q)
    ]

start_is_part : (text part : List ℕ) → has_start text part ≡ true → has_part text part ≡ true
start_is_part [] part h = h
start_is_part (b ∷ rest) part h = or-left (has_start (b ∷ rest) part) (has_part rest part) h

part_there : (text part before after : List ℕ) → text ≡ before ++ (part ++ after) → has_part text part ≡ true
part_there text part [] after e = start_is_part text part (start_there text part after e)
part_there [] part (c ∷ before) after e = cc
part_there (b ∷ rest) part (c ∷ before) after e =
    let same : rest ≡ before ++ (part ++ after) = cc in
    or-right (has_start (b ∷ rest) part) (has_part rest part) (part_there rest part before after same)

pub parts_within : PartsAreWithin
parts_within text part = (part_found text part, λ (w : Within text part). part_there text part w.0 w.1 w.2)
