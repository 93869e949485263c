-- Where case does not count, a name is matched by its parts in lower case.
use Rattle.std.proofs.Common.{◌≡◌, ℕ, ◌-◌, ◌&&◌, ◌||◌, Bool, List, [], ◌∷◌, map, false, length, get_or, take, refl, ap, sym, ◌∙◌}
use Rattle.std.specs.Prelude.{nat_eq, zip}
use Rattle.std.specs.List.{list_all}
use Rattle.std.specs.Str.{str_to_ascii_lowercase, bytes_eq}
use Rattle.std.proofs.Math.ListN.{get_or-map}
use Rattle.std.proofs.lemmas.List.{length-map}
use Rattle.std.specs.List.{take-map}
use mathlib.Core.Path.{fun_ext}
use Rattle.resolve_names.specs.declared.scope.ColumnOf.{ColumnOf}
use Rattle.resolve_names.specs.Laws.{FoldAlike, FoldedSpellingsAnswerAlike}
use Rattle.resolve_names.specs.Matching.{name_matches}
use Rattle.resolve_names.specs.Scopes.{ambiguous, is_named, last_part, named_place, only_place, parts_before, qualifier_matches, unresolved}

abbrev lower : List ℕ → List ℕ
lower = str_to_ascii_lowercase

abbrev Parts : Type 0
Parts = List (List ℕ)

-- the test on parts that are in lower case
abbrev all_lower : Parts → Parts → Bool
all_lower parts qualifier = list_all (λ pair. bytes_eq pair.0 (lower pair.1)) (zip parts qualifier)

all-lower : (parts qualifier : Parts) → list_all (λ pair. name_matches false pair.0 pair.1) (zip parts qualifier) ≡ all_lower (map lower parts) qualifier
all-lower [] qualifier = refl
all-lower (part ∷ parts) [] = refl
all-lower (part ∷ parts) (own ∷ qualifier) = ap (λ (rest : Bool). bytes_eq (lower part) (lower own) && rest) (all-lower parts qualifier)

abbrev qualifier_lower : Parts → Parts → Bool
qualifier_lower parts qualifier = nat_eq (length parts) 0 || (nat_eq (length parts) (length qualifier) && all_lower parts qualifier)

qualifier-lower : (parts qualifier : Parts) → qualifier_matches false parts qualifier ≡ qualifier_lower (map lower parts) qualifier
qualifier-lower parts qualifier =
    ap (λ (test : Bool). nat_eq (length parts) 0 || (nat_eq (length parts) (length qualifier) && test)) (all-lower parts qualifier)
    ∙ ap (λ (n : ℕ). nat_eq n 0 || (nat_eq n (length qualifier) && all_lower (map lower parts) qualifier)) (sym (length-map parts lower))

abbrev named_lower : {I : Type 0} → Parts → ColumnOf I → Bool
named_lower [] column = false
named_lower (part ∷ parts) column =
    bytes_eq (get_or (part ∷ parts) (length (part ∷ parts) - 1) []) (lower column.name)
    && qualifier_lower (take (length (part ∷ parts) - 1) (part ∷ parts)) column.qualifier

named-lower : {I : Type 0} (parts : Parts) (column : ColumnOf I) → is_named false parts column ≡ named_lower (map lower parts) column
named-lower [] column = refl
named-lower (part ∷ parts) column =
    let all : Parts = part ∷ parts in
    let last : ℕ = length all - 1 in
    let same : length all - 1 ≡ length (map lower all) - 1 = ap (λ (n : ℕ). n - 1) (sym (length-map all lower)) in
    let name : lower (last_part all) ≡ get_or (map lower all) (length (map lower all) - 1) []
    = sym (get_or-map lower all last []) ∙ ap (λ (n : ℕ). get_or (map lower all) n []) same in
    let front : map lower (parts_before all) ≡ take (length (map lower all) - 1) (map lower all)
    = sym (take-map lower last all) ∙ ap (λ (n : ℕ). take n (map lower all)) same in
    ap (λ (n : List ℕ). bytes_eq n (lower column.name) && qualifier_matches false (parts_before all) column.qualifier) name
    ∙ ap (λ (test : Bool). bytes_eq (get_or (map lower all) (length (map lower all) - 1) []) (lower column.name) && test)
    (qualifier-lower (parts_before all) column.qualifier ∙ ap (λ (ps : Parts). qualifier_lower ps column.qualifier) front)

alike : {I : Type 0} (a b : Parts) → FoldAlike a b → (column : ColumnOf I) → is_named false a column ≡ is_named false b column
alike a b same column = named-lower a column ∙ ap (λ (parts : Parts). named_lower parts column) same ∙ sym (named-lower b column)

pub spellings_answer_alike : FoldedSpellingsAnswerAlike
unfolding named_place
spellings_answer_alike columns identifier a b same =
    ap (λ (test : ColumnOf ℕ → Bool). only_place (unresolved identifier) (ambiguous identifier) test columns) (fun_ext (alike a b same))
