-- What follows from the rules of names.
use Rattle.std.specs.Prelude.{◌≡◌, ℕ, Bool, false, List, map, slice_get, IsSomeAnd, IsTrue, Ok}
use Rattle.std.specs.Str.{str_to_ascii_lowercase}
use Rattle.resolve_names.specs.declared.scope.ColumnOf.{ColumnOf}
use Rattle.resolve_names.specs.Identifiers.{IsIdentifier}
use Rattle.resolve_names.specs.Scopes.{is_named, named_place}

-- a text spells at most one list of parts
abbrev pub OneReading : Type 0
OneReading = (text : List ℕ) (a b : List (List ℕ)) → IsIdentifier text a → IsIdentifier text b → a ≡ b

-- the column at a place is there, and these parts name it
abbrev pub IsNamedAt : {I : Type 0} → Bool → List (List ℕ) → List (ColumnOf I) → ℕ → Type 0
IsNamedAt exact parts columns place = IsSomeAnd (slice_get columns place) (λ column. IsTrue (is_named exact parts column))

-- the column that is found is named, and no other is
abbrev pub FoundIsTheOnlyOne : Type 0
FoundIsTheOnlyOne =
    (columns : List (ColumnOf ℕ)) (exact : Bool) (identifier : List ℕ) (parts : List (List ℕ)) (place other : ℕ) →
    named_place exact identifier parts columns ≡ Ok place → IsNamedAt exact parts columns place × (IsNamedAt exact parts columns other → other ≡ place)

-- parts that are the same in ASCII lower case
abbrev pub FoldAlike : List (List ℕ) → List (List ℕ) → Type 0
FoldAlike a b = map str_to_ascii_lowercase a ≡ map str_to_ascii_lowercase b

-- where case does not count, two spellings that fold alike have one answer, told by the same identifier
abbrev pub FoldedSpellingsAnswerAlike : Type 0
FoldedSpellingsAnswerAlike =
    (columns : List (ColumnOf ℕ)) (identifier : List ℕ) (a b : List (List ℕ)) → FoldAlike a b →
    named_place false identifier a columns ≡ named_place false identifier b columns
