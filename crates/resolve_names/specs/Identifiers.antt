-- Identifiers: parts joined by dots. A part stands as it is, or in backquotes, where each backquote in it is doubled.
use Rattle.std.specs.Prelude.{◌≡◌, ◌≢◌, ℕ, ◌==◌, if◌then◌else◌, List, [], ◌∷◌, ◌++◌, ◌⊎◌, All, flat_map, Option, None, Some, option_map}
use Rattle.resolve_names.specs.declared.identifier.Place.{Place}
use Rattle.resolve_names.specs.declared.identifier.Place.TheVariants.{Start, Bare, Quoted, Closing}
use Rattle.resolve_names.specs.declared.identifier.Effect.{Effect}
use Rattle.resolve_names.specs.declared.identifier.Effect.TheVariants.{Keep, Skip, End, Refuse}

-- a byte that may stand in a part without backquotes: no dot and no backquote
abbrev pub IsPlainByte : ℕ → Type 0
IsPlainByte byte = (byte ≢ 46) × (byte ≢ 96)

-- a part that stands as it is: at least one byte
abbrev pub IsPlain : List ℕ → Type 0
IsPlain part = (part ≢ []) × All IsPlainByte part

-- a part in backquotes, which may be empty
abbrev pub doubled : ℕ → List ℕ
doubled byte = if byte == 96 then 96 ∷ 96 ∷ [] else byte ∷ []

abbrev pub quoted : List ℕ → List ℕ
quoted part = 96 ∷ (flat_map doubled part ++ 96 ∷ [])

-- a spelling of a part
abbrev pub IsPart : List ℕ → List ℕ → Type 0
IsPart text part = (IsPlain part × (text ≡ part)) ⊎ (text ≡ quoted part)

-- a text that is a first, a dot and a rest
pub record IsJoined (First Rest : List ℕ → Type 0) (text : List ℕ) : Type 0 where
  pub front : List ℕ
  pub back : List ℕ
  pub first : First front
  pub rest : Rest back
  pub whole : text ≡ front ++ 46 ∷ back

-- a spelling of these parts: a spelling of each, joined by dots; there is at least one part
abbrev pub IsIdentifier : List ℕ → List (List ℕ) → Type 0
IsIdentifier text [] = ⊥
IsIdentifier text (part ∷ []) = IsPart text part
IsIdentifier text (part ∷ next ∷ parts) = IsJoined (λ front. IsPart front part) (λ back. IsIdentifier back (next ∷ parts)) text

-- ---- the parts that a text spells, by a walk over its bytes

-- what a byte does at a place
abbrev pub step : Place → ℕ → Effect
step Start byte = if byte == 46 then Refuse else (if byte == 96 then Skip Quoted else Keep Bare)
step Bare byte = if byte == 46 then End else (if byte == 96 then Refuse else Keep Bare)
step Quoted byte = if byte == 96 then Skip Closing else Keep Quoted
step Closing byte = if byte == 46 then End else (if byte == 96 then Keep Quoted else Refuse)

-- the bytes stand before the first part
abbrev pub join_first : List ℕ → List (List ℕ) → List (List ℕ)
join_first front [] = []
join_first front (part ∷ parts) = (front ++ part) ∷ parts

abbrev pub in_front : List ℕ → Option (List (List ℕ)) → Option (List (List ℕ))
in_front front parts = option_map (join_first front) parts

-- the parts of the rest behind such a step over these bytes
abbrev pub after : Effect → List ℕ → (Place → Option (List (List ℕ))) → Option (List (List ℕ))
after (Keep place) bytes rest = in_front bytes (rest place)
after (Skip place) bytes rest = rest place
after End bytes rest = option_map (λ parts. [] ∷ parts) (rest Start)
after Refuse bytes rest = None

-- a part is over at the end of the text
abbrev pub at_end : Place → Option (List (List ℕ))
at_end Start = None
at_end Bare = Some ([] ∷ [])
at_end Quoted = None
at_end Closing = Some ([] ∷ [])

-- the rest of a part, and the parts behind it
abbrev pub parts_from : Place → List ℕ → Option (List (List ℕ))
parts_from place [] = at_end place
parts_from place (byte ∷ rest) = after (step place byte) (byte ∷ []) (λ next. parts_from next rest)

-- the parts of an identifier; none where a text is no identifier
unfoldable pub parts_in : List ℕ → Option (List (List ℕ))
parts_in text = parts_from Start text
