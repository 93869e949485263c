-- The map of a message, whose entries are messages of a key and a value (Protocol Buffers Encoding, "Maps"): of equal keys the last entry counts.
use Rattle.std.specs.Prelude.{◌≡◌, ℕ, IsTrue, if◌then◌else◌, List, [], ◌∷◌, Option, Some, None}
use Rattle.std.specs.Ordering.{nat_cmp, is_lt, is_eq}
use Rattle.std.specs.Cmp.Lexicographic.{slice_cmp}
use Rattle.proto_fields.specs.Fields.{Field}
use Rattle.proto_fields.specs.Readings.{text_field, last_some}
use Rattle.plain_relations.specs.declared.rename_entry.RenameEntry.{RenameEntry}

-- key 1, value 2
abbrev pub entry_of : List Field → RenameEntry
entry_of fields = record { key = text_field 1 fields; value = text_field 2 fields }

-- ---- entries one after another as a map

-- an entry before later ones, which stand as a map: where one of them has its key it says nothing, else it stands in the order of the keys' bytes
unfoldable pub put_before : RenameEntry → List RenameEntry → List RenameEntry
put_before entry [] = entry ∷ []
put_before entry (next ∷ others) =
    if is_lt (slice_cmp nat_cmp entry.key next.key) then entry ∷ next ∷ others
    else if is_eq (slice_cmp nat_cmp entry.key next.key) then next ∷ others
    else next ∷ put_before entry others

unfoldable pub map_of : List RenameEntry → List RenameEntry
map_of [] = []
map_of (entry ∷ later) = put_before entry (map_of later)

-- ---- the same in words

-- each key is less than the next
unfoldable pub KeysRise : List RenameEntry → Type 0
KeysRise [] = Unit {0}
KeysRise (entry ∷ []) = Unit {0}
KeysRise (entry ∷ next ∷ others) = IsTrue (is_lt (slice_cmp nat_cmp entry.key next.key)) × KeysRise (next ∷ others)

-- the value of the last entry with this key
abbrev pub value_of : List ℕ → List RenameEntry → Option (List ℕ)
value_of key entries = last_some (λ entry. if is_eq (slice_cmp nat_cmp entry.key key) then Some entry.value else None) entries

pub record IsMapOf (entries map : List RenameEntry) : Type 0 where
  pub rising : KeysRise map
  pub same : (key : List ℕ) → value_of key map ≡ value_of key entries
