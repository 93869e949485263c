-- Laws over the definitions, for all maps.
use Rattle.std.specs.Prelude.{◌≡◌, List}
use Rattle.plain_relations.specs.declared.rename_entry.RenameEntry.{RenameEntry}
use Rattle.plain_relations.specs.declared.rename_map.RenameMap.{RenameMap}
use Rattle.plain_relations.specs.Maps.{map_of, KeysRise, IsMapOf}

pub record MapsAreOfEntries : Type 0 where
  -- what entries say is their map: the keys rise, and each has the value of its last entry
  pub of_entries : (entries : List RenameEntry) → IsMapOf entries (map_of entries)
  -- and no other list is
  pub one : (entries map : List RenameEntry) → IsMapOf entries map → map ≡ map_of entries
  -- so is what a type of maps holds: its keys rise
  pub rising : (map : RenameMap) → KeysRise map.entries
