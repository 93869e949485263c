-- Maps of new names, as the messages hold them.
use Rattle.std.specs.Prelude.{List}
use Rattle.proto_fields.specs.Fields.{Field}
use Rattle.expression_messages.specs.Messages.{messages_at}
use Rattle.plain_relations.specs.declared.rename_entry.RenameEntry.{RenameEntry}
use Rattle.plain_relations.specs.declared.rename_map.RenameMap.{RenameMap}
use Rattle.plain_relations.specs.Maps.{entry_of, map_of}
use Rattle.plain_relations.specs.Rising.{map_rises}

-- the map of entries: of equal keys the last one counts, and the keys rise
abbrev pub rename_map_of : List RenameEntry → RenameMap
rename_map_of entries = record { entries = map_of entries; rising = map_rises entries }

-- the map that a message's fields hold
abbrev pub map_in : List Field → RenameMap
map_in fields = rename_map_of (messages_at entry_of 2 fields)
