-- How many messages are nested in the fields of a relation besides its inputs. Only the entries of a map are messages.
use Rattle.std.specs.Prelude.{ℕ, List, [], ◌∷◌}
use Rattle.plain_relations.specs.declared.rename_entry.RenameEntry.{RenameEntry}
use Rattle.plain_relations.specs.declared.renamed.WithColumnsRenamed.{WithColumnsRenamed}

-- an entry is one message
abbrev pub entries_depth : List RenameEntry → ℕ
entries_depth [] = 0
entries_depth (entry ∷ entries) = 1

abbrev pub renamed_depth : {R : Type 0} → WithColumnsRenamed R → ℕ
renamed_depth renamed = entries_depth renamed.rename_map.entries
