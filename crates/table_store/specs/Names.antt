-- Names of tables fold: two names are one where they are the same in ASCII lower case.
use Rattle.std.specs.Prelude.{ℕ, Bool, List, Option, map, find}
use Rattle.std.specs.Char.{to_ascii_lowercase}
use Rattle.std.specs.Str.{bytes_eq}
use Rattle.table_store.specs.declared.tables.NamedTable.{NamedTable}

-- the name in ASCII lower case
abbrev pub folded : List ℕ → List ℕ
folded name = map to_ascii_lowercase name

-- the name of a table in ASCII lower case
abbrev pub folded_name : NamedTable → List ℕ
folded_name table = folded table.name

-- whether a table has the name, under folding
abbrev pub has_name : List ℕ → NamedTable → Bool
has_name name table = bytes_eq (folded name) (folded_name table)

-- the table of a name
abbrev pub table_named : List ℕ → List NamedTable → Option NamedTable
table_named name named = find (has_name name) named
