-- What an ask prints.
use Rattle.std.specs.Prelude.{ℤ, ℕ, false, List, ◌∷◌, [], ◌++◌, map, flat_map, codes}
use Rattle.cn_types.specs.declared.schema.Schema.{Schema}
use Rattle.cn_types.specs.declared.value.DataType.TheVariants.{Long}
use Rattle.cn_types.specs.Printed.{header_line, row_line}
use Rattle.connect_replay.specs.declared.ask.Ask.{Ask}
use Rattle.connect_replay.specs.Range.{row_of}

-- a range has one column: `id`, of longs, never null
abbrev pub range_schema : Schema
range_schema = record { 0 = record { name = codes "id"; kind = Long; nullable = false } ∷ [] }

-- the text of a record: the line of its schema, then the line of each row
abbrev pub text_of : List ℤ → List ℕ
text_of numbers = header_line range_schema ++ flat_map row_line (map row_of numbers)

-- the section of an ask that completes: `ask NAME`, the text of its record, `complete` and `records 1`
abbrev pub section : Ask → List ℤ → List ℕ
section ask numbers = (codes "ask " ++ ask.name ++ 10 ∷ []) ++ text_of numbers ++ (codes "complete" ++ 10 ∷ []) ++ (codes "records 1" ++ 10 ∷ [])
