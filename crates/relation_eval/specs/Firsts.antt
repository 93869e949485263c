-- The first row with each key.
use Rattle.std.specs.Prelude.{Bool, not, if◌then◌else◌, List, [], ◌∷◌, ◌++◌}
use Rattle.std.specs.List.{list_any}
use Rattle.cn_types.specs.declared.row.Row.{Row}
use Rattle.relation_eval.specs.Places.{Columns, key_by, has_key}

-- a row of the list has the key of the row
abbrev pub is_among : Columns → List Row → Row → Bool
is_among columns seen row = list_any (has_key columns (key_by columns row)) seen

-- for each row whether no row before it has its key, where some were seen before all of them
abbrev pub flags_after : Columns → List Row → List Row → List Bool
flags_after columns seen [] = []
flags_after columns seen (row ∷ rows) = not (is_among columns seen row) ∷ flags_after columns (seen ++ row ∷ []) rows

-- the rows whose flag is true
abbrev pub flagged : List Bool → List Row → List Row
flagged [] rows = []
flagged (flag ∷ flags) [] = []
flagged (flag ∷ flags) (row ∷ rows) = if flag then row ∷ flagged flags rows else flagged flags rows

-- the first row with each key, in order
abbrev pub firsts : Columns → List Row → List Row
firsts columns rows = flagged (flags_after columns [] rows) rows
