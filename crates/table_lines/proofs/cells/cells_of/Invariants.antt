use Rattle.std.proofs.Common.{◌++◌, List, drop}
use Rattle.cn_types.specs.declared.value.Value.{Value}
use Rattle.table_lines.specs.Lines.{AreCells}
use Rattle.table_lines.proofs.cells.cells_of.Given as goal

abbrev pub invariant-loop-field : goal.invariant-loop-field
invariant-loop-field l =
    ((more : List Value) → AreCells (drop l.field-index l.fields) l.pieces more → AreCells l.fields l.initial.pieces (l.values ++ more))
    × ((all : List Value) → AreCells l.fields l.initial.pieces all → (more : List Value) × AreCells (drop l.field-index l.fields) l.pieces more)
