use Rattle.std.proofs.Common.{◌≡◌, ◌++◌, length}
use Rattle.std.specs.Prelude.{option_map}
use Rattle.table_lines.specs.Lines.{columns_of}
use Rattle.table_lines.proofs.columns.columns_of.Given as goal

abbrev pub invariant-loop-piece : goal.invariant-loop-piece
invariant-loop-piece l = columns_of l.initial.pieces ≡ option_map (λ more. l.fields ++ more) (columns_of l.pieces)

abbrev pub decreases-loop-piece : goal.decreases-loop-piece
decreases-loop-piece l = length l.pieces
