-- the cells so far
use Rattle.std.proofs.Common.{◌≡◌, ◌+◌, map, take}
use Rattle.std.specs.Prelude.{sum_by}
use Rattle.arrow_ipc.specs.Columns.{text_size}
use Rattle.arrow_read.specs.Columns.{cell}
use Rattle.arrow_read.proofs.rows.row_of.Given as goal

abbrev pub invariant-loop-column : goal.invariant-loop-column
invariant-loop-column l = record {
  cells : l.values.items ≡ map (λ column. cell column l.row) (take l.column-index l.columns);
  texts : l.texts + sum_by text_size l.values.items ≡ l.room;
}
