-- the columns so far, and then the others; what is left of the room for cells and texts
use Rattle.std.proofs.Common.{◌≡◌, ◌+◌, ◌*◌, drop, length}
use Rattle.std.specs.Prelude.{sum_by}
use Rattle.arrow_read.specs.Reading.{columns_in}
use Rattle.arrow_read.proofs.ColumnLoop.{after}
use Rattle.arrow_read.proofs.part.columns_in.Given as goal

abbrev pub invariant-loop-place : goal.invariant-loop-place
invariant-loop-place l = record {
  columns : after l.columns (columns_in l.batch l.body l.place l.first (drop l.place l.fields)) ≡ columns_in l.batch l.body 0 0 l.fields;
  cells : l.cells + l.place * l.batch.count ≡ l.fn.room.cells;
  texts : l.texts + sum_by (λ column. length column.texts) l.columns ≡ l.fn.room.texts;
}
