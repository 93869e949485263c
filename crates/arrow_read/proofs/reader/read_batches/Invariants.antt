-- the rows so far, and then the others
use Rattle.std.proofs.Common.{◌≡◌, ◌+◌, ◌*◌, ◌-◌, ◌≤◌, length}
use Rattle.arrow_read.specs.Room.{width, texts_size}
use Rattle.arrow_read.specs.Reading.{batches_from, gathered}
use Rattle.arrow_read.proofs.BatchLoop.{with_rows}
use Rattle.arrow_read.proofs.reader.read_batches.Given as goal

abbrev pub invariant-loop-rows : goal.invariant-loop-rows
invariant-loop-rows l = record {
  rows : with_rows l.rows l.found (gathered (batches_from l.bytes l.schema l.at)) ≡ gathered (batches_from l.bytes l.schema l.start);
  within : l.at ≤ length l.bytes;
  few : l.found ≤ l.at;
  cells : l.room.cells + width l.schema * length l.rows ≡ l.fn.room.cells;
  texts : l.room.texts + texts_size l.rows ≡ l.fn.room.texts;
}

abbrev pub decreases-loop-rows : goal.decreases-loop-rows
decreases-loop-rows l = length l.bytes - l.at
