-- the offsets so far and those of the rows that are left are all offsets
use Rattle.std.proofs.Common.{◌≡◌, ◌+◌, ◌^◌, ◌<◌, ◌++◌, drop, sum_by}
use Rattle.arrow_ipc.specs.Columns.{cells, offsets, text_size}
use Rattle.arrow_ipc.proofs.columns.write_offsets.Given as goal

abbrev pub invariant-loop-row : goal.invariant-loop-row
invariant-loop-row l = record {
  offsets : l.out.items ++ offsets l.at (cells l.column (drop l.row-index l.rows)) ≡ l.fn.out.items ++ offsets 0 (cells l.column l.rows);
  fits : l.at + sum_by text_size (cells l.column (drop l.row-index l.rows)) < 2 ^ 32;
}
