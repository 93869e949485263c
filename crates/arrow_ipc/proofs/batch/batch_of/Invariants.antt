-- the columns so far and those that are left are all columns
use Rattle.std.proofs.Common.{◌≡◌, ◌%◌, ◌++◌, length, drop}
use Rattle.arrow_ipc.specs.Columns.{buffers_from, body_of, spans_from, nodes_from}
use Rattle.arrow_ipc.proofs.batch.batch_of.Given as goal

abbrev pub invariant-loop-column : goal.invariant-loop-column
invariant-loop-column l = record {
  body : l.batch.body.items ++ body_of (buffers_from l.column (drop l.column l.schema.0) l.rows) ≡ body_of (buffers_from 0 l.schema.0 l.rows);
  spans : l.batch.spans ++ spans_from (length l.batch.body.items) (buffers_from l.column (drop l.column l.schema.0) l.rows) ≡ spans_from 0 (buffers_from 0 l.schema.0 l.rows);
  nodes : l.batch.nodes ++ nodes_from l.column (drop l.column l.schema.0) l.rows ≡ nodes_from 0 l.schema.0 l.rows;
  aligned : length l.batch.body.items % 8 ≡ 0;
}
