use Rattle.std.proofs.Common.{◌≡◌, ◌+◌, ◌<◌, ◌++◌, List, length, drop, get_or, ap, subst, ◌∙◌}
use Rattle.cn_types.specs.declared.schema.Field.{Field}
use Rattle.arrow_ipc.specs.Columns.{cells, column_buffers, buffers_from}
use Rattle.arrow_ipc.proofs.Sizes.{texts_fit}
use Rattle.arrow_ipc.proofs.ColumnSteps.{buffers_left, nodes_left, body_step, spans_step, nodes_step}
use Rattle.arrow_ipc.proofs.batch.batch_of.Goals as goal

pub add_column-requires-clause-texts : goal.add_column-requires-clause-texts
add_column-requires-clause-texts c = texts_fit c.args.schema.now c.args.rows.now c.loop-column.column c.requires

pub loop-column-preserved : goal.loop-column-preserved
loop-column-preserved c =
    let gains = c.in_ok-add_column.ensures.buffers in
    let same = c.as_slice-field-items.ensures in
    let below : c.loop-column.column < length c.args.schema.now.0 = subst (λ (fs : List Field). c.loop-column.column < length fs) same c.loop-column-test.true in
    let item : c.field-item.result ≡ get_or c.args.schema.now.0 c.loop-column.column c.field-item.result = c.field-item.is ∙ ap (λ (fs : List Field). get_or fs c.loop-column.column c.field-item.result) same in
    let left : buffers_from c.loop-column.column (drop c.loop-column.column c.args.schema.now.0) c.args.rows.now
    ≡ column_buffers c.field-item.result.kind (cells c.loop-column.column c.args.rows.now) ++ buffers_from (c.loop-column.column + 1) (drop (c.loop-column.column + 1) c.args.schema.now.0) c.args.rows.now
    = buffers_left c.args.schema.now.0 c.args.rows.now c.loop-column.column c.field-item.result below item in
    record {
      body = body_step _ _ _ _ _ _ _ _ gains left c.loop-column.invariant.body;
      spans = spans_step _ _ _ _ _ _ _ _ gains left c.loop-column.invariant.spans;
      nodes = nodes_step _ _ _ _ _ _ c.in_ok-add_column.ensures.nodes (nodes_left c.args.schema.now.0 c.args.rows.now c.loop-column.column c.field-item.result below item) c.loop-column.invariant.nodes;
      aligned = gains.aligned;
    }
