-- the end, a fault, and one more batch
use Rattle.std.proofs.Common.{◌≡◌, ◌+◌, ◌≤◌, Option, None, Some, Result, Ok, List, ◌++◌, arith, ap, sym, subst, ◌∙◌}
use Rattle.std.specs.Prelude.{◌<◌, IfSome, length}
use Rattle.std.proofs.lemmas.Result.{err_from_is_err_and}
use Rattle.std.proofs.lemmas.List.FromFn.{length-map-range_with_len}
use Rattle.cn_types.specs.declared.row.Row.{Row}
use Rattle.arrow_read.specs.declared.fault.ArrowFault.{ArrowFault}
use Rattle.arrow_read.specs.declared.part.Part.{Part}
use Rattle.arrow_read.specs.Columns.{ColumnView, row_of, rows_of}
use Rattle.arrow_read.specs.Room.{width}
use Rattle.arrow_read.specs.Reading.{next_batch, batches_from, gathered}
use Rattle.arrow_read.proofs.BatchLoop.{with_rows, rows_end, rows_miss, rows_more, cells_more}
use Rattle.arrow_read.proofs.reader.read_batches.Goals as goal

pub returns-in_err-part-clause-refused : goal.returns-in_err-part-clause-refused
returns-in_err-part-clause-refused c =
    let p = err_from_is_err_and c.from_residual.result c.from_residual.ensures.1 in
    rw (p.1, p.2)
    (λ other. sym c.loop-rows.invariant.rows ∙ rows_miss c.args.bytes.now c.args.schema.now c.loop-rows.at c.loop-rows.rows c.loop-rows.found c.in_err-part.field-0.0 (c.in_err-part.ensures.refused other))

pub returns-in_default-clause-ok : goal.returns-in_default-clause-ok
returns-in_default-clause-ok c =
    let none : next_batch c.args.bytes.now c.args.schema.now c.loop-rows.at ≡ Ok None = c.in_ok-part.ensures.ok ∙ ap (λ (o : Option Part). let r : Result (Option Part) ArrowFault = Ok o in r) c.in_default.is in
    sym c.loop-rows.invariant.rows ∙ rows_end c.args.bytes.now c.args.schema.now c.loop-rows.at c.loop-rows.rows c.loop-rows.found none

pub loop-rows-preserved : goal.loop-rows-preserved
loop-rows-preserved c =
    let more : next_batch c.args.bytes.now c.args.schema.now c.loop-rows.at ≡ Ok (Some c.in-Some.part) = c.in_ok-part.ensures.ok ∙ ap (λ (o : Option Part). let r : Result (Option Part) ArrowFault = Ok o in r) c.in-Some.is in
    let within : c.in-Some.part.next ≤ length c.args.bytes.now = subst (λ (o : Option Part). IfSome o (λ part. part.next ≤ length c.args.bytes.now)) c.in-Some.is c.in_ok-part.ensures.within in
    let next : c.loop-rows.at < c.in-Some.part.next = subst (λ (o : Option Part). IfSome o (λ part. c.loop-rows.at < part.next)) c.in-Some.is c.in_ok-part.ensures.next in
    let added : c.push_rows.new.rows ≡ c.loop-rows.rows ++ rows_of c.in-Some.part.columns c.in-Some.part.count
    = c.in_ok-texts.ensures.rows ∙ ap (λ (columns : List ColumnView). c.loop-rows.rows ++ rows_of columns c.in-Some.part.count) c.as_slice-columns.ensures in
    record {
      rows = ap (λ (rows : List Row). with_rows rows (c.loop-rows.found + 1) (gathered (batches_from c.args.bytes.now c.args.schema.now c.in-Some.part.next))) added
          ∙ sym (rows_more c.args.bytes.now c.args.schema.now c.loop-rows.at c.loop-rows.rows c.loop-rows.found c.in-Some.part more) ∙ c.loop-rows.invariant.rows;
      within = within;
      few = omega (arith, next, c.loop-rows.invariant.few);
      cells = rw added
          (cells_more c.loop-rows.rows (rows_of c.in-Some.part.columns c.in-Some.part.count) (width c.args.schema.now) c.in-Some.part.count _ _ _ (length-map-range_with_len (row_of c.in-Some.part.columns) 0 c.in-Some.part.count)
          c.cells_left.ensures c.loop-rows.invariant.cells);
      texts = omega (arith, c.in_ok-texts.ensures.texts, c.loop-rows.invariant.texts);
    }
