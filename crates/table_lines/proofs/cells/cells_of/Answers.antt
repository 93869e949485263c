use Rattle.std.proofs.Common.{rules, ◌≡◌, [], drop}
use Rattle.std.proofs.lemmas.List.{drop_all}
use Rattle.table_lines.proofs.PieceFacts.{all_cells}
use Rattle.table_lines.proofs.cells.cells_of.Goals as goal

pub returns-clause-found : goal.returns-clause-found
returns-clause-found c =
    let left : c.loop-field.pieces ≡ [] = search rules in
    let over : drop c.loop-field.field-index c.args.fields.now ≡ [] = drop_all c.loop-field.field-index c.args.fields.now (search rules) in
    all_cells c.args.fields.now (drop c.loop-field.field-index c.args.fields.now) c.args.pieces.now c.loop-field.pieces c.loop-field.values over left c.loop-field.invariant.0
