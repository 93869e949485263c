use Rattle.std.proofs.Common.{rules, ◌≡◌, sym, subst, ◌∙◌}
use Rattle.std.specs.Prelude.{Some}
use Rattle.std.proofs.lemmas.Option.{same_Some}
use Rattle.table_lines.specs.declared.lines.LinedTable.{LinedTable}
use Rattle.table_lines.specs.Lines.{IsRowLine, last_table}
use Rattle.table_lines.proofs.lines.TableLines.row_for_last.Goals as goal

pub returns-in_ok-found-in-Some-clause-none : goal.returns-in_ok-found-in-Some-clause-none
returns-in_ok-found-in-Some-clause-none c = λ none row is.
    let here : last_table c.args.self.now ≡ Some c.in-Some.table.now = search rules in
    let same : is.last ≡ c.in-Some.table.now = same_Some is.last c.in-Some.table.now (sym is.last_is ∙ here) in
    c.in_ok-found-in-Some.ensures.none none row (subst (λ (t : LinedTable). IsRowLine t.schema c.args.line.now row) same is.line_is)
