use Rattle.std.proofs.Common.{rules, ◌≡◌, ◌-◌, ℕ, List, length, ap, sym, subst, ◌∙◌}
use Rattle.std.specs.Prelude.{Some}
use Rattle.table_lines.specs.declared.lines.LinedTable.{LinedTable}
use Rattle.table_lines.specs.Lines.{last_table, with_last_row}
use Rattle.table_lines.proofs.StandFacts.{row_pushed, row_added}
use Rattle.table_lines.proofs.lines.TableLines.add_row.Goals as goal

pub invariant_of-self-2 : goal.invariant_of-self-2
invariant_of-self-2 c =
    let size : c.len-last.result ≡ length c.self.inside.tables.items = search rules in
    let place : c.len-last.result - 1 ≡ length c.self.inside.tables.items - 1 = ap (λ (n : ℕ). n - 1) size in
    let last : last_table c.self.inside.tables.items ≡ Some c.requires.last = subst (λ (ts : List LinedTable). last_table ts ≡ Some c.requires.last) (sym c.self.view_is) c.requires.last_is in
    row_pushed c.self.inside.tables.items (c.len-last.result - 1) c.index_mut.result.now c.requires.last c.push.new.self c.args.row c.push.result c.self.invariant place last c.index_mut.ensures.value
    c.requires.fits c.push.ensures.ok c.push.ensures.err

pub returns-clause-ok : goal.returns-clause-ok
returns-clause-ok c =
    let size : c.len-last.result ≡ length c.self.inside.tables.items = search rules in
    let place : c.len-last.result - 1 ≡ length c.self.inside.tables.items - 1 = ap (λ (n : ℕ). n - 1) size in
    let last : last_table c.self.inside.tables.items ≡ Some c.requires.last = subst (λ (ts : List LinedTable). last_table ts ≡ Some c.requires.last) (sym c.self.view_is) c.requires.last_is in
    row_added c.self.inside.tables.items (c.len-last.result - 1) c.index_mut.result.now c.requires.last c.push.new.self c.args.row place last c.index_mut.ensures.value c.in_ok-push.ensures.ok
    ∙ ap (with_last_row c.args.row) c.self.view_is
