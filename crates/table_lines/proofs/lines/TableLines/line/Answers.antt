use Rattle.std.proofs.Common.{rules, subst, ◌∙◌, inl, inr}
use Rattle.std.specs.Prelude.{IfSome}
use Rattle.table_lines.specs.Lines.{IsRowForLast}
use Rattle.table_lines.proofs.StandFacts.{row_fits}
use Rattle.table_lines.proofs.lines.TableLines.line.Goals as goal

pub add_row-requires : goal.add_row-requires
add_row-requires c =
    let found : IsRowForLast c.args.self.now c.args.line.now c.in-Some-2.row = subst (λ o. IfSome o (IsRowForLast c.args.self.now c.args.line.now)) c.in-Some-2.is c.in_ok-row.ensures.found in
    record { last = found.last; last_is = found.last_is; fits = row_fits found.last.schema c.args.line.now c.in-Some-2.row found.line_is }

pub returns-in-None-clause-refused : goal.returns-in-None-clause-refused
returns-in-None-clause-refused c = λ e after takes.
    elim takes [
      | inl adds ↦ c.in_default.not-Some adds.table (c.in_ok-table.ensures ∙ adds.line_is)
      | inr adds ↦ c.in_ok-row.ensures.none (search rules) adds.row adds.line_is
    ]
