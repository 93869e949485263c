-- A change that the rule applies leaves tables that may stand together.
use Rattle.std.proofs.Common.{sym, subst, ◌∙◌}
use Rattle.table_store.specs.Standing.{AreTables}
use Rattle.table_store.proofs.StandingFacts.{AreTables-applied}
use Rattle.table_store.proofs.tables.Tables.commit.Goals as goal

pub returns-in_ok-apply-in-Applies-clause-tables : goal.returns-in_ok-apply-in-Applies-clause-tables
returns-in_ok-apply-in-Applies-clause-tables c =
    subst AreTables (sym c.in_ok-apply-in-Applies.ensures.ok)
    (AreTables-applied c.args.change c.args.self.now c.requires.tables c.requires.rows (sym c.rule.ensures ∙ c.in-Applies.is))
