-- No store is called, so the count of faults is as it was.
use Rattle.std.proofs.Common.{subst}
use Rattle.table_store.specs.declared.tables.Tables.{Tables}
use Rattle.table_store.specs.Commits.{Commits}
use Rattle.table_store.proofs.steady.SteadyKeeperKeeper.commit.Goals as goal

pub returns-clause-commits : goal.returns-clause-commits
returns-clause-commits c =
    subst (λ (tables : Tables). Commits tables 0 c.args.change c.commit.result c.commit.new.self 0) c.self.view_is (c.commit.ensures.commits 0)
