-- The tables may stand together after each commit.
use Rattle.table_store.specs.Standing.{AreTables}
use Rattle.table_store.proofs.tests.commit_all.Given as goal

abbrev pub invariant-loop-how : goal.invariant-loop-how
invariant-loop-how g l = AreTables (g.K.Keeper.kept l.keeper)
