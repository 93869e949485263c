-- The store fails only where this commit is to fail; the commit by the rule alone never does.
use Rattle.std.proofs.Common.{◌≡◌, ℕ, Result, Err, subst, arith}
use Rattle.cn_base.specs.Outside.{Rose}
use Rattle.table_store.specs.declared.change.Commit.{Commit}
use Rattle.table_store.specs.declared.change.CommitRefusal.{CommitRefusal}
use Rattle.table_store.specs.declared.change.TableChange.{TableChange}
use Rattle.table_store.specs.declared.tables.Tables.{Tables}
use Rattle.table_store.specs.Commits.{Commits, CountsFault}
use Rattle.table_store.specs.Keepers.{MemoryState}
use Rattle.table_store.proofs.memory.MemoryKeeperKeeper.commit.Goals as goal

not_rose : Rose 0 0 → ⊥
not_rose rose = omega arith

-- where the count of faults stays whatever it is, no store failed
no_fault : (before : Tables) (change : TableChange) (answer : Result Commit CommitRefusal) (after : Tables) →
    ((faults : ℕ) → Commits before faults change answer after faults) → answer ≡ Err CommitRefusal.StoreFault → ⊥
no_fault before change answer after commits failed =
    not_rose (subst (λ (r : Result Commit CommitRefusal). CountsFault r 0 0) failed (commits 0).counted)

pub returns-clause-commits : goal.returns-clause-commits
returns-clause-commits c =
    subst (λ (s : MemoryState). Commits s.tables s.faults c.args.change c.commit.result c.commit.new.self c.self.inside.faults) c.self.view_is
    (c.commit.ensures.commits c.self.inside.faults)

pub returns-clause-fails : goal.returns-clause-fails
returns-clause-fails c = (
  λ failed. absurd (no_fault c.self.inside.tables c.args.change c.commit.result c.commit.new.self c.commit.ensures.commits failed),
  λ is. let fails = c.is_to_fail-fails.ensures.1 is in cc,
)
