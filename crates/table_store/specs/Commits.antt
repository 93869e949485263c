-- What one commit does: it applies the change once, skips it, or refuses it and changes nothing.
use Rattle.std.specs.Prelude.{◌≡◌, ℕ, ◌+◌, ◌≤◌, true, false, Result, Ok, Err, IfOk, IfErr, OnErr}
use Rattle.cn_base.specs.Outside.{Rose}
use Rattle.table_store.specs.declared.change.Commit.{Commit}
use Rattle.table_store.specs.declared.change.CommitRefusal.{CommitRefusal}
use Rattle.table_store.specs.declared.change.TableChange.{TableChange}
use Rattle.table_store.specs.declared.rule.Ruling.{Ruling}
use Rattle.table_store.specs.declared.tables.Tables.{Tables}
use Rattle.table_store.specs.Applied.{applied}
use Rattle.table_store.specs.Rule.{ruling}

-- an Ok answer: where the rule applies the change, it was applied once; where the rule skips it, nothing changed
abbrev pub IsDone : Ruling → TableChange → Tables → Commit → Tables → Type 0
IsDone Ruling.Applies change before commit after =
    (after ≡ applied change before) × (commit ≡ record { version = before.version + 1; applied = true })
IsDone Ruling.Skips change before commit after =
    (after ≡ before) × (commit ≡ record { version = before.version; applied = false })
IsDone Ruling.Exists change before commit after = ⊥
IsDone Ruling.Missing change before commit after = ⊥
IsDone Ruling.Mismatched change before commit after = ⊥

-- the cause of a refusal: what the rule says of the change; the store fails only where the rule applies it; want of memory is free
abbrev pub IsCause : CommitRefusal → Ruling → Type 0
IsCause CommitRefusal.AlreadyExists rule = rule ≡ Ruling.Exists
IsCause CommitRefusal.NotFound rule = rule ≡ Ruling.Missing
IsCause CommitRefusal.SchemaMismatch rule = rule ≡ Ruling.Mismatched
IsCause CommitRefusal.StoreFault rule = rule ≡ Ruling.Applies
IsCause CommitRefusal.OutOfMemory rule = Unit {0}

-- the count of faults over one commit: it rose where the store failed, and stayed otherwise
abbrev pub CountsFault : Result Commit CommitRefusal → ℕ → ℕ → Type 0
CountsFault (Ok commit) faults faults_after = faults_after ≡ faults
CountsFault (Err CommitRefusal.AlreadyExists) faults faults_after = faults_after ≡ faults
CountsFault (Err CommitRefusal.NotFound) faults faults_after = faults_after ≡ faults
CountsFault (Err CommitRefusal.SchemaMismatch) faults faults_after = faults_after ≡ faults
CountsFault (Err CommitRefusal.StoreFault) faults faults_after = Rose faults faults_after
CountsFault (Err CommitRefusal.OutOfMemory) faults faults_after = faults_after ≡ faults

-- one commit: an Ok answer applied the change or skipped it, by the rule; an error has its cause and changed nothing; the count of
-- faults never falls, and rose exactly where the store failed
pub record Commits (before : Tables) (faults : ℕ) (change : TableChange) (answer : Result Commit CommitRefusal) (after : Tables) (faults_after : ℕ) : Type 0 where
  pub done : IfOk answer (λ commit. IsDone (ruling change before) change before commit after)
  pub cause : IfErr answer (λ refusal. IsCause refusal (ruling change before))
  pub unchanged : OnErr answer (after ≡ before)
  pub counted : CountsFault answer faults faults_after
  pub never_falls : faults ≤ faults_after
