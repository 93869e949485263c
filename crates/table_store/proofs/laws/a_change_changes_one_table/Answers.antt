use Rattle.table_store.proofs.NameFacts.{changes_one_table}
use Rattle.table_store.proofs.laws.a_change_changes_one_table.Goals as goal

pub returns : goal.returns
returns c = changes_one_table
