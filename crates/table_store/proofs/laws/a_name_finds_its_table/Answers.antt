use Rattle.table_store.proofs.NameFacts.{name_finds_its_table}
use Rattle.table_store.proofs.laws.a_name_finds_its_table.Goals as goal

pub returns : goal.returns
returns c = name_finds_its_table
