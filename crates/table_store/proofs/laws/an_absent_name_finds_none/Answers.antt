use Rattle.table_store.proofs.NameFacts.{absent_name_finds_none}
use Rattle.table_store.proofs.laws.an_absent_name_finds_none.Goals as goal

pub returns : goal.returns
returns c = absent_name_finds_none
