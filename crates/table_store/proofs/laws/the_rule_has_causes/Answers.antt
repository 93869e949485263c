use Rattle.table_store.proofs.RuleFacts.{rule_has_causes}
use Rattle.table_store.proofs.laws.the_rule_has_causes.Goals as goal

pub returns : goal.returns
returns c = rule_has_causes
