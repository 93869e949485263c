use Rattle.flat_tables.proofs.FieldLemmas.{finds, fails}
use Rattle.flat_tables.proofs.laws.slots_are_found.Goals as goal

pub returns-clause-found : goal.returns-clause-found
returns-clause-found c = finds

pub returns-clause-outside : goal.returns-clause-outside
returns-clause-outside c = fails
