use Rattle.plan_grammar.proofs.Places.{places_are_one, places_refuse}
use Rattle.plan_grammar.proofs.parsing.places_are_exact.Goals as goal

pub returns-clause-one : goal.returns-clause-one
returns-clause-one c = places_are_one

pub returns-clause-refused : goal.returns-clause-refused
returns-clause-refused c = places_refuse
