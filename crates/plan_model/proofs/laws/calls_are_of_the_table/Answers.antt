use Rattle.plan_model.proofs.TypingFacts.{calls_are_of_the_table, aggregates_are_of_the_table}
use Rattle.plan_model.proofs.laws.calls_are_of_the_table.Goals as goal

pub returns : goal.returns
returns c = record { calls = calls_are_of_the_table; aggregates = aggregates_are_of_the_table }
