use Rattle.plan_tokens.proofs.Runs.{of_rest}
use Rattle.plan_tokens.proofs.bytes.word_end.Goals as goal

pub returns-clause-run : goal.returns-clause-run
returns-clause-run c = of_rest _ c.args.bytes.now c.args.at _ c.word_length.ensures.run
