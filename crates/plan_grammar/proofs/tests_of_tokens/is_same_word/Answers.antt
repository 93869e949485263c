use denote.Enum.Bare.{same_true, true_same}
use Rattle.plan_tokens.specs.contracts.keyword.Keyword.{the_type}
use Rattle.std.proofs.Common.{sym, ◌∙◌}
use Rattle.plan_grammar.proofs.WordFacts.{same_word}
use Rattle.plan_grammar.proofs.tests_of_tokens.is_same_word.Goals as goal

pub returns : goal.returns
returns c = same_word c.args.one c.args.other c.eq.result ((λ t. same_true the_type tt c.args.one c.args.other (sym c.eq.ensures ∙ t)), (λ e. c.eq.ensures ∙ true_same the_type c.args.one c.args.other e))
