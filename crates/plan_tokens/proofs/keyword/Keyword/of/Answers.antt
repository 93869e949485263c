use Rattle.std.proofs.Common.{sym}
use Rattle.plan_tokens.proofs.WordFacts.{keyword_found}
use Rattle.plan_tokens.proofs.keyword.Keyword.of.Goals as goal

pub returns-in-Some : goal.returns-in-Some
returns-in-Some c = sym (keyword_found c.in-Some.keyword c.args.word.now c.in-Some.ensures.found)
