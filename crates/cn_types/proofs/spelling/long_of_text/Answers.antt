use Rattle.std.proofs.Common.{rules}
use Rattle.cn_types.proofs.PrintedFacts.{parsed_long, not_printed}
use Rattle.cn_types.proofs.spelling.long_of_text.Goals as goal

pub returns-in_default-clause-bad : goal.returns-in_default-clause-bad
returns-in_default-clause-bad c = λ bad n range e. c.in_default.not-Ok n (parsed_long n _ c.parse.result range e c.parse.ensures.value.0)

pub returns-else-eq-clause-bad : goal.returns-else-eq-clause-bad
returns-else-eq-clause-bad c =
    λ bad n range e. not_printed c.in-Ok.long n c.as_str.result.now _ c.parse.result c.in-Ok.is (parsed_long n _ c.parse.result range e c.parse.ensures.value.0) (search rules) c.if-eq.ensures e
