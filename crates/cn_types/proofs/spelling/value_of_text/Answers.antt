use Rattle.std.proofs.Common.{rules}
use Rattle.cn_types.proofs.PrintedFacts.{only_read}
use Rattle.cn_types.proofs.spelling.value_of_text.Goals as goal

pub returns-then-eq-clause-read_back : goal.returns-then-eq-clause-read_back
returns-then-eq-clause-read_back c = only_read _ _ _ (search rules)

pub returns-in_ok-integer_of_text-in-Integer-clause-read_back : goal.returns-in_ok-integer_of_text-in-Integer-clause-read_back
returns-in_ok-integer_of_text-in-Integer-clause-read_back c = only_read _ _ _ (search rules)

pub returns-in_ok-long_of_text-in-Long-clause-read_back : goal.returns-in_ok-long_of_text-in-Long-clause-read_back
returns-in_ok-long_of_text-in-Long-clause-read_back c = only_read _ _ _ (search rules)

pub returns-in_ok-text_of_spelling-in-Text-clause-read_back : goal.returns-in_ok-text_of_spelling-in-Text-clause-read_back
returns-in_ok-text_of_spelling-in-Text-clause-read_back c = only_read _ _ _ (search rules)

pub returns-in_ok-days_of_text-in-Date-clause-read_back : goal.returns-in_ok-days_of_text-in-Date-clause-read_back
returns-in_ok-days_of_text-in-Date-clause-read_back c = only_read _ _ _ (search rules)
