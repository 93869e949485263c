use Rattle.cn_types.proofs.PrintedFacts.{one_spelled}
use Rattle.cn_types.proofs.spelling.one_value_is_spelled.Goals as goal

pub returns : goal.returns
returns c = one_spelled
