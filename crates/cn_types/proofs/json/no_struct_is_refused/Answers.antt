use Rattle.cn_types.proofs.StructFacts.{no_struct_refused}
use Rattle.cn_types.proofs.json.no_struct_is_refused.Goals as goal

pub returns : goal.returns
returns c = no_struct_refused
