use Rattle.resolve_ids.proofs.Limits.{limited_alike, within_renamed}
use Rattle.resolve_ids.proofs.laws.limits_judge_alike.Goals as goal

pub returns : goal.returns
returns g c = record { within = λ name. within_renamed name; judged = λ name. limited_alike name }
