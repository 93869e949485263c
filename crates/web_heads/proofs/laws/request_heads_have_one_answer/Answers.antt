use Rattle.web_heads.proofs.RequestsSaid.{sound, only}
use Rattle.web_heads.proofs.laws.request_heads_have_one_answer.Goals as goal

pub returns : goal.returns
returns c = record { given = sound; only = only }
