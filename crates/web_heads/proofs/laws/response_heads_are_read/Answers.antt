use Rattle.web_heads.proofs.ResponseLemmas.{sound, complete}
use Rattle.web_heads.proofs.laws.response_heads_are_read.Goals as goal

pub returns : goal.returns
returns c = record { sound = sound; complete = complete }
