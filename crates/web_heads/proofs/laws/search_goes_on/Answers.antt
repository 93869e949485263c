use Rattle.web_heads.proofs.EndLemmas.{goes_on_found, goes_on_none}
use Rattle.web_heads.proofs.laws.search_goes_on.Goals as goal

pub returns : goal.returns
returns c = record { found = goes_on_found; none = goes_on_none }
