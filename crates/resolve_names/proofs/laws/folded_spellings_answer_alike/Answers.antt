use Rattle.resolve_names.proofs.Folding.{spellings_answer_alike}
use Rattle.resolve_names.proofs.laws.folded_spellings_answer_alike.Goals as goal

pub returns : goal.returns
returns c = spellings_answer_alike
