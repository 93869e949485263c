use Rattle.std.specs.Option.{option_copied}
use Rattle.web_frames.proofs.TrailerLemmas.{Answers-values}
use Rattle.web_frames.proofs.reading.trailers_of.Goals as goal

pub returns-clause-says : goal.returns-clause-says
returns-clause-says c = Answers-values c.args.status.now (option_copied c.args.message) c.of_values.result c.of_values.ensures
