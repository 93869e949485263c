use Rattle.web_frames.proofs.TrailerLemmas.{Answers-payload}
use Rattle.web_frames.proofs.reading.read_trailers.Goals as goal

pub returns-clause-says : goal.returns-clause-says
returns-clause-says c = Answers-payload c.args.payload.now c.trailers_in.result c.trailers_in.ensures
