use Rattle.web_frames.proofs.TrailerLemmas.{ValuesSay-trailers_of, trailers_of-ValuesSay, TrailersSay-trailers_in, trailers_in-TrailersSay}
use Rattle.web_frames.proofs.laws.trailers_are_read.Goals as goal

pub returns : goal.returns
returns c = record {
  given = TrailersSay-trailers_in;
  only = trailers_in-TrailersSay;
  values_given = ValuesSay-trailers_of;
  values_only = trailers_of-ValuesSay;
}
