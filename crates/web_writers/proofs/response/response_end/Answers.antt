use Rattle.std.proofs.Common.{◌≡◌, rules, arith}
use Rattle.web_frames.specs.Trailers.{trailers_text}
use Rattle.web_writers.proofs.TrailersText.{length-trailers_text}
use Rattle.web_writers.proofs.response.response_end.Goals as goal

pub frame_chunk-requires-clause-payload : goal.frame_chunk-requires-clause-payload
frame_chunk-requires-clause-payload c =
    let is : c.as_slice.result.now ≡ trailers_text c.args.trailers.now = search rules in
    rw is (length-trailers_text c.args.trailers.now (omega arith) c.requires.short)
