use Rattle.web_contents.proofs.Runs.{run_part}
use Rattle.web_contents.proofs.reader.ContentReader.take_run.Goals as goal

pub returns : goal.returns
returns c =
    run_part c.args.self.now c.args.piece.now c.payload_ahead-count.result c.take_payload.result c.take_payload.new.self c.payload_ahead-count.ensures.within
    c.take_payload.ensures
