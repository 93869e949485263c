use Rattle.web_frames.proofs.WritingLemmas.{percent_encode-escaped}
use Rattle.web_frames.proofs.writing.escaped.Goals as goal

pub returns : goal.returns
returns c =
    rw (c.in_ok-append_to.ensures.ok, c.new-text.ensures.bytes, c.utf8_percent_encode.ensures.text) (percent_encode-escaped c.args.message.now)
