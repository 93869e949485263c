use Rattle.web_requests.proofs.Parts.{begins, begins_bad}
use Rattle.web_requests.proofs.reader.begin_body.Goals as goal

pub returns-in-Ok : goal.returns-in-Ok
returns-in-Ok c = begins c.args.head.now c.in-Ok.field-0 c.new-contents.result c.in-Ok.ensures.exact c.new-contents.ensures.begun c.requires

pub returns-in-Err : goal.returns-in-Err
returns-in-Err c = rw c.from.ensures (begins_bad c.args.head.now c.in-Err.fault c.in-Err.ensures.exact)
