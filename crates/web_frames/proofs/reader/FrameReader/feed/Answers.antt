use Rattle.web_frames.proofs.CallLemmas.{Feeds-stays}
use Rattle.web_frames.proofs.reader.FrameReader.feed.Goals as goal

pub returns-in-Refused : goal.returns-in-Refused
returns-in-Refused c =
    let i = c.self.inside in
    Feeds-stays i.side i.place i.head i.count i.payload c.args.self.now c.args.piece.now c.in-Refused.fault c.self.view_is c.self.invariant c.in-Refused.is
