use Rattle.web_frames.proofs.CallLemmas.{FeedsAll-kept, unsettled-early}
use Rattle.web_frames.proofs.reader.FrameReader.take_head.Goals as goal

pub hold-requires-clause-unsettled : goal.hold-requires-clause-unsettled
hold-requires-clause-unsettled c =
    let i = c.self.inside in
    unsettled-early i.side i.place i.head i.count i.payload c.args.self.now c.args.byte c.self.view_is c.self.invariant c.requires.place c.requires.head
    c.if-self-eq0.false c.if-self-eq4.false

pub returns : goal.returns
returns c =
    let i = c.self.inside in
    FeedsAll-kept c.args.self.now c.args.byte c.hold.new.self c.requires.place
    (unsettled-early i.side i.place i.head i.count i.payload c.args.self.now c.args.byte c.self.view_is c.self.invariant c.requires.place c.requires.head
    c.if-self-eq0.false c.if-self-eq4.false)
    c.hold.ensures
