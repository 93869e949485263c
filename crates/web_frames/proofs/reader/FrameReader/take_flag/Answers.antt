use Rattle.std.proofs.Common.{ap}
use Rattle.web_frames.specs.Machine.{FrameState}
use Rattle.web_frames.proofs.CallLemmas.{FeedsAll-kept, flag_unsettled, FeedsAll-flag}
use Rattle.web_frames.proofs.reader.FrameReader.take_flag.Goals as goal

pub returns-in-Some : goal.returns-in-Some
returns-in-Some c =
    FeedsAll-flag c.self.inside.side c.args.self.now c.args.byte c.in-Some.fault c.refuse.result c.refuse.new.self (ap (λ (s : FrameState). s.side) c.self.view_is)
    c.requires.place c.requires.first c.in-Some.ensures c.refuse.ensures.fault c.refuse.ensures.state

pub hold-requires-clause-unsettled : goal.hold-requires-clause-unsettled
hold-requires-clause-unsettled c =
    flag_unsettled c.self.inside.side c.args.self.now c.args.byte (ap (λ (s : FrameState). s.side) c.self.view_is) c.requires.first c.in_default.ensures

pub returns : goal.returns
returns c =
    FeedsAll-kept c.args.self.now c.args.byte c.hold.new.self c.requires.place
    (flag_unsettled c.self.inside.side c.args.self.now c.args.byte (ap (λ (s : FrameState). s.side) c.self.view_is) c.requires.first c.in_default.ensures)
    c.hold.ensures
