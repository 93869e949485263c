use Rattle.std.proofs.Common.{◌∙◌, ℕ, ◌<◌, ◌≤◌, List, get_or, ap, subst}
use Rattle.web_frames.specs.declared.fault.FrameFault.TheVariants.{FrameTooLong}
use Rattle.web_frames.specs.Machine.{told_by, refused_at}
use Rattle.web_frames.specs.Parts.{Ends}
use Rattle.web_frames.proofs.CallLemmas.{FeedsAll-kept, FeedsAll-too_long, FeedsAll-empty_frame, unsettled-fifth}
use Rattle.web_frames.proofs.reader.FrameReader.take_length.Goals as goal

pub returns-then-length-frame_limit : goal.returns-then-length-frame_limit
returns-then-length-frame_limit c =
    let i = c.self.inside in
    FeedsAll-too_long i.side i.place i.head i.count i.payload c.args.self.now c.args.byte c.from_be_bytes-length.result c.refuse.result c.refuse.new.self
    c.self.view_is c.self.invariant c.requires.place c.requires.fifth c.from_be_bytes-length.ensures
    (subst (λ (n : ℕ). n < c.from_be_bytes-length.result) c.frame_limit.ensures c.if-length-frame_limit.true)
    (c.refuse.ensures.fault ∙ ap (λ (n : ℕ). FrameTooLong n) c.from-length.ensures)
    (c.refuse.ensures.state ∙ ap (λ (n : ℕ). refused_at c.args.self.now.side (FrameTooLong n)) c.from-length.ensures)

pub returns-then-length-eq0 : goal.returns-then-length-eq0
returns-then-length-eq0 c =
    let i = c.self.inside in
    FeedsAll-empty_frame i.side i.place i.head i.count i.payload c.args.self.now c.args.byte c.from_be_bytes-length.result c.end_frame.result c.end_frame.new.self
    c.self.view_is c.self.invariant c.requires.place c.requires.fifth c.from_be_bytes-length.ensures c.if-length-eq0.true
    (subst (λ (payload : List ℕ). Ends c.args.self.now.side (told_by (get_or i.head 0 0) payload) c.end_frame.result c.end_frame.new.self) c.new-payload.ensures c.end_frame.ensures)

pub hold-requires-clause-unsettled : goal.hold-requires-clause-unsettled
hold-requires-clause-unsettled c =
    let i = c.self.inside in
    unsettled-fifth i.side i.place i.head i.count i.payload c.args.self.now c.args.byte c.from_be_bytes-length.result
    c.self.view_is c.self.invariant c.requires.place c.requires.fifth c.from_be_bytes-length.ensures c.if-length-eq0.false
    (subst (λ (n : ℕ). c.from_be_bytes-length.result ≤ n) c.frame_limit.ensures c.if-length-frame_limit.false)

pub returns : goal.returns
returns c =
    let i = c.self.inside in
    FeedsAll-kept c.args.self.now c.args.byte c.hold.new.self c.requires.place
    (unsettled-fifth i.side i.place i.head i.count i.payload c.args.self.now c.args.byte c.from_be_bytes-length.result
    c.self.view_is c.self.invariant c.requires.place c.requires.fifth c.from_be_bytes-length.ensures c.if-length-eq0.false
    (subst (λ (n : ℕ). c.from_be_bytes-length.result ≤ n) c.frame_limit.ensures c.if-length-frame_limit.false))
    c.hold.ensures
