use Rattle.std.proofs.Common.{◌∙◌, ◌<◌, ◌≤◌, ℕ, refl, subst, length}
use Rattle.web_frames.proofs.CallLemmas.{HoldsFrame-empty, HoldsFrame-longer, FeedsAll-longer, FeedsAll-whole}
use Rattle.web_frames.proofs.reader.FrameReader.take_payload.Goals as goal

pub invariant_of-self-then-piece-lacking : goal.invariant_of-self-then-piece-lacking
invariant_of-self-then-piece-lacking c =
    let i = c.self.inside in
    HoldsFrame-longer i.side i.place i.head i.count i.payload c.args.self.now c.args.piece.now c.append.new.self c.self.view_is c.self.invariant
    c.requires.place c.requires.head (subst (λ (n : ℕ). length c.args.piece.now < n) c.lacking-lacking.ensures.value c.if-piece-lacking.true) c.in-Ok.ensures.ok

pub returns-then-piece-lacking : goal.returns-then-piece-lacking
returns-then-piece-lacking c =
    let i = c.self.inside in
    FeedsAll-longer i.side i.place i.head i.count i.payload c.args.self.now c.args.piece.now c.append.new.self c.self.view_is c.self.invariant
    c.requires.place c.requires.head (subst (λ (n : ℕ). length c.args.piece.now < n) c.lacking-lacking.ensures.value c.if-piece-lacking.true) c.in-Ok.ensures.ok

pub invariant_of-self-2 : goal.invariant_of-self-2
invariant_of-self-2 c = HoldsFrame-empty _ _ _ _ c.self.invariant.room (c.replace-payload.ensures.after ∙ c.new.ensures)

pub returns : goal.returns
returns c =
    let i = c.self.inside in
    FeedsAll-whole i.side i.place i.head i.count i.payload c.args.self.now c.args.piece.now c.replace-payload.result i.side c.end_frame.result c.end_frame.new.self
    c.self.view_is c.self.invariant c.requires.place c.requires.head c.requires.some c.requires.fits
    (subst (λ (n : ℕ). n ≤ length c.args.piece.now) c.lacking-lacking.ensures.value c.if-piece-lacking.false)
    (c.replace-payload.ensures.value ∙ c.in-Ok.ensures.ok) refl c.end_frame.ensures
