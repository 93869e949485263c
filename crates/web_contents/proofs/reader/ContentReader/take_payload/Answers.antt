use Rattle.std.proofs.Common.{sym, ap, ◌∙◌, take, length-take-le, arith}
use Rattle.web_bodies.specs.Body.{Body}
use Rattle.web_frames.specs.Machine.{FrameState}
use Rattle.web_contents.specs.declared.place.ContentPlace.TheVariants.{Refused}
use Rattle.web_contents.specs.Contents.{ends_with_connection}
use Rattle.web_contents.proofs.Places.{place-bad_frames}
use Rattle.web_contents.proofs.Finish.{after_ends}
use Rattle.web_frames.proofs.ReaderLemmas.{after-side}
use Rattle.web_contents.proofs.Runs.{with_parts, refused_frames, some_taken, run_payload, refuses_payload}
use Rattle.web_contents.proofs.reader.ContentReader.take_payload.Goals as goal

pub place_after-self-inside-requires-clause-side : goal.place_after-self-inside-requires-clause-side
place_after-self-inside-requires-clause-side c =
    c.self.invariant.0 ∙ sym (ap (λ (s : FrameState). s.side) c.in-Ok.ensures.state ∙ after-side c.self.inside.frames (take c.in-Ok.count c.args.payload.now))

pub invariant_of-self : goal.invariant_of-self
invariant_of-self c =
    let count = c.in-Ok.count in
    let payload = c.args.payload.now in
    let taken = c.take_payload.ensures.taken (take count payload) (length-take-le count payload c.in-Ok.ensures.within) in (
      c.self.invariant.0 ∙ sym (ap (λ (s : FrameState). s.side) c.in-Ok.ensures.state ∙ after-side c.self.inside.frames (take count payload)),
      c.self.invariant.1 ∙ sym (ap (λ (b : Body). ends_with_connection b.place) taken.state ∙ after_ends c.self.inside.body (take count payload)),
      c.place_after-self-inside.ensures,
    )

pub invariant_of-self-in-Err : goal.invariant_of-self-in-Err
invariant_of-self-in-Err c =
    let refused = refused_frames c.self.inside.frames c.args.payload.now c.in-Err.fault c.feed.new.self c.in-Err.ensures in (
      c.self.invariant.0 ∙ sym refused.1,
      c.self.invariant.1,
      ap Refused c.from-fault.ensures ∙ sym (place-bad_frames (with_parts c.self.inside.body c.feed.new.self) c.in-Err.fault refused.0),
    )

pub returns-in-Ok : goal.returns-in-Ok
returns-in-Ok c =
    let some = some_taken c.self.inside.frames c.args.payload.now c.in-Ok.count c.in-Ok.told c.feed.new.self c.in-Ok.ensures c.requires.some in
    rw (← c.self.view_is)
    (run_payload (with_parts c.self.inside.body c.self.inside.frames) c.args.payload.now c.in-Ok.count c.in-Ok.told c.take_payload.new.self c.feed.new.self
    c.requires.some c.in-Ok.ensures (rw (← c.self.view_is) at c.requires.payload) c.take_payload.ensures.taken (c.take_payload.ensures.not_refused some))

pub returns-in-Err : goal.returns-in-Err
returns-in-Err c =
    let all = rw (← c.self.view_is) at c.requires.payload in
    rw (← c.self.view_is, c.from-fault.ensures)
    (refuses_payload (with_parts c.self.inside.body c.self.inside.frames) c.args.payload.now c.in-Err.fault c.feed.new.self (all c.args.payload.now (omega arith)) c.in-Err.ensures)
