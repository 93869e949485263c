use Rattle.std.proofs.Common.{sym, ap, ◌∙◌, length, take}
use Rattle.web_bodies.specs.Body.{Body}
use Rattle.web_contents.specs.declared.place.ContentPlace.TheVariants.{Refused}
use Rattle.web_contents.specs.Contents.{place_of, ends_with_connection}
use Rattle.web_contents.proofs.Places.{open-place, place-bad_body}
use Rattle.web_contents.proofs.Finish.{after_ends, refused_else}
use Rattle.web_contents.proofs.Runs.{with_parts, not_over, framing_else, refused_body, run_framing, refuses_framing}
use Rattle.web_contents.proofs.reader.ContentReader.take_framing.Goals as goal

pub take_framing-requires-clause-not_over : goal.take_framing-requires-clause-not_over
take_framing-requires-clause-not_over c =
    not_over c.self.inside.body.place (open-place (with_parts c.self.inside.body c.self.inside.frames) (ap place_of c.self.view_is ∙ c.requires.is_open)).1

pub place_after-self-inside-requires-clause-frames : goal.place_after-self-inside-requires-clause-frames
place_after-self-inside-requires-clause-frames c =
    (open-place (with_parts c.self.inside.body c.self.inside.frames) (ap place_of c.self.view_is ∙ c.requires.is_open)).0

pub invariant_of-self : goal.invariant_of-self
invariant_of-self c = (
  c.self.invariant.0,
  c.self.invariant.1 ∙ sym (ap (λ (b : Body). ends_with_connection b.place) c.in-Ok.ensures.taken.state ∙ after_ends c.self.inside.body (take c.in-Ok.count c.args.piece.now)),
  c.place_after-self-inside.ensures,
)

pub invariant_of-self-in-Err : goal.invariant_of-self-in-Err
invariant_of-self-in-Err c =
    let body = c.self.inside.body in
    let good = (open-place (with_parts body c.self.inside.frames) (ap place_of c.self.view_is ∙ c.requires.is_open)).0 in
    let refused = refused_body body c.args.piece.now c.take_framing.new.self c.in-Err.fault c.in-Err.ensures.refused in
    let framing = rw (← c.self.view_is) at c.requires.framing in (
      c.self.invariant.0,
      c.self.invariant.1 ∙ framing_else body.place (length c.args.piece.now) framing c.requires.some ∙ sym (refused_else c.in-Err.fault c.take_framing.new.self.place refused),
      ap Refused c.from-fault.ensures ∙ sym (place-bad_body (with_parts c.take_framing.new.self c.self.inside.frames) c.in-Err.fault good refused),
    )

pub returns-in-Ok : goal.returns-in-Ok
returns-in-Ok c =
    rw (← c.self.view_is)
    (run_framing (with_parts c.self.inside.body c.self.inside.frames) c.args.piece.now c.in-Ok.count c.take_framing.new.self c.in-Ok.ensures.taken)

pub returns-in-Err : goal.returns-in-Err
returns-in-Err c =
    let good = (open-place (with_parts c.self.inside.body c.self.inside.frames) (ap place_of c.self.view_is ∙ c.requires.is_open)).0 in
    rw (← c.self.view_is, c.from-fault.ensures)
    (refuses_framing (with_parts c.self.inside.body c.self.inside.frames) c.args.piece.now c.take_framing.new.self c.in-Err.fault good c.in-Err.ensures.refused)
