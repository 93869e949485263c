use Rattle.std.proofs.Common.{◌≡◌, ap, sym, ◌∙◌, length, take, arith}
use Rattle.std.proofs.lemmas.Bool.{both_ways}
use Rattle.web_bodies.specs.Body.{Body}
use Rattle.web_contents.specs.declared.place.ContentPlace.TheVariants.{Open, Over, Refused}
use Rattle.web_contents.specs.Contents.{place_of, ends_with_connection}
use Rattle.web_contents.proofs.Places.{open-place, place-bad_body}
use Rattle.web_contents.proofs.Finish.{after_ends, refused_else}
use Rattle.web_contents.proofs.Runs.{not_over, framing_else, refused_body, refuses_framing}
use Rattle.web_responses.proofs.BareBodies.{bare_with, good_flag, bare_over, bare_open, bare_refused, still_open, bare_leads, bare_settles, framing_payload}
use Rattle.web_responses.proofs.bare.BareReader.take_framing.Goals as goal

pub take_framing-requires-clause-not_over : goal.take_framing-requires-clause-not_over
take_framing-requires-clause-not_over c =
    not_over c.self.inside.body.place (open-place (bare_with c.self.inside.body c.self.inside.has_payload) (ap place_of c.self.view_is ∙ c.requires.is_open)).1

pub invariant_of-self : goal.invariant_of-self
invariant_of-self c =
    let body = c.self.inside.body in
    let flag = c.self.inside.has_payload in
    let good = (open-place (bare_with body flag) (ap place_of c.self.view_is ∙ c.requires.is_open)).0 in (
      c.self.invariant.0 ∙ sym (ap (λ (b : Body). ends_with_connection b.place) c.in-Ok.ensures.taken.state ∙ after_ends body (take c.in-Ok.count c.args.piece.now)),
      sym (bare_over c.take_framing.new.self flag (good_flag flag good) (c.is_over.ensures.0 c.if-is_over.true)),
    )

pub returns-then-is_over : goal.returns-then-is_over
returns-then-is_over c =
    let body = c.self.inside.body in
    let flag = c.self.inside.has_payload in
    let good = (open-place (bare_with body flag) (ap place_of c.self.view_is ∙ c.requires.is_open)).0 in
    rw (← c.self.view_is)
    (bare_leads body flag c.args.piece.now c.in-Ok.count c.take_framing.new.self Over c.in-Ok.ensures.taken
    (bare_over c.take_framing.new.self flag (good_flag flag good) (c.is_over.ensures.0 c.if-is_over.true)))

pub invariant_of-self-then-count-piece : goal.invariant_of-self-then-count-piece
invariant_of-self-then-count-piece c = (
  c.self.invariant.0 ∙ sym (ap (λ (b : Body). ends_with_connection b.place) c.in-Ok.ensures.taken.state ∙ after_ends c.self.inside.body (take c.in-Ok.count c.args.piece.now)),
  sym (bare_refused c.take_framing.new.self),
)

pub returns-then-count-piece : goal.returns-then-count-piece
returns-then-count-piece c =
    let body = c.self.inside.body in
    let flag = c.self.inside.has_payload in
    let good = (open-place (bare_with body flag) (ap place_of c.self.view_is ∙ c.requires.is_open)).0 in
    let some = framing_payload body c.args.piece.now c.in-Ok.count c.take_framing.new.self c.in-Ok.ensures.taken
    c.if-count-piece.true
    (λ e. both_ways c.is_over.result c.if-is_over.false (c.is_over.ensures.1 e)) in
    rw (← c.self.view_is) (bare_settles body flag c.args.piece.now c.take_framing.new.self some.b some.more (good_flag flag good) some.is)

pub invariant_of-self-else-count-piece : goal.invariant_of-self-else-count-piece
invariant_of-self-else-count-piece c =
    let body = c.self.inside.body in
    let flag = c.self.inside.has_payload in
    let stands = ap place_of c.self.view_is ∙ c.requires.is_open in
    let good = (open-place (bare_with body flag) stands).0 in
    let new = c.take_framing.new.self in
    let going = still_open new.place (λ e. both_ways c.is_over.result c.if-is_over.false (c.is_over.ensures.1 e)) c.in-Ok.ensures.taken.not_refused in (
      c.self.invariant.0 ∙ sym (ap (λ (b : Body). ends_with_connection b.place) c.in-Ok.ensures.taken.state ∙ after_ends body (take c.in-Ok.count c.args.piece.now)),
      c.self.invariant.1 ∙ stands ∙ sym (bare_open new flag (good_flag flag good) going),
    )

pub returns-else-count-piece : goal.returns-else-count-piece
returns-else-count-piece c =
    let body = c.self.inside.body in
    let flag = c.self.inside.has_payload in
    let good = (open-place (bare_with body flag) (ap place_of c.self.view_is ∙ c.requires.is_open)).0 in
    let new = c.take_framing.new.self in
    let going = still_open new.place (λ e. both_ways c.is_over.result c.if-is_over.false (c.is_over.ensures.1 e)) c.in-Ok.ensures.taken.not_refused in
    let within = c.in-Ok.ensures.taken.within in
    let most = c.if-count-piece.false in
    rw (← c.self.view_is) (
      let all : c.in-Ok.count ≡ length c.args.piece.now = omega arith in all,
      bare_leads body flag c.args.piece.now c.in-Ok.count new Open c.in-Ok.ensures.taken (bare_open new flag (good_flag flag good) going),
    )

pub invariant_of-self-in-Err : goal.invariant_of-self-in-Err
invariant_of-self-in-Err c =
    let body = c.self.inside.body in
    let flag = c.self.inside.has_payload in
    let good = (open-place (bare_with body flag) (ap place_of c.self.view_is ∙ c.requires.is_open)).0 in
    let refused = refused_body body c.args.piece.now c.take_framing.new.self c.in-Err.fault c.in-Err.ensures.refused in
    let framing = rw (← c.self.view_is) at c.requires.framing in (
      c.self.invariant.0 ∙ framing_else body.place (length c.args.piece.now) framing c.requires.some
          ∙ sym (refused_else c.in-Err.fault c.take_framing.new.self.place refused),
      ap Refused c.from-fault.ensures ∙ sym (place-bad_body (bare_with c.take_framing.new.self flag) c.in-Err.fault good refused),
    )

pub returns-in-Err : goal.returns-in-Err
returns-in-Err c =
    let body = c.self.inside.body in
    let flag = c.self.inside.has_payload in
    let good = (open-place (bare_with body flag) (ap place_of c.self.view_is ∙ c.requires.is_open)).0 in
    rw (← c.self.view_is, c.from-fault.ensures)
    (refuses_framing (bare_with body flag) c.args.piece.now c.take_framing.new.self c.in-Err.fault good c.in-Err.ensures.refused)
