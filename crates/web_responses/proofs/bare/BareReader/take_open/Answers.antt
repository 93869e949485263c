use Rattle.std.proofs.Common.{ap, sym, ◌∙◌, length}
use Rattle.std.proofs.lemmas.Bool.{eqb-true}
use Rattle.web_contents.specs.Contents.{place_of}
use Rattle.web_contents.proofs.Places.{open-place}
use Rattle.web_contents.proofs.Runs.{none_so_far, gives_all}
use Rattle.web_responses.proofs.BareBodies.{bare_with, good_flag, bare_refused, bare_settles, ahead_payload}
use Rattle.web_responses.proofs.bare.BareReader.take_open.Goals as goal

pub returns-then-is_empty : goal.returns-then-is_empty
returns-then-is_empty c =
    gives_all c.args.self.now c.args.piece.now c.args.self.now 0 (none_so_far c.args.self.now c.args.piece.now) c.requires.is_open
    (sym (eqb-true (length c.args.piece.now) 0 (sym c.is_empty.ensures ∙ c.if-is_empty.true)))

pub invariant_of-self : goal.invariant_of-self
invariant_of-self c = (c.self.invariant.0, sym (bare_refused c.self.inside.body))

pub returns-then-payload_ahead-gt0 : goal.returns-then-payload_ahead-gt0
returns-then-payload_ahead-gt0 c =
    let body = c.self.inside.body in
    let flag = c.self.inside.has_payload in
    let good = (open-place (bare_with body flag) (ap place_of c.self.view_is ∙ c.requires.is_open)).0 in
    let some = ahead_payload body c.args.piece.now c.payload_ahead.result c.if-payload_ahead-gt0.true
    c.payload_ahead.ensures.within c.payload_ahead.ensures.all in
    rw (← c.self.view_is) (bare_settles body flag c.args.piece.now body some.b some.more (good_flag flag good) some.is)
