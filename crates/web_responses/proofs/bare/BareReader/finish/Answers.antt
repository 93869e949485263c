use Rattle.std.proofs.Common.{ap, sym, ◌∙◌, refl, true, false}
use Rattle.web_contents.specs.declared.place.ContentPlace.TheVariants.{Over, Refused}
use Rattle.web_contents.specs.Contents.{ends_with_connection, finish}
use Rattle.web_contents.proofs.Finish.{finish_is}
use Rattle.web_responses.proofs.BareBodies.{bare_with, bare_finish}
use Rattle.web_responses.proofs.bare.BareReader.finish.Goals as goal

pub returns-in-Refused : goal.returns-in-Refused
returns-in-Refused c =
    let now = bare_with c.self.inside.body c.self.inside.has_payload in
    sym (ap finish (sym c.self.view_is)
    ∙ finish_is now (Refused c.in-Refused.fault) (ends_with_connection c.self.inside.body.place) (sym c.self.invariant.1 ∙ c.in-Refused.is) refl)

pub returns-in-Over : goal.returns-in-Over
returns-in-Over c =
    let now = bare_with c.self.inside.body c.self.inside.has_payload in
    sym (ap finish (sym c.self.view_is)
    ∙ finish_is now Over (ends_with_connection c.self.inside.body.place) (sym c.self.invariant.1 ∙ c.in-Over.is) refl)

pub returns-then-self : goal.returns-then-self
returns-then-self c =
    sym (ap finish (sym c.self.view_is)
    ∙ bare_finish c.self.inside.body c.self.inside.has_payload true (sym c.self.invariant.1 ∙ c.in-Open.is) (sym c.self.invariant.0 ∙ c.if-self.true))

pub returns-else-self : goal.returns-else-self
returns-else-self c =
    sym (ap finish (sym c.self.view_is)
    ∙ bare_finish c.self.inside.body c.self.inside.has_payload false (sym c.self.invariant.1 ∙ c.in-Open.is) (sym c.self.invariant.0 ∙ c.if-self.false))
