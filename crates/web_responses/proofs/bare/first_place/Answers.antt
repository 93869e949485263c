use Rattle.std.proofs.Common.{false, refl, sym}
use Rattle.std.proofs.lemmas.Bool.{both_ways}
use Rattle.web_responses.proofs.BareBodies.{bare_over, bare_open, still_open}
use Rattle.web_responses.proofs.bare.first_place.Goals as goal

pub returns-then-is_over : goal.returns-then-is_over
returns-then-is_over c = sym (bare_over c.args.body.now false refl (c.is_over.ensures.0 c.if-is_over.true))

pub returns-else-is_over : goal.returns-else-is_over
returns-else-is_over c =
    sym (bare_open c.args.body.now false refl
    (still_open c.args.body.now.place (λ e. both_ways c.is_over.result c.if-is_over.false (c.is_over.ensures.1 e)) c.requires))
