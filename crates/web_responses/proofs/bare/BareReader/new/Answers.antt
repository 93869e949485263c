use Rattle.std.proofs.Common.{sym, ap, ◌∙◌}
use Rattle.web_bodies.specs.Body.{Body}
use Rattle.web_contents.specs.Contents.{ends_with_connection}
use Rattle.web_contents.proofs.Finish.{begin_ends, begin_fine}
use Rattle.web_responses.proofs.bare.BareReader.new.Goals as goal

pub first_place-place-requires : goal.first_place-place-requires
first_place-place-requires c fault e =
    begin_fine c.args.kind c.args.at fault (ap (λ (b : Body). b.place) (sym c.new-body.ensures.begun) ∙ e)

pub invariant_of-result : goal.invariant_of-result
invariant_of-result c = (
  c.is_to_end-to_end.ensures ∙ begin_ends c.args.kind c.args.at ∙ ap (λ (b : Body). ends_with_connection b.place) (sym c.new-body.ensures.begun),
  c.first_place-place.ensures,
)
