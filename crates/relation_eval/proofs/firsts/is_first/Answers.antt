use Rattle.std.proofs.Common.{◌∙◌, ap}
use Rattle.relation_eval.specs.Places.{head_is}
use Rattle.relation_eval.proofs.FirstFacts.{first_of_places}
use Rattle.relation_eval.proofs.firsts.is_first.Goals as goal

pub returns : goal.returns
returns c =
    c.first_is.ensures ∙ ap (λ ps. head_is ps c.args.place) c.same.ensures
    ∙ first_of_places c.args.buckets.now.columns c.args.buckets.now.rows.now c.args.row.now c.args.place c.requires.there c.requires.row
