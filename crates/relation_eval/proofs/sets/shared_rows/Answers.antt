use Rattle.std.proofs.Common.{◌∙◌, ap, List}
use Rattle.std.specs.Prelude.{None}
use Rattle.cn_types.specs.declared.row.Row.{Row}
use Rattle.plan_model.specs.Outcomes.{limited}
use Rattle.relation_eval.specs.Copies.{all_repeated}
use Rattle.relation_eval.specs.Firsts.{firsts}
use Rattle.relation_eval.specs.Given.{rows_of}
use Rattle.relation_eval.proofs.SetFacts.{repeated_is}
use Rattle.relation_eval.proofs.sets.shared_rows.Goals as goal

pub returns : goal.returns
returns c =
    let left = rows_of c.args.left in
    let right = rows_of c.args.right in
    let list = c.in_ok-list.ensures in (
      all_repeated c.args.kind c.args.all left right (firsts None left),
      repeated_is c.args.kind c.args.all left right c.requires,
      c.limited_rows.ensures
          ∙ ap limited (list ∙ ap (λ (rs : List Row). all_repeated c.args.kind c.args.all rs c.as_slice-2.result.now (firsts None rs)) c.as_slice.ensures
          ∙ ap (λ (rs : List Row). all_repeated c.args.kind c.args.all left rs (firsts None left)) c.as_slice-2.ensures),
    )
