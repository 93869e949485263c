use Rattle.std.proofs.Common.{◌∙◌, List, map, ap}
use Rattle.std.specs.Option.{option_copied}
use Rattle.cn_types.specs.declared.row.Row.{Row}
use Rattle.plan_model.specs.Outcomes.{limited}
use Rattle.relation_eval.specs.Given.{rows_of}
use Rattle.relation_eval.specs.Matches.{matches_some}
use Rattle.relation_eval.proofs.JoinedFacts.{kept_are}
use Rattle.relation_eval.proofs.joins.semi.Goals as goal

pub returns : goal.returns
returns c =
    let test = matches_some (option_copied c.args.condition) c.args.right.now in
    let flags = c.as_slice-3.ensures.value ∙ c.in_ok-flags.ensures ∙ ap (λ (rows : List Row). map (matches_some (option_copied c.args.condition) c.args.right.now) rows) c.as_slice-2.ensures in
    c.limited_rows.ensures ∙ ap limited (kept_are test (rows_of c.args.left) c.in_ok-list.list.items c.as_slice-3.result.now c.in_ok-list.ensures flags)
