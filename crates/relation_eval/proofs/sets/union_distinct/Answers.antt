use Rattle.std.proofs.Common.{◌≡◌, ◌++◌, ◌∙◌, ap, List}
use Rattle.std.specs.Prelude.{None}
use Rattle.cn_types.specs.declared.row.Row.{Row}
use Rattle.plan_model.specs.Outcomes.{limited}
use Rattle.relation_eval.specs.Firsts.{firsts}
use Rattle.relation_eval.specs.Given.{rows_of}
use Rattle.relation_eval.proofs.SetFacts.{union_distinct_is}
use Rattle.relation_eval.proofs.sets.union_distinct.Goals as goal

pub returns : goal.returns
returns c =
    let together : c.in_ok-together.together.items ≡ rows_of c.args.left ++ rows_of c.args.right = c.in_ok-together.ensures in
    let list : c.in_ok-list.list.items ≡ firsts None c.in_ok-together.together.items = c.in_ok-list.ensures in (
      firsts None (rows_of c.args.left ++ rows_of c.args.right),
      union_distinct_is (rows_of c.args.left) (rows_of c.args.right),
      c.limited_rows.ensures ∙ ap limited (list ∙ ap (λ (rs : List Row). firsts None rs) together),
    )
