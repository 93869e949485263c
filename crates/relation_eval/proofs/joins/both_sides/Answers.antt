use Rattle.std.proofs.Common.{◌≡◌, ◌∙◌, List, sym, ap, subst, not}
use Rattle.std.specs.Prelude.{IfOk}
use Rattle.std.specs.Option.{option_copied}
use Rattle.cn_types.specs.declared.row.Row.{Row}
use Rattle.plan_model.specs.Outcomes.{limited}
use Rattle.relation_eval.specs.Given.{outcome_of}
use Rattle.relation_eval.specs.Matches.{FindsMatches}
use Rattle.relation_eval.proofs.JoinedFacts.{none_copied, product_many, found-both}
use Rattle.relation_eval.proofs.joins.both_sides.Goals as goal

pub returns-then-is_too_many : goal.returns-then-is_too_many
returns-then-is_too_many c =
    sym (product_many c.args.kind (option_copied c.args.condition) c.args.left_width c.args.right_width c.args.left.now c.args.right.now
    (none_copied c.args.condition (c.is_none.ensures ∙ ap not c.if-is_none.true)) (c.is_too_many.ensures c.if-is_too_many.true))

pub returns : goal.returns
returns c =
    let finds : FindsMatches (option_copied c.args.condition) c.args.left.now c.args.right.now c.in-Some.found = rw c.in-Some.is at c.in_ok-find_matches.ensures.all in
    subst (λ (rows : List Row). IfOk c.with_rows_alone.result (λ given. outcome_of given ≡ limited rows))
    (found-both c.args.kind (option_copied c.args.condition) c.args.left_width c.args.right_width c.args.left.now c.args.right.now c.in-Some.found finds) c.with_rows_alone.ensures
