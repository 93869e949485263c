use Rattle.std.proofs.Common.{◌≡◌, List, subst}
use Rattle.std.specs.Prelude.{IfOk}
use Rattle.std.specs.Option.{option_copied}
use Rattle.cn_types.specs.declared.row.Row.{Row}
use Rattle.plan_model.specs.Outcomes.{limited}
use Rattle.relation_eval.specs.Given.{rows_of, outcome_of}
use Rattle.relation_eval.proofs.JoinedFacts.{semi-joined}
use Rattle.relation_eval.proofs.joins.join.Goals as goal

pub returns-in-Semi : goal.returns-in-Semi
returns-in-Semi c =
    subst (λ (rows : List Row). IfOk c.semi.result (λ given. outcome_of given ≡ limited rows))
    (semi-joined c.args.kind (option_copied c.args.condition) c.args.left_width c.args.right_width (rows_of c.args.left) (rows_of c.args.right) c.as_slice-b.result.now c.in-Semi.is c.as_slice-b.ensures) c.semi.ensures
