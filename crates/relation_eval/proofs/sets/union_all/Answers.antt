use Rattle.std.proofs.Common.{◌<◌, ◌++◌, length, sym, ap, arith, length-append}
use Rattle.plan_model.specs.Outcomes.{row_limit}
use Rattle.relation_eval.specs.Given.{rows_of}
use Rattle.relation_eval.proofs.SetFacts.{union_all_is, limited-many}
use Rattle.relation_eval.proofs.sets.union_all.Goals as goal

pub returns-then-as_slice-saturating_sub : goal.returns-then-as_slice-saturating_sub
unfolding row_limit
returns-then-as_slice-saturating_sub c =
    let left = rows_of c.args.left in
    let right = rows_of c.args.right in
    let many : row_limit < length (left ++ right) = omega (arith, length-append left right, ap length c.as_slice.ensures, ap length c.as_slice-2.ensures) in
    (left ++ right, union_all_is left right, sym (limited-many (left ++ right) many))
