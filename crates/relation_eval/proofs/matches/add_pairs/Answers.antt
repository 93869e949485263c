use Rattle.std.proofs.Common.{length, drop, arith, length-append, ap}
use Rattle.std.specs.Option.{option_copied}
use Rattle.plan_model.specs.Outcomes.{row_limit}
use Rattle.relation_eval.specs.Joined.{pairs_with}
use Rattle.relation_eval.specs.Matches.{rows_at}
use Rattle.relation_eval.proofs.matches.add_pairs.Goals as goal

pub returns-then-len-gt-ROW_LIMIT-clause-many : goal.returns-then-len-gt-ROW_LIMIT-clause-many
unfolding row_limit
returns-then-len-gt-ROW_LIMIT-clause-many c = λ is.
    let rest = pairs_with (option_copied c.args.condition) c.args.left.now (rows_at c.args.right.now (drop c.loop-place.place-index c.args.places.now)) in
    omega (arith, length-append c.loop-place.rows.items rest, ap length c.loop-place.invariant.1)
