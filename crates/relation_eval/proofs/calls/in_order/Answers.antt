use Rattle.std.proofs.Common.{◌≡◌, rules}
use Rattle.std.specs.Ordering.{is_lt}
use Rattle.std.proofs.lemmas.Fn.{always_returns_same}
use Rattle.relation_eval.specs.Calls.{operand_before}
use Rattle.relation_eval.proofs.CallFacts.{operands_ordered}
use Rattle.relation_eval.proofs.calls.in_order.Goals as goal

pub returns-clause-ordered : goal.returns-clause-ordered
returns-clause-ordered c =
    c.in_ok-sort_by.ensures.sorted operand_before operands_ordered
    (always_returns_same _ (λ a r. is_lt r ≡ operand_before a.0.now a.1.0.now) _ (λ a r q k. search rules))
