use Rattle.std.proofs.Common.{◌≡◌, rules}
use Rattle.std.specs.Ordering.{is_lt}
use Rattle.std.proofs.lemmas.Fn.{always_returns_same}
use Rattle.relation_eval.specs.KeyedRows.{is_before}
use Rattle.relation_eval.proofs.SortFacts.{before_orders}
use Rattle.relation_eval.proofs.sorting.sorted.Goals as goal

pub returns-clause-ordered : goal.returns-clause-ordered
returns-clause-ordered c =
    c.in_ok-sort_by.ensures.sorted (is_before c.args.keys.now) (before_orders c.args.keys.now)
    (always_returns_same _ (λ a r. is_lt r ≡ is_before c.args.keys.now a.0.now a.1.0.now) _ (λ a r q k. search rules))
