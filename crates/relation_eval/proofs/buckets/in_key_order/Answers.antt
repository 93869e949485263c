use Rattle.std.proofs.Common.{◌≡◌, rules}
use Rattle.std.specs.Ordering.{is_lt}
use Rattle.std.proofs.lemmas.Fn.{always_returns_same}
use Rattle.relation_eval.specs.Grouped.{key_before}
use Rattle.relation_eval.proofs.BucketFacts.{key_orders}
use Rattle.relation_eval.proofs.buckets.in_key_order.Goals as goal

pub returns-clause-ordered : goal.returns-clause-ordered
returns-clause-ordered c =
    c.in_ok-sort_by.ensures.sorted (key_before c.args.columns) (key_orders c.args.columns)
    (always_returns_same _ (λ a r. is_lt r ≡ key_before c.args.columns a.0.now a.1.0.now) _ (λ a r q k. search rules))

pub returns-clause-stable : goal.returns-clause-stable
returns-clause-stable c =
    c.in_ok-sort_by.ensures.stable (key_before c.args.columns) (key_orders c.args.columns)
    (always_returns_same _ (λ a r. is_lt r ≡ key_before c.args.columns a.0.now a.1.0.now) _ (λ a r q k. search rules))
