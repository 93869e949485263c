use Rattle.std.proofs.Common.{◌≡◌, rules}
use Rattle.std.proofs.lemmas.Fn.{always_returns_same}
use Rattle.relation_eval.specs.Places.{key_by}
use Rattle.relation_eval.specs.Grouped.{is_below}
use Rattle.relation_eval.proofs.BucketFacts.{below_parted}
use Rattle.relation_eval.proofs.buckets.first_not_below.Goals as goal

pub returns-clause-parted : goal.returns-clause-parted
returns-clause-parted c =
    let key = key_by c.args.columns c.args.row.now in
    c.partition_point.ensures.partitioned (is_below c.args.own_columns key)
    (always_returns_same _ (λ a r. r ≡ is_below c.args.own_columns key a.0.now) _ (λ a r q k. search rules))
    (below_parted c.args.own_columns key c.args.entries.now c.requires)
