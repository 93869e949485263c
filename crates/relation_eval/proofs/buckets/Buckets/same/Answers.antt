use Rattle.std.proofs.Common.{◌∙◌}
use Rattle.relation_eval.specs.Places.{key_by}
use Rattle.relation_eval.proofs.BucketFacts.{FindsPlaces, finds_places}
use Rattle.relation_eval.proofs.buckets.Buckets.same.Goals as goal
use Rattle.relation_eval.proofs.buckets.Buckets.same.Goals.{After-as_slice-3}

finds : (c : After-as_slice-3) → FindsPlaces c.args.self.now (key_by c.args.columns c.args.row.now) c.first_not_below-start.result c.first_above-end.result c.as_slice-3.result.now
finds c =
    finds_places c.args.self.now (key_by c.args.columns c.args.row.now) c.first_not_below-start.result c.first_above-end.result c.as_slice.result.now c.as_slice-2.result.now c.as_slice-3.result.now
    c.requires c.as_slice.ensures.value c.as_slice-2.ensures.value c.as_slice-3.ensures.value c.first_not_below-start.ensures.bound c.first_above-end.ensures.bound
    c.first_not_below-start.ensures.parted c.first_above-end.ensures.parted

pub part-requires-clause-ordered : goal.part-requires-clause-ordered
part-requires-clause-ordered c = (finds c).ordered

pub part-requires-clause-within : goal.part-requires-clause-within
part-requires-clause-within c = (finds c).within

pub returns : goal.returns
returns c = c.part.ensures ∙ (finds (goal.at.returns c).After-as_slice-3).is
