use Rattle.std.proofs.Common.{sym}
use Rattle.plan_model.specs.Aggregates.{aggregate_of}
use Rattle.relation_eval.specs.Members.{values_at}
use Rattle.relation_eval.proofs.CallFacts.{no_aggregate}
use Rattle.relation_eval.proofs.calls.of_values.Goals as goal

pub returns-in-Count-clause-value : goal.returns-in-Count-clause-value
unfolding aggregate_of
returns-in-Count-clause-value c = rw c.in-Count.is c.count.ensures.value

pub returns-in-Sum-clause-value : goal.returns-in-Sum-clause-value
unfolding aggregate_of
returns-in-Sum-clause-value c = rw c.in-Sum.is c.sum.ensures.value

pub returns-in-Min-clause-value : goal.returns-in-Min-clause-value
unfolding aggregate_of
returns-in-Min-clause-value c = rw c.in-Min.is c.extreme.ensures.value

pub returns-in-Max-clause-value : goal.returns-in-Max-clause-value
unfolding aggregate_of
returns-in-Max-clause-value c = rw c.in-Max.is c.extreme-in-Max.ensures.value

pub returns-in_default : goal.returns-in_default
returns-in_default c = record {
  value = sym (no_aggregate c.args.function c.args.distinct (values_at c.args.argument.now c.args.rows.now c.args.places.now) c.in_default.not-Count c.in_default.not-Sum c.in_default.not-Min c.in_default.not-Max);
  dated = tt;
}
