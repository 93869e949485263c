use Rattle.std.proofs.Common.{◌∙◌, sym, subst, FitsSigned, rules}
use Rattle.std.specs.Int.{w64}
use Rattle.std.proofs.lemmas.Int.{to_z-of_z}
use Rattle.std.proofs.lemmas.Result.{IfOk-weaker}
use Rattle.plan_model.specs.declared.node.Node.TheViews.{the_lemmas}
use Rattle.plan_model.specs.WellFormed.{IsWellFormed}
use Rattle.plan_model.proofs.KindFacts.{conditions_of_kinds}
use Rattle.relation_eval.specs.Given.{outcome_of}
use Rattle.relation_eval.proofs.EvaluateFacts.{dated_outcome, project_asks, filter_asks, aggregate_asks, sort_asks, condition_asks, join_asks, set_asks, rows_allow, range_allows, project_allows, filter_allows, aggregate_allows, distinct_on_allows, sort_allows, slice_allows, join_allows, set_allows, joined_after}
use Rattle.relation_eval.proofs.evaluation.+given.Goals as goal

pub given_by_kind-range-requires : goal.given_by_kind-range-requires
given_by_kind-range-requires t c =
    let fits : FitsSigned w64 c.in-Range.step = search rules in
    λ e. (conditions_of_kinds.range c.in-Range.start c.in-Range.end c.in-Range.step).0 (subst IsWellFormed c.in-Range.is c.requires) (sym (to_z-of_z w64 c.in-Range.step fits) ∙ e)

pub given_by_kind-returns-in-Range : goal.given_by_kind-returns-in-Range
given_by_kind-returns-in-Range t c =
    let start : FitsSigned w64 c.in-Range.start = search rules in
    let end : FitsSigned w64 c.in-Range.end = search rules in
    let step : FitsSigned w64 c.in-Range.step = search rules in
    let made = simp to_z-of_z at c.range.ensures in
    IfOk-weaker c.range.result _ _ (λ g h. range_allows c.args.node.now c.in-Range.start c.in-Range.end c.in-Range.step (outcome_of g) c.in-Range.is h) made

pub given_by_kind-returns-in-Rows : goal.given_by_kind-returns-in-Rows
given_by_kind-returns-in-Rows t c =
    IfOk-weaker c.table.result _ _ (λ g h. rows_allow c.args.node.now c.in-Rows.schema c.in-Rows.rows (outcome_of g) c.in-Rows.is h) c.table.ensures

pub given_by_kind-given_of-requires : goal.given_by_kind-given_of-requires
given_by_kind-given_of-requires t c = (search (rules, the_lemmas), rw c.get.ensures (project_asks c.in-Project.input c.in-Project.items (subst IsWellFormed c.in-Project.is c.requires)).1)

pub given_by_kind-project_given-requires-clause-literals : goal.given_by_kind-project_given-requires-clause-literals
given_by_kind-project_given-requires-clause-literals t c = (project_asks c.in-Project.input c.in-Project.items (subst IsWellFormed c.in-Project.is c.requires)).0

pub given_by_kind-returns-in_ok-given_of-in-Project : goal.given_by_kind-returns-in_ok-given_of-in-Project
given_by_kind-returns-in_ok-given_of-in-Project t c =
    IfOk-weaker c.project_given.result _ _
    (λ g h. project_allows c.args.node.now c.in-Project.input c.get.result.now c.in-Project.items (outcome_of c.in_ok-given_of-in-Project.field-0) (outcome_of g) c.in-Project.is c.get.ensures c.in_ok-given_of-in-Project.ensures.allowed h) c.project_given.ensures

pub given_by_kind-given_of-requires-in-Filter : goal.given_by_kind-given_of-requires-in-Filter
given_by_kind-given_of-requires-in-Filter t c = (search (rules, the_lemmas), rw c.get-in-Filter.ensures (filter_asks c.in-Filter.input c.in-Filter.condition (subst IsWellFormed c.in-Filter.is c.requires)).1)

pub given_by_kind-filter_given-requires-clause-literals : goal.given_by_kind-filter_given-requires-clause-literals
given_by_kind-filter_given-requires-clause-literals t c = (filter_asks c.in-Filter.input c.in-Filter.condition (subst IsWellFormed c.in-Filter.is c.requires)).0

pub given_by_kind-returns-in_ok-given_of-in-Filter : goal.given_by_kind-returns-in_ok-given_of-in-Filter
given_by_kind-returns-in_ok-given_of-in-Filter t c =
    IfOk-weaker c.filter_given.result _ _
    (λ g h. filter_allows c.args.node.now c.in-Filter.input c.get-in-Filter.result.now c.in-Filter.condition (outcome_of c.in_ok-given_of-in-Filter.field-0) (outcome_of g) c.in-Filter.is c.get-in-Filter.ensures c.in_ok-given_of-in-Filter.ensures.allowed h) c.filter_given.ensures

pub given_by_kind-given_of-requires-in-Aggregate : goal.given_by_kind-given_of-requires-in-Aggregate
given_by_kind-given_of-requires-in-Aggregate t c = (search (rules, the_lemmas), rw c.get-in-Aggregate.ensures (aggregate_asks c.in-Aggregate.input c.in-Aggregate.keys c.in-Aggregate.calls c.in-Aggregate.items (subst IsWellFormed c.in-Aggregate.is c.requires)).input_sound)

pub given_by_kind-aggregate_given-requires-clause-keys : goal.given_by_kind-aggregate_given-requires-clause-keys
given_by_kind-aggregate_given-requires-clause-keys t c = (aggregate_asks c.in-Aggregate.input c.in-Aggregate.keys c.in-Aggregate.calls c.in-Aggregate.items (subst IsWellFormed c.in-Aggregate.is c.requires)).keys_fine

pub given_by_kind-aggregate_given-requires-clause-calls : goal.given_by_kind-aggregate_given-requires-clause-calls
given_by_kind-aggregate_given-requires-clause-calls t c = (aggregate_asks c.in-Aggregate.input c.in-Aggregate.keys c.in-Aggregate.calls c.in-Aggregate.items (subst IsWellFormed c.in-Aggregate.is c.requires)).calls_fine

pub given_by_kind-aggregate_given-requires-clause-items : goal.given_by_kind-aggregate_given-requires-clause-items
given_by_kind-aggregate_given-requires-clause-items t c = (aggregate_asks c.in-Aggregate.input c.in-Aggregate.keys c.in-Aggregate.calls c.in-Aggregate.items (subst IsWellFormed c.in-Aggregate.is c.requires)).items_fine

pub given_by_kind-returns-in_ok-given_of-in-Aggregate : goal.given_by_kind-returns-in_ok-given_of-in-Aggregate
given_by_kind-returns-in_ok-given_of-in-Aggregate t c =
    IfOk-weaker c.aggregate_given.result _ _
    (λ g h. aggregate_allows c.args.node.now c.in-Aggregate.input c.get-in-Aggregate.result.now c.in-Aggregate.keys c.in-Aggregate.calls c.in-Aggregate.items (outcome_of c.in_ok-given_of-in-Aggregate.field-0) (outcome_of g) c.in-Aggregate.is c.get-in-Aggregate.ensures c.in_ok-given_of-in-Aggregate.ensures.allowed h) c.aggregate_given.ensures

pub given_by_kind-given_of-requires-in-DistinctOn : goal.given_by_kind-given_of-requires-in-DistinctOn
given_by_kind-given_of-requires-in-DistinctOn t c = (search (rules, the_lemmas), rw c.get-in-DistinctOn.ensures ((conditions_of_kinds.distinct_on c.in-DistinctOn.input c.in-DistinctOn.columns).0 (subst IsWellFormed c.in-DistinctOn.is c.requires)).1)

pub given_by_kind-returns-in_ok-given_of-in-DistinctOn : goal.given_by_kind-returns-in_ok-given_of-in-DistinctOn
given_by_kind-returns-in_ok-given_of-in-DistinctOn t c =
    IfOk-weaker c.distinct_given.result _ _
    (λ g h. distinct_on_allows c.args.node.now c.in-DistinctOn.input c.get-in-DistinctOn.result.now c.in-DistinctOn.columns (outcome_of c.in_ok-given_of-in-DistinctOn.field-0) (outcome_of g) c.in-DistinctOn.is c.get-in-DistinctOn.ensures c.in_ok-given_of-in-DistinctOn.ensures.allowed h) c.distinct_given.ensures

pub given_by_kind-given_of-requires-in-Sort : goal.given_by_kind-given_of-requires-in-Sort
given_by_kind-given_of-requires-in-Sort t c = (search (rules, the_lemmas), rw c.get-in-Sort.ensures (sort_asks c.in-Sort.input c.in-Sort.keys (subst IsWellFormed c.in-Sort.is c.requires)).1)

pub given_by_kind-sort_given-requires-clause-literals : goal.given_by_kind-sort_given-requires-clause-literals
given_by_kind-sort_given-requires-clause-literals t c = (sort_asks c.in-Sort.input c.in-Sort.keys (subst IsWellFormed c.in-Sort.is c.requires)).0

pub given_by_kind-returns-in_ok-given_of-in-Sort : goal.given_by_kind-returns-in_ok-given_of-in-Sort
given_by_kind-returns-in_ok-given_of-in-Sort t c =
    IfOk-weaker c.sort_given.result _ _
    (λ g h. sort_allows c.args.node.now c.in-Sort.input c.get-in-Sort.result.now c.in-Sort.keys (outcome_of c.in_ok-given_of-in-Sort.field-0) (outcome_of g) c.in-Sort.is c.get-in-Sort.ensures c.in_ok-given_of-in-Sort.ensures.allowed h) c.sort_given.ensures

pub given_by_kind-given_of-requires-in-Slice : goal.given_by_kind-given_of-requires-in-Slice
given_by_kind-given_of-requires-in-Slice t c = (search (rules, the_lemmas), rw c.get-in-Slice.ensures ((conditions_of_kinds.slice c.in-Slice.input c.in-Slice.skip c.in-Slice.take).0 (subst IsWellFormed c.in-Slice.is c.requires)))

pub given_by_kind-returns-in_ok-given_of-in-Slice : goal.given_by_kind-returns-in_ok-given_of-in-Slice
given_by_kind-returns-in_ok-given_of-in-Slice t c =
    IfOk-weaker c.slice_given.result _ _
    (λ g h. slice_allows c.args.node.now c.in-Slice.input c.get-in-Slice.result.now c.in-Slice.skip c.in-Slice.take (outcome_of c.in_ok-given_of-in-Slice.field-0) (outcome_of g) c.in-Slice.is c.get-in-Slice.ensures c.in_ok-given_of-in-Slice.ensures.allowed h) c.slice_given.ensures

pub given_by_kind-join_of-requires : goal.given_by_kind-join_of-requires
given_by_kind-join_of-requires t c =
    let asks = join_asks c.args.node.now c.in-Join.left c.in-Join.right c.get-in-Join.result.now c.get-in-Join-2.result.now c.in-Join.kind c.in-Join.condition c.in-Join.is c.get-in-Join.ensures c.get-in-Join-2.ensures c.requires in
    (search (rules, the_lemmas), (asks.left_sound, (asks.right_sound, asks.condition_sound)))

pub given_by_kind-returns-in-Join : goal.given_by_kind-returns-in-Join
given_by_kind-returns-in-Join t c =
    IfOk-weaker c.join_of.result _ _
    (λ g h. join_allows c.args.node.now c.in-Join.left c.in-Join.right c.get-in-Join.result.now c.get-in-Join-2.result.now c.in-Join.kind c.in-Join.condition (outcome_of g) c.in-Join.is c.get-in-Join.ensures c.get-in-Join-2.ensures h)
    c.join_of.ensures

pub given_by_kind-set_of-requires : goal.given_by_kind-set_of-requires
given_by_kind-set_of-requires t c =
    let asks = set_asks c.args.node.now c.in-SetOp.left c.in-SetOp.right c.get-in-SetOp.result.now c.get-in-SetOp-2.result.now c.in-SetOp.kind c.in-SetOp.all c.in-SetOp.is c.get-in-SetOp.ensures c.get-in-SetOp-2.ensures c.requires in
    (search (rules, the_lemmas), (asks.0, asks.1))

pub given_by_kind-returns-in-SetOp : goal.given_by_kind-returns-in-SetOp
given_by_kind-returns-in-SetOp t c =
    IfOk-weaker c.set_of.result _ _
    (λ g h. set_allows c.args.node.now c.in-SetOp.left c.in-SetOp.right c.get-in-SetOp.result.now c.get-in-SetOp-2.result.now c.in-SetOp.kind c.in-SetOp.all (outcome_of g) c.in-SetOp.is c.get-in-SetOp.ensures c.get-in-SetOp-2.ensures h)
    c.set_of.ensures

pub given_of-returns-clause-dated : goal.given_of-returns-clause-dated
given_of-returns-clause-dated t c = dated_outcome c.args.node.now c.requires (outcome_of c.in_ok-given.given) c.in_ok-given.ensures

pub join_of-join_given-requires-clause-literals : goal.join_of-join_given-requires-clause-literals
join_of-join_given-requires-clause-literals t c = condition_asks _ c.args.condition.now c.requires.condition

pub join_of-returns : goal.join_of-returns
join_of-returns t c =
    IfOk-weaker c.join_given.result _ _
    (λ g h. joined_after c.args.left.now c.args.right.now c.args.kind c.args.condition.now c.in_ok-left_width.left_width c.in_ok-right_width.right_width (outcome_of c.in_ok-left_given.left_given) (outcome_of c.in_ok-right_given.right_given) (outcome_of g)
    c.in_ok-left_width.ensures c.in_ok-right_width.ensures c.in_ok-left_given.ensures.allowed c.in_ok-right_given.ensures.allowed h) c.join_given.ensures
