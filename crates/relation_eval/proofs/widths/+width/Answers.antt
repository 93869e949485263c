use Rattle.std.proofs.Common.{◌∙◌, ap}
use Rattle.std.proofs.lemmas.Result.{IfOk-weaker}
use Rattle.plan_model.specs.NodeTypes.{types}
use Rattle.plan_model.proofs.KindFacts.{types_of_kinds}
use Rattle.relation_eval.proofs.EvaluateFacts.{rows_width, range_width, project_width, aggregate_width, same_width, join_width}
use Rattle.relation_eval.proofs.widths.+width.Goals as goal

pub width_of-returns-in-Rows : goal.width_of-returns-in-Rows
width_of-returns-in-Rows t c = c.len.ensures ∙ rows_width c.args.node.now c.in-Rows.schema c.in-Rows.rows c.in-Rows.is

pub width_of-returns-in-Range : goal.width_of-returns-in-Range
width_of-returns-in-Range t c = range_width c.args.node.now c.in-Range.start c.in-Range.end c.in-Range.step c.in-Range.is

pub width_of-returns-in-Project : goal.width_of-returns-in-Project
width_of-returns-in-Project t c = c.len-in-Project.ensures ∙ project_width c.args.node.now c.in-Project.input c.in-Project.items c.in-Project.is

pub width_of-returns-in-Aggregate : goal.width_of-returns-in-Aggregate
width_of-returns-in-Aggregate t c = c.len-in-Aggregate.ensures ∙ aggregate_width c.args.node.now c.in-Aggregate.input c.in-Aggregate.keys c.in-Aggregate.calls c.in-Aggregate.items c.in-Aggregate.is

pub width_of-returns-in-Filter : goal.width_of-returns-in-Filter
width_of-returns-in-Filter t c =
    IfOk-weaker c.width_of.result _ _ (λ n e. same_width c.args.node.now c.in-Filter.input c.get.result.now n (ap types c.in-Filter.is ∙ types_of_kinds.filter c.in-Filter.input c.in-Filter.condition) c.get.ensures e) c.width_of.ensures

pub width_of-returns-in-SetOp : goal.width_of-returns-in-SetOp
width_of-returns-in-SetOp t c =
    IfOk-weaker c.width_of-in-SetOp.result _ _ (λ n e. same_width c.args.node.now c.in-SetOp.left c.get-in-SetOp.result.now n (ap types c.in-SetOp.is ∙ types_of_kinds.set_op c.in-SetOp.left c.in-SetOp.right c.in-SetOp.kind c.in-SetOp.all) c.get-in-SetOp.ensures e) c.width_of-in-SetOp.ensures

pub width_of-returns-in-DistinctOn : goal.width_of-returns-in-DistinctOn
width_of-returns-in-DistinctOn t c =
    IfOk-weaker c.width_of-in-DistinctOn.result _ _ (λ n e. same_width c.args.node.now c.in-DistinctOn.input c.get-in-DistinctOn.result.now n (ap types c.in-DistinctOn.is ∙ types_of_kinds.distinct_on c.in-DistinctOn.input c.in-DistinctOn.columns) c.get-in-DistinctOn.ensures e) c.width_of-in-DistinctOn.ensures

pub width_of-returns-in-Sort : goal.width_of-returns-in-Sort
width_of-returns-in-Sort t c =
    IfOk-weaker c.width_of-in-Sort.result _ _ (λ n e. same_width c.args.node.now c.in-Sort.input c.get-in-Sort.result.now n (ap types c.in-Sort.is ∙ types_of_kinds.sort c.in-Sort.input c.in-Sort.keys) c.get-in-Sort.ensures e) c.width_of-in-Sort.ensures

pub width_of-returns-in-Slice : goal.width_of-returns-in-Slice
width_of-returns-in-Slice t c =
    IfOk-weaker c.width_of-in-Slice.result _ _ (λ n e. same_width c.args.node.now c.in-Slice.input c.get-in-Slice.result.now n (ap types c.in-Slice.is ∙ types_of_kinds.slice c.in-Slice.input c.in-Slice.skip c.in-Slice.take) c.get-in-Slice.ensures e) c.width_of-in-Slice.ensures

pub width_of-returns-in-Join : goal.width_of-returns-in-Join
width_of-returns-in-Join t c =
    IfOk-weaker c.join_width.result _ _
    (λ n e. join_width c.args.node.now c.in-Join.left c.in-Join.right c.get-in-Join.result.now c.get-in-Join-2.result.now c.in-Join.kind c.in-Join.condition n c.in-Join.is c.get-in-Join.ensures c.get-in-Join-2.ensures e) c.join_width.ensures
