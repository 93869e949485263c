use Rattle.std.proofs.Common.{◌∙◌, ap, List, take, arith}
use Rattle.std.specs.Prelude.{None, not}
use Rattle.cn_types.specs.declared.row.Row.{Row}
use Rattle.cn_types.specs.Order.{count}
use Rattle.plan_model.specs.SetOperations.{copies}
use Rattle.relation_eval.specs.Copies.{number_where, all_repeated}
use Rattle.relation_eval.specs.Firsts.{is_among, firsts}
use Rattle.relation_eval.proofs.SetFacts.{repeated_next}
use Rattle.relation_eval.proofs.sets.copied_so_often.Goals as goal

pub loop-place-preserved : goal.loop-place-preserved
loop-place-preserved c =
    let a = c.args.left.now in
    let b = c.args.right.now in
    let row = c.index-left-place.result in
    let own = c.in_ok-own.ensures.rows in
    let others = c.in_ok-others.ensures.rows in
    let place = c.loop-place.place in
    let number =
    c.number_at-number.ensures
    ∙ ap (λ (rs : List Row). number_where (not (is_among None (take place rs) row)) (copies c.args.kind c.args.all (count rs row) (count c.in_ok-others.others.rows.now row))) own
    ∙ ap (λ (rs : List Row). number_where (not (is_among None (take place a) row)) (copies c.args.kind c.args.all (count a row) (count rs row))) others in
    repeated_next c.args.kind c.args.all a b c.loop-place.list.items c.push_copies.new.list.items (all_repeated c.args.kind c.args.all a b (firsts None a)) row place c.number_at-number.result
    (omega arith) c.index-left-place.is number c.in_ok-push_copies.ensures c.loop-place.invariant
