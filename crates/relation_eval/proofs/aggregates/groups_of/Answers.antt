use Rattle.std.proofs.Common.{◌≢◌, ◌∙◌, List, [], map, ap}
use Rattle.std.specs.Prelude.{None}
use Rattle.std.proofs.lemmas.Bool.{false≢true}
use Rattle.std.proofs.lemmas.Result.{IfOk-weaker}
use Rattle.cn_types.specs.declared.row.Row.{Row}
use Rattle.relation_eval.specs.Firsts.{firsts}
use Rattle.relation_eval.specs.Members.{group_of}
use Rattle.relation_eval.proofs.GroupFacts.{without_keys, with_keys}
use Rattle.relation_eval.proofs.aggregates.groups_of.Goals as goal

pub returns-then-is_empty-clause-groups : goal.returns-then-is_empty-clause-groups
returns-then-is_empty-clause-groups c =
    IfOk-weaker c.one_group.result _ _ (λ v e. without_keys c.args.keys.now c.args.calls.now c.args.rows.now v.items (c.is_empty.ensures.0 c.if-is_empty.true) e) c.one_group.ensures.groups

pub returns-clause-groups : goal.returns-clause-groups
returns-clause-groups c =
    let calls = c.args.calls.now in
    let rows = c.args.rows.now in
    let some : c.args.keys.now ≢ [] = λ e. false≢true (c.if-is_empty.ensures.1 e) in
    let found = c.as_slice.ensures.value ∙ c.in_ok-key_rows.ensures.images in
    IfOk-weaker c.groups_by_key.result _ _
    (λ v e. with_keys c.args.keys.now calls rows v.items some (e ∙ ap (λ (keys : List Row). map (group_of calls rows keys) (firsts None keys)) found)) c.groups_by_key.ensures.groups
