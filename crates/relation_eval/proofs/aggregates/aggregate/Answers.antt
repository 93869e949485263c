use Rattle.std.proofs.Common.{◌∙◌, List, map, ap}
use Rattle.cn_types.specs.declared.row.Row.{Row}
use Rattle.plan_model.specs.Groups.{key_and_calls}
use Rattle.plan_model.specs.Outcomes.{limited}
use Rattle.plan_model.specs.Selections.{projected}
use Rattle.relation_eval.specs.Members.{different_keys}
use Rattle.relation_eval.proofs.aggregates.aggregate.Goals as goal

pub returns : goal.returns
returns c =
    let keys = c.args.keys.now in
    let calls = c.args.calls.now in
    let items = c.args.items.now in
    c.limited_rows.ensures
    ∙ ap limited (c.in_ok-list.ensures.images
    ∙ ap (λ (list : List Row). projected items list) (c.as_slice-2.ensures.value ∙ c.in_ok-groups.ensures.groups)
    ∙ ap (λ (xs : List Row). projected items (map (key_and_calls keys calls xs) (different_keys keys xs))) c.as_slice.ensures)
