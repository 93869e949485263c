use Rattle.std.proofs.Common.{◌≡◌, ◌<◌, ◌+◌, ◌∙◌, map, length, get_or, sym, ap}
use Rattle.std.specs.Ordering.{is_eq}
use Rattle.std.proofs.lemmas.List.{get_or-map}
use Rattle.cn_types.specs.declared.value.Value.TheVariants.{Null}
use Rattle.cn_types.specs.Order.{value_eq}
use Rattle.expr_eval.specs.Operands.{operand_value}
use Rattle.relation_eval.proofs.CallFacts.{again_next}
use Rattle.relation_eval.proofs.calls.stands_again.Goals as goal

pub returns-in-Some : goal.returns-in-Some
returns-in-Some c =
    let operands = c.args.operands.now in
    let place = c.args.place in
    let found = c.in-Some.ensures.lookup.3 in
    let d = c.index-operands-place.result in
    let there : place < length operands = c.requires.there in
    let within : place + 1 < length operands = found.0 in
    let here : get_or (map operand_value operands) place Null ≡ c.value.result.now = get_or-map operand_value operands place d Null there ∙ ap operand_value (sym c.index-operands-place.is) ∙ sym c.value.ensures in
    let next : get_or (map operand_value operands) (place + 1) Null ≡ c.value-in-Some.result.now = get_or-map operand_value operands (place + 1) d Null within ∙ ap operand_value (sym (found.1 d)) ∙ sym c.value-in-Some.ensures in
    c.is_eq.ensures ∙ ap is_eq c.order.ensures
    ∙ ap (λ x. value_eq x c.value-in-Some.result.now) (sym here) ∙ ap (λ x. value_eq (get_or (map operand_value operands) place Null) x) (sym next)
    ∙ sym (again_next operands c.requires.ordered place d within)
