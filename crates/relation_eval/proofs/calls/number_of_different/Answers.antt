use Rattle.std.proofs.Common.{◌≡◌, ◌+◌, ◌<◌, Bool, ◌∙◌, map, length, drop, cond, ap, arith}
use Rattle.std.proofs.lemmas.List.{length-map}
use Rattle.plan_model.specs.Aggregates.{different}
use Rattle.expr_eval.specs.Operands.{operand_value}
use Rattle.relation_eval.proofs.CallFacts.{different_next}
use Rattle.relation_eval.proofs.calls.number_of_different.Goals as goal
use Rattle.relation_eval.proofs.calls.number_of_different.Goals.{then-not-stands_again, else-not-stands_again}

pub loop-place-preserved : goal.loop-place-preserved
loop-place-preserved c =
    let values = map operand_value c.args.operands.now in
    let place = c.loop-place.place in
    let rest = length (different (drop (place + 1) values)) in
    let within : place < length values = omega (arith, length-map c.args.operands.now operand_value) in
    let next : length (different (drop place values)) ≡ cond c.stands_again.result 0 1 + rest = different_next values place c.stands_again.result within c.stands_again.ensures in
    elim c.if-not-stands_again.branch [
      | then-not-stands_again w ↦
          let one : length (different (drop place values)) ≡ 1 + rest = next ∙ ap (λ (b : Bool). cond b 0 1 + rest) w.if-not-stands_again.true in
          record { number = omega (arith, one, w.number-is, c.loop-place.invariant.number); bound = omega (arith, w.number-is, c.loop-place.invariant.bound) }
      | else-not-stands_again w ↦
          let none : length (different (drop place values)) ≡ 0 + rest = next ∙ ap (λ (b : Bool). cond b 0 1 + rest) w.if-not-stands_again.false in
          record { number = omega (arith, none, w.number-is, c.loop-place.invariant.number); bound = omega (arith, w.number-is, c.loop-place.invariant.bound) }
    ]
