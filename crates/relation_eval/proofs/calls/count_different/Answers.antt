use Rattle.std.proofs.Common.{◌∙◌, map, length, List, ap, arith}
use Rattle.std.proofs.lemmas.List.Sorted.{IsPermutation-map, length_permutation}
use Rattle.cn_types.specs.declared.value.Value.{Value}
use Rattle.plan_model.specs.Aggregates.{different}
use Rattle.expr_eval.specs.Operands.{operand_value}
use Rattle.expr_eval.specs.declared.operand.Operand.{Operand}
use Rattle.relation_eval.proofs.CallFacts.{different_permuted}
use Rattle.relation_eval.proofs.calls.count_different.Goals as goal

pub returns : goal.returns
returns c =
    let found = c.in_ok-found.found.items in
    let ordered = c.in_ok-ordered.ordered.items in
    let permuted = c.in_ok-ordered.ensures.permuted in
    let slice = c.as_slice.ensures.value in
    record {
      number = c.number_of_different.ensures.number ∙ ap (λ (operands : List Operand). length (different (map operand_value operands))) slice
          ∙ different_permuted (map operand_value found) (map operand_value ordered) (IsPermutation-map operand_value found ordered permuted)
          ∙ ap (λ (values : List Value). length (different values)) c.in_ok-found.ensures.present;
      bound = omega (arith, c.number_of_different.ensures.bound, ap length slice, length_permutation found ordered permuted, c.in_ok-found.ensures.bound);
    }
