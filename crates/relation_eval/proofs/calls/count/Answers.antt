use Rattle.std.proofs.Common.{◌<◌, ◌∙◌, Bool, ap, sym, pos, ℤ, arith}
use Rattle.std.specs.Int.{w64}
use Rattle.std.proofs.lemmas.Int.{to_z_pos}
use Rattle.cn_types.specs.declared.value.Value.TheVariants.{Long}
use Rattle.plan_model.specs.Aggregates.{count_of}
use Rattle.relation_eval.specs.Members.{values_at}
use Rattle.relation_eval.proofs.calls.count.Goals as goal
use Rattle.relation_eval.proofs.calls.count.Goals.{then-distinct+in_ok-number, else-distinct+in_ok-number-2}

pub returns : goal.returns
returns c =
    let values = values_at c.args.argument.now c.args.rows.now c.args.places.now in
    elim c.if-distinct.branch [
      | then-distinct+in_ok-number w ↦
          let few : c.if-distinct.number < 9223372036854775808 = omega (arith, w.number-is, w.in_ok-number.ensures.bound) in
          record {
            value = ap (λ (n : ℤ). Long n) (to_z_pos w64 c.if-distinct.number few ∙ ap pos (w.number-is ∙ w.in_ok-number.ensures.number)) ∙ ap (λ (b : Bool). count_of b values) (sym w.if-distinct.true);
            dated = tt;
          }
      | else-distinct+in_ok-number-2 w ↦
          let few : c.if-distinct.number < 9223372036854775808 = omega (arith, w.number-is, w.in_ok-number-2.ensures.bound) in
          record {
            value = ap (λ (n : ℤ). Long n) (to_z_pos w64 c.if-distinct.number few ∙ ap pos (w.number-is ∙ w.in_ok-number-2.ensures.number)) ∙ ap (λ (b : Bool). count_of b values) (sym w.if-distinct.false);
            dated = tt;
          }
    ]
