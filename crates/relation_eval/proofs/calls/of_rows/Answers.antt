use Rattle.std.proofs.Common.{◌<◌, ◌∙◌, length, ap, sym, pos, ℤ, arith}
use Rattle.std.specs.Int.{w64}
use Rattle.std.proofs.lemmas.List.{length-map}
use Rattle.std.proofs.lemmas.Int.{to_z_pos}
use Rattle.cn_types.specs.declared.value.Value.TheVariants.{Long}
use Rattle.plan_model.specs.Aggregates.{rows_aggregate_of}
use Rattle.plan_model.specs.declared.function.Function.{Function}
use Rattle.relation_eval.specs.Members.{row_at, rows_at}
use Rattle.relation_eval.proofs.CallFacts.{no_rows_aggregate}
use Rattle.relation_eval.proofs.calls.of_rows.Goals as goal

pub returns-in-Count-clause-value : goal.returns-in-Count-clause-value
unfolding rows_aggregate_of
returns-in-Count-clause-value c =
    let few : length c.args.places.now < 9223372036854775808 = omega arith in
    ap (λ (n : ℤ). Long n) (to_z_pos w64 (length c.args.places.now) few ∙ ap pos (sym (length-map c.args.places.now (row_at c.args.rows.now))))
    ∙ ap (λ (f : Function). rows_aggregate_of f (rows_at c.args.rows.now c.args.places.now)) (sym c.in-Count.is)

pub returns-in_default : goal.returns-in_default
returns-in_default c = record { value = sym (no_rows_aggregate c.args.function (rows_at c.args.rows.now c.args.places.now) c.in_default.not-Count); dated = tt }
