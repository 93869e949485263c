use Rattle.std.proofs.Common.{◌<◌, ◌∙◌, ℤ, length, ap, sym, subst, to_z, of_z}
use Rattle.std.specs.Int.{w64}
use Rattle.std.proofs.lemmas.Int.{to_z-of_z}
use Rattle.plan_model.specs.Chosen.{range_rows}
use Rattle.plan_model.specs.Outcomes.{limited, row_limit}
use Rattle.plan_model.proofs.RangeFacts.{made_range}
use Rattle.relation_eval.proofs.SetFacts.{limited-many}
use Rattle.relation_eval.proofs.ranges.range.Goals as goal

pub returns-then-is_too_long : goal.returns-then-is_too_long
returns-then-is_too_long c =
    let start = to_z-of_z w64 c.args.start c.ranges.start in
    let end = to_z-of_z w64 c.args.end c.ranges.end in
    let step = to_z-of_z w64 c.args.step c.ranges.step in
    let long = c.is_too_long.ensures c.if-is_too_long.true in
    let many : row_limit < length (range_rows c.args.start c.args.end c.args.step) =
    subst (λ (z : ℤ). row_limit < length (range_rows c.args.start c.args.end z)) step
    (subst (λ (z : ℤ). row_limit < length (range_rows c.args.start z (to_z w64 (of_z w64 c.args.step)))) end
    (subst (λ (z : ℤ). row_limit < length (range_rows z (to_z w64 (of_z w64 c.args.end)) (to_z w64 (of_z w64 c.args.step)))) start long)) in
    (range_rows c.args.start c.args.end c.args.step, made_range c.args.start c.args.end c.args.step c.requires, sym (limited-many (range_rows c.args.start c.args.end c.args.step) many))

pub returns : goal.returns
returns c =
    let start = to_z-of_z w64 c.args.start c.ranges.start in
    let end = to_z-of_z w64 c.args.end c.ranges.end in
    let step = to_z-of_z w64 c.args.step c.ranges.step in
    let rows = c.in_ok-rows.ensures in (
      range_rows c.args.start c.args.end c.args.step,
      made_range c.args.start c.args.end c.args.step c.requires,
      c.limited_rows.ensures
          ∙ ap limited (rows ∙ ap (λ z. range_rows z (to_z w64 (of_z w64 c.args.end)) (to_z w64 (of_z w64 c.args.step))) start
          ∙ ap (λ z. range_rows c.args.start z (to_z w64 (of_z w64 c.args.step))) end ∙ ap (λ z. range_rows c.args.start c.args.end z) step),
    )
