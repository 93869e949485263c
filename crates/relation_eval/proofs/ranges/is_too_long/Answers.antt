use Rattle.std.proofs.Common.{◌≡◌, ◌≤◌, ◌/◌, ◌-◌, ◌-ℤ◌, ℕ, ℤ, true, unsigned_abs, to_z, of_z, sym, ap, ◌∙◌, subst}
use Rattle.std.specs.Int.{w64}
use Rattle.std.proofs.lemmas.Bool.{leb-true}
use Rattle.std.proofs.lemmas.Int.{to_z-of_z}
use Rattle.plan_model.specs.Outcomes.{row_limit}
use Rattle.relation_eval.specs.RangeRows.{goes_on}
use Rattle.relation_eval.proofs.RangeSteps.{long_range, ends_apart}
use Rattle.relation_eval.proofs.ranges.is_too_long.Goals as goal

pub returns : goal.returns
unfolding row_limit
returns c h =
    let start = to_z-of_z w64 c.args.start c.ranges.start in
    let end = to_z-of_z w64 c.args.end c.ranges.end in
    let step = to_z-of_z w64 c.args.step c.ranges.step in
    let tested = sym c.is_before.ensures ∙ c.if-not-is_before.false in
    let on : goes_on c.args.step c.args.start c.args.end ≡ true =
    subst (λ (z : ℤ). goes_on c.args.step c.args.start z ≡ true) end
    (subst (λ (z : ℤ). goes_on c.args.step z (to_z w64 (of_z w64 c.args.end)) ≡ true) start
    (subst (λ (z : ℤ). goes_on z (to_z w64 (of_z w64 c.args.start)) (to_z w64 (of_z w64 c.args.end)) ≡ true) step tested)) in
    let far : c.abs_diff.result ≡ unsigned_abs (c.args.end -ℤ c.args.start) = c.abs_diff.ensures ∙ ap (λ z. unsigned_abs (z -ℤ to_z w64 (of_z w64 c.args.start))) end ∙ ap (λ z. unsigned_abs (c.args.end -ℤ z)) start in
    let size : c.unsigned_abs.result ≡ unsigned_abs c.args.step = c.unsigned_abs.ensures.value ∙ ap unsigned_abs step in
    let small = leb-true c.unsigned_abs.result ((c.abs_diff.result - 1) / 4194304) h in
    long_range c.args.start c.args.end c.args.step c.requires on
    (subst (λ (n : ℕ). n ≤ (unsigned_abs (c.args.end -ℤ c.args.start) - 1) / 4194304) size (subst (λ (d : ℕ). c.unsigned_abs.result ≤ (d - 1) / 4194304) far small))
    (ends_apart c.args.start c.args.end c.args.step c.requires on)
