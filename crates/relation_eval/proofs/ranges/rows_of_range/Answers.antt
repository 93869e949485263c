use Rattle.std.proofs.Common.{◌≡◌, ◌+ℤ◌, ℤ, List, [], ◌∷◌, ◌++◌, length, sym, ap, ◌∙◌, subst, arith, rules, to_z, of_z, FitsSigned, length-append}
use Rattle.std.specs.Int.{w64}
use Rattle.std.proofs.lemmas.Int.{to_z-of_z}
use Rattle.cn_types.specs.declared.row.Row.{Row}
use Rattle.plan_model.specs.Chosen.{range_rows}
use Rattle.plan_model.specs.Ranges.{row_of}
use Rattle.relation_eval.proofs.RangeSteps.{RangeSoFar, range_begun, range_next, range_over, outside}
use Rattle.relation_eval.proofs.ranges.rows_of_range.Goals as goal
use Rattle.relation_eval.proofs.ranges.rows_of_range.Goals.{In_ok-push}

-- the numbers, as calls are given them
abbrev long : ℤ → ℤ
long z = to_z w64 (of_z w64 z)

later_so_far : (c : In_ok-push) → RangeSoFar (long c.args.start) (long c.args.end) (long c.args.step) c.push.new.self.items (to_z w64 c.numbers.number-bits +ℤ long c.args.step)
later_so_far c =
    let step = to_z-of_z w64 c.args.step c.ranges.step in
    let row : c.in_ok-row_of_number.field-0 ≡ row_of (to_z w64 c.numbers.number-bits) = c.in_ok-row_of_number.ensures in
    let more : c.push.new.self.items ≡ c.numbers.rows.items ++ row_of (to_z w64 c.numbers.number-bits) ∷ [] = c.in_ok-push.ensures.items ∙ ap (λ r. c.numbers.rows.items ++ r ∷ []) row in
    range_next (long c.args.start) (long c.args.end) (long c.args.step) c.numbers.rows.items c.push.new.self.items (to_z w64 c.numbers.number-bits) (λ z. c.requires (sym step ∙ z))
    (sym c.is_before.ensures ∙ c.numbers-test.true) more c.numbers.invariant

pub numbers-init : goal.numbers-init
numbers-init c =
    subst (λ (rows : List Row). RangeSoFar (long c.args.start) (long c.args.end) (long c.args.step) rows (long c.args.start)) (sym c.new-rows.ensures.items)
    (range_begun (long c.args.start) (long c.args.end) (long c.args.step))

pub numbers-smaller : goal.numbers-smaller
numbers-smaller c =
    let later = later_so_far (goal.at.numbers-smaller c).In_ok-push in
    let left = later.left in
    let items = c.in_ok-push.ensures.items in
    omega (arith, left, ap length items, length-append c.numbers.rows.items (c.in_ok-row_of_number.field-0 ∷ []))

pub numbers-preserved : goal.numbers-preserved
numbers-preserved c =
    let sum = c.in-Some.ensures in
    let fits = subst (λ (z : ℤ). FitsSigned w64 z) (sym sum.1) sum.0 in
    let same : (to_z w64 c.numbers.number-bits +ℤ long c.args.step) ≡ long c.in-Some.next = sym sum.1 ∙ sym (to_z-of_z w64 c.in-Some.next fits) in
    subst (λ (z : ℤ). RangeSoFar (long c.args.start) (long c.args.end) (long c.args.step) c.push.new.self.items z) same (later_so_far (goal.at.numbers-preserved c).In_ok-push)

pub returns-in-None : goal.returns-in-None
returns-in-None c =
    let start = to_z-of_z w64 c.args.start c.ranges.start in
    let end = to_z-of_z w64 c.args.end c.ranges.end in
    let step = to_z-of_z w64 c.args.step c.ranges.step in
    let here : FitsSigned w64 (to_z w64 c.numbers.number-bits) = search rules in
    let there = subst (λ (z : ℤ). FitsSigned w64 z) (sym end) c.ranges.end in
    let past = outside (long c.args.step) (to_z w64 c.numbers.number-bits) (long c.args.end) (λ z. c.requires (sym step ∙ z)) here there c.in-None.ensures in
    range_over (long c.args.start) (long c.args.end) (long c.args.step) c.push.new.self.items (to_z w64 c.numbers.number-bits +ℤ long c.args.step) past (later_so_far (goal.at.returns-in-None c).In_ok-push)
    ∙ ap (λ z. range_rows z (long c.args.end) (long c.args.step)) start ∙ ap (λ z. range_rows c.args.start z (long c.args.step)) end ∙ ap (λ z. range_rows c.args.start c.args.end z) step

pub returns : goal.returns
returns c =
    let start = to_z-of_z w64 c.args.start c.ranges.start in
    let end = to_z-of_z w64 c.args.end c.ranges.end in
    let step = to_z-of_z w64 c.args.step c.ranges.step in
    range_over (long c.args.start) (long c.args.end) (long c.args.step) c.numbers.rows.items (to_z w64 c.numbers.number-bits) (sym c.is_before.ensures ∙ c.numbers-test.false) c.numbers.invariant
    ∙ ap (λ z. range_rows z (long c.args.end) (long c.args.step)) start ∙ ap (λ z. range_rows c.args.start z (long c.args.step)) end ∙ ap (λ z. range_rows c.args.start c.args.end z) step
