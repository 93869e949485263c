use Rattle.std.proofs.Common.{rules, refl}
use Rattle.std.proofs.lemmas.Bool.{false≢true}
use Rattle.std.specs.Int.{w64}
use Rattle.std.proofs.lemmas.Int.{to_z-of_z}
use mir.Val.{SFits, to_z}
use Rattle.connect_replay.proofs.Walk.{range-walked, walked-more, walk-nears}
use Rattle.connect_replay.proofs.range.range_numbers.Goals as goal

pub returns : goal.returns
returns c =
    let start_fits = c.ranges.start in
    let end_fits = c.ranges.end in
    let step_fits = c.ranges.step in
    let walked = simp to_z-of_z at c.loop-numbers.invariant in
    let over = simp to_z-of_z at c.loop-numbers-test.ensures.1 in
    range-walked _ _ _ _ _ c.requires walked (λ b. false≢true (over b))

pub loop-numbers-preserved : goal.loop-numbers-preserved
loop-numbers-preserved c =
    let start_fits = c.ranges.start in
    let end_fits = c.ranges.end in
    let step_fits = c.ranges.step in
    let number_fits : SFits w64 (to_z w64 c.loop-numbers.number-bits) = search rules in
    let next_fits : SFits w64 c.saturating_add-number.result = search rules in
    let walked = simp to_z-of_z at c.loop-numbers.invariant in
    let before = simp to_z-of_z at c.loop-numbers-test.ensures.0 in
    let next_is = simp to_z-of_z at c.saturating_add-number.ensures in
    simp to_z-of_z (rw c.in_ok-push.ensures.ok (walked-more _ _ _ _ _ _ c.requires end_fits number_fits step_fits next_is walked (before refl)))

pub loop-numbers-smaller : goal.loop-numbers-smaller
loop-numbers-smaller c =
    let start_fits = c.ranges.start in
    let end_fits = c.ranges.end in
    let step_fits = c.ranges.step in
    let number_fits : SFits w64 (to_z w64 c.loop-numbers.number-bits) = search rules in
    let next_fits : SFits w64 c.saturating_add-number.result = search rules in
    let before = simp to_z-of_z at c.loop-numbers-test.ensures.0 in
    let next_is = simp to_z-of_z at c.saturating_add-number.ensures in
    simp to_z-of_z (walk-nears _ _ _ _ c.requires end_fits number_fits step_fits next_is (before refl))
