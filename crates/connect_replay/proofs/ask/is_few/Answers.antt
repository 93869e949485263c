use Rattle.std.proofs.Common.{pos, ◌<ℤ◌, arith, rules}
use Rattle.std.specs.Int.{w128}
use mir.Val.{SFits}
use Rattle.std.proofs.lemmas.Int.{ints, to_z-of_z}
use Rattle.connect_replay.proofs.Numbers.{few-rising_test, few-falling_test}
use Rattle.connect_replay.proofs.ask.is_few.Goals as goal

pub returns-then-step-gt0 : goal.returns-then-step-gt0
returns-then-step-gt0 c =
    let a = c.args in
    let start_fits = c.ranges.start in
    let end_fits = c.ranges.end in
    let step_fits = c.ranges.step in
    let wide_fits : SFits w128 c.from-end.result = search rules in
    let number_fits : SFits w128 c.number_past_limit-number.result = search rules in
    let rises : pos 0 <ℤ a.step = grind (arith, ints) in
    let number_is = simp to_z-of_z at c.number_past_limit-number.ensures in
    let end_is = simp to_z-of_z at c.from-end.ensures in
    simp to_z-of_z (few-rising_test a.start a.step a.end _ _ 10000 rises number_is end_is)

pub returns-else-step-gt0 : goal.returns-else-step-gt0
returns-else-step-gt0 c =
    let a = c.args in
    let start_fits = c.ranges.start in
    let end_fits = c.ranges.end in
    let step_fits = c.ranges.step in
    let moves = c.requires in
    let wide_fits : SFits w128 c.from-end.result = search rules in
    let number_fits : SFits w128 c.number_past_limit-number.result = search rules in
    let falls : a.step <ℤ pos 0 = grind (arith, ints) in
    let number_is = simp to_z-of_z at c.number_past_limit-number.ensures in
    let end_is = simp to_z-of_z at c.from-end.ensures in
    simp to_z-of_z (few-falling_test a.start a.step a.end _ _ 10000 falls number_is end_is)
