use Rattle.std.specs.Int.{w64}
use Rattle.std.proofs.lemmas.Int.{to_z-of_z}
use Rattle.connect_replay.proofs.ask.numbers_of.Goals as goal

pub returns-in_err-start : goal.returns-in_err-start
returns-in_err-start c = λ start end step start_fits end_fits step_fits start_is end_is step_is.
    let first = c.in_err-start.ensures start start_fits start_is in cc

pub returns-in_err-end : goal.returns-in_err-end
returns-in_err-end c = λ start end step start_fits end_fits step_fits start_is end_is step_is.
    let second = c.in_err-end.ensures end end_fits end_is in cc

pub returns-in_err-step : goal.returns-in_err-step
returns-in_err-step c = λ start end step start_fits end_fits step_fits start_is end_is step_is.
    let third = c.in_err-step.ensures step step_fits step_is in cc

pub returns : goal.returns
returns c = λ start end step start_fits end_fits step_fits start_is end_is step_is.
    let first = c.in_ok-start.ensures start start_fits start_is in
    let second = c.in_ok-end.ensures end end_fits end_is in
    let third = c.in_ok-step.ensures step step_fits step_is in
    let one = to_z-of_z w64 start start_fits in
    let two = to_z-of_z w64 end end_fits in
    let three = to_z-of_z w64 step step_fits in
    cc
