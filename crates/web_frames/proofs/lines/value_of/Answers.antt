use Rattle.std.proofs.Common.{◌∙◌, ℕ, ◌+◌, true, false, Some, List, sym, ap}
use Rattle.std.proofs.lemmas.List.{take_rest}
use Rattle.web_frames.specs.Lines.{without_space}
use Rattle.web_frames.proofs.ValueLemmas.{value_of-no_colon, value_of-colon}
use Rattle.web_frames.proofs.lines.value_of.Goals as goal

pub returns-in_err-place : goal.returns-in_err-place
returns-in_err-place c = rw c.from_residual.ensures (sym (value_of-no_colon c.args.name.now c.args.line.now (c.in_err-place.ensures)))

pub returns-then-equals_ignoring_case : goal.returns-then-equals_ignoring_case
returns-then-equals_ignoring_case c =
    let name = c.args.name.now in
    let line = c.args.line.now in
    let place = c.in_ok-place.place in
    let value = c.without_space.ensures ∙ ap without_space (take_rest line (place + 1)) in
    ap (λ (text : List ℕ). Some text) value
    ∙ sym (value_of-colon name line place true (c.in_ok-place.ensures) (sym c.equals_ignoring_case.ensures ∙ c.if-equals_ignoring_case.true))

pub returns-else-equals_ignoring_case : goal.returns-else-equals_ignoring_case
returns-else-equals_ignoring_case c =
    sym (value_of-colon c.args.name.now c.args.line.now c.in_ok-place.place false (c.in_ok-place.ensures)
    (sym c.equals_ignoring_case.ensures ∙ c.if-equals_ignoring_case.false))
