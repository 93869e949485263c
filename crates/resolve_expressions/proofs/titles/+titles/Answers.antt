-- One argument more, and a form without a name.
use Rattle.std.proofs.Common.{◌≡◌}
use Rattle.resolve_expressions.specs.Named.{column_title, title_by}
use Rattle.resolve_expressions.proofs.TitleSteps.{joined_step, nothing_more}
use Rattle.resolve_expressions.proofs.titles.+titles.Goals as goal

pub push_joined-loop-place-preserved : goal.push_joined-loop-place-preserved
push_joined-loop-place-preserved t c =
    let items : c.as_slice-argument-items.result.now ≡ c.args.call.now.arguments = c.as_slice-argument-items.ensures in
    let within = rw items at c.loop-place-test.true in
    let is = rw items at c.argument-item.is in
    joined_step c.args.between.now (title_by c.args.reading.now) c.args.call.now.arguments c.loop-place.place c.argument-item.result c.args.out.now c.loop-place.out c.push_gap.new.out c.push_title.new.out
    within is c.loop-place.invariant c.in_ok-push_gap.ensures c.in_ok-push_title.ensures

pub push_title-returns-in-Other : goal.push_title-returns-in-Other
push_title-returns-in-Other t c = nothing_more (column_title c.args.reading.now) c.in-Other.field-0 c.args.expr.now c.args.out.now c.in-Other.is
