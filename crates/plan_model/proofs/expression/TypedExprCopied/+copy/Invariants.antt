-- The copied arguments are the arguments so far.
use Rattle.std.proofs.Common.{◌≡◌, take}
use Rattle.plan_model.proofs.expression.TypedExprCopied.+copy.Given as goal

abbrev pub invariant-loop-argument : goal.invariant-loop-argument
invariant-loop-argument l = l.copied ≡ take l.argument-index l.argument-items
