-- The copied arguments are the arguments so far.
use Rattle.std.proofs.Common.{◌≡◌, take}
use Rattle.expression_messages.proofs.expression_copy.ExprCopied.+copy.Given as goal

abbrev pub invariant-loop-argument : goal.invariant-loop-argument
invariant-loop-argument l = l.arguments ≡ take l.argument-index l.argument-items
