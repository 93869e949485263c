use Rattle.std.proofs.Common.{◌≡◌, ◌++◌, take}
use Rattle.resolve_expressions.specs.Named.{titles_by}
use Rattle.resolve_expressions.specs.Titles.{joined}
use Rattle.resolve_expressions.proofs.titles.+titles.Given as goal

abbrev pub invariant-push_joined-loop-place : goal.invariant-push_joined-loop-place
invariant-push_joined-loop-place l = l.out ≡ l.initial.out ++ joined l.between (titles_by l.reading (take l.place l.call.arguments))
