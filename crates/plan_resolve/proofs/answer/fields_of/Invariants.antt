use Rattle.std.proofs.Common.{◌≡◌, ◌++◌, map, drop}
use Rattle.plan_resolve.specs.Resolving as rules
use Rattle.plan_resolve.proofs.answer.fields_of.Given as goal

abbrev pub invariant-loop-column : goal.invariant-loop-column
invariant-loop-column l = l.fields ++ map rules.field_of (drop l.column-index l.fn.columns) ≡ map rules.field_of l.fn.columns
