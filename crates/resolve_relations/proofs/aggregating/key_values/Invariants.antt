use Rattle.std.proofs.Common.{◌≡◌, ◌++◌, drop}
use Rattle.resolve_relations.specs.Columns.{numbered_from}
use Rattle.resolve_relations.specs.Making.{key_value}
use Rattle.resolve_relations.proofs.aggregating.key_values.Given as goal

abbrev pub invariant-loop-number : goal.invariant-loop-number
invariant-loop-number l = l.values ++ numbered_from (key_value) l.number (drop l.number l.keys) ≡ numbered_from (key_value) 0 l.keys
