-- The deepest of the aliases so far.
use Rattle.std.proofs.Common.{◌≡◌, take, map}
use Rattle.expression_messages.specs.Depths.{told, largest, alias_depth}
use Rattle.expression_relations.proofs.aliases.deepest_alias.Given as goal

abbrev pub invariant-loop-alias : goal.invariant-loop-alias
invariant-loop-alias l = l.deepest ≡ told (largest (map alias_depth (take l.alias-index l.aliases)))
