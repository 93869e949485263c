-- The aliases so far are known.
use Rattle.std.proofs.Common.{◌≡◌, true, take}
use Rattle.std.specs.List.{list_all}
use Rattle.expression_messages.specs.Known.{is_known_expr}
use Rattle.expression_relations.proofs.aliases.are_known_aliases.Given as goal

abbrev pub invariant-loop-alias : goal.invariant-loop-alias
invariant-loop-alias l = list_all (λ alias. is_known_expr alias.expr) (take l.alias-index l.aliases) ≡ true
