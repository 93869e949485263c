-- The total is the size of the aliases so far.
use Rattle.std.proofs.Common.{◌≡◌, take}
use Rattle.proto_fields.specs.Sizes.{size_of}
use Rattle.expression_messages.specs.Messages.{messages_fields}
use Rattle.expression_messages.specs.Spelled.{alias_fields}
use Rattle.expression_relations.proofs.aliases.aliases_size.Given as goal

abbrev pub invariant-loop-alias : goal.invariant-loop-alias
invariant-loop-alias l = l.total ≡ size_of (messages_fields alias_fields l.number (take l.alias-index l.aliases))
