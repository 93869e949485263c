-- The aliases that are left, spelled before what stands, are all of them before what stood.
use Rattle.std.proofs.Common.{◌≡◌, ◌++◌, take}
use Rattle.proto_fields.specs.Spelling.{spell}
use Rattle.expression_messages.specs.Messages.{messages_fields}
use Rattle.expression_messages.specs.Spelled.{alias_fields}
use Rattle.expression_relations.proofs.aliases.put_aliases.Given as goal

abbrev pub invariant-loop-index : goal.invariant-loop-index
invariant-loop-index l =
    spell (messages_fields alias_fields l.number (take l.index l.aliases)) ++ l.out ≡ spell (messages_fields alias_fields l.number l.aliases) ++ l.initial.out
