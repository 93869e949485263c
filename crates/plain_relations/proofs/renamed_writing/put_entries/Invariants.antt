-- The entries that are left, spelled before what stands, are all of them before what stood.
use Rattle.std.proofs.Common.{◌≡◌, ◌++◌, take}
use Rattle.proto_fields.specs.Spelling.{spell}
use Rattle.expression_messages.specs.Messages.{messages_fields}
use Rattle.plain_relations.specs.Spelled.{entry_fields}
use Rattle.plain_relations.proofs.renamed_writing.put_entries.Given as goal

abbrev pub invariant-loop-index : goal.invariant-loop-index
invariant-loop-index l =
    spell (messages_fields entry_fields 2 (take l.index l.entries)) ++ l.out ≡ spell (messages_fields entry_fields 2 l.entries) ++ l.initial.out
