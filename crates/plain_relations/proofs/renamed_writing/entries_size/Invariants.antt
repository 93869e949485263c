-- The total is the size of the entries so far.
use Rattle.std.proofs.Common.{◌≡◌, take}
use Rattle.proto_fields.specs.Sizes.{size_of}
use Rattle.expression_messages.specs.Messages.{messages_fields}
use Rattle.plain_relations.specs.Spelled.{entry_fields}
use Rattle.plain_relations.proofs.renamed_writing.entries_size.Given as goal

abbrev pub invariant-loop-entry : goal.invariant-loop-entry
invariant-loop-entry l = l.total ≡ size_of (messages_fields entry_fields 2 (take l.entry-index l.entries))
