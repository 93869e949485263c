-- The texts that are left, spelled before what stands, are all of them before what stood.
use Rattle.std.proofs.Common.{◌≡◌, ◌++◌, take}
use Rattle.proto_fields.specs.Spelling.{spell}
use Rattle.expression_messages.specs.Messages.{repeated_fields}
use Rattle.expression_messages.proofs.texts.put_texts.Given as goal

abbrev pub invariant-loop-index : goal.invariant-loop-index
invariant-loop-index l =
    spell (repeated_fields l.number (take l.index l.texts)) ++ l.out ≡ spell (repeated_fields l.number l.texts) ++ l.initial.out
