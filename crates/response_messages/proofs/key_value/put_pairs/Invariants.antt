-- The pairs that are left, spelled before what stands, are all of them before what stood.
use Rattle.std.proofs.Common.{◌≡◌, ◌++◌, take}
use Rattle.proto_fields.specs.Spelling.{spell}
use Rattle.expression_messages.specs.Messages.{messages_fields}
use Rattle.response_messages.specs.KeyValues.{key_value_fields}
use Rattle.response_messages.proofs.key_value.put_pairs.Given as goal

abbrev pub invariant-loop-index : goal.invariant-loop-index
invariant-loop-index l =
    spell (messages_fields key_value_fields l.number (take l.index l.pairs)) ++ l.out ≡ spell (messages_fields key_value_fields l.number l.pairs) ++ l.initial.out
