-- The total is the size of the pairs so far.
use Rattle.std.proofs.Common.{◌≡◌, take}
use Rattle.proto_fields.specs.Sizes.{size_of}
use Rattle.expression_messages.specs.Messages.{messages_fields}
use Rattle.response_messages.specs.KeyValues.{key_value_fields}
use Rattle.response_messages.proofs.key_value.pairs_size.Given as goal

abbrev pub invariant-loop-pair : goal.invariant-loop-pair
invariant-loop-pair l = l.total ≡ size_of (messages_fields key_value_fields l.number (take l.pair-index l.pairs))
