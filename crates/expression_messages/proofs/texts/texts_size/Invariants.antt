-- The total is the size of the texts so far.
use Rattle.std.proofs.Common.{◌≡◌, take}
use Rattle.proto_fields.specs.Sizes.{size_of}
use Rattle.expression_messages.specs.Messages.{repeated_fields}
use Rattle.expression_messages.proofs.texts.texts_size.Given as goal

abbrev pub invariant-loop-text : goal.invariant-loop-text
invariant-loop-text l = l.total ≡ size_of (repeated_fields l.number (take l.text-index l.texts))
