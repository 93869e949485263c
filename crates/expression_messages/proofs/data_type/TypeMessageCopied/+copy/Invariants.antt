-- The copied fields are the fields so far.
use Rattle.std.proofs.Common.{◌≡◌, take}
use Rattle.expression_messages.proofs.data_type.TypeMessageCopied.+copy.Given as goal

abbrev pub invariant-loop-field : goal.invariant-loop-field
invariant-loop-field l = l.copied ≡ take l.field-index l.field-items
