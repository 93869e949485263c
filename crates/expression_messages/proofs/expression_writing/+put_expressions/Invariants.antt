-- The expressions that are left, spelled before what stands, are all of them before what stood.
use Rattle.std.proofs.Common.{◌≡◌, ◌++◌, take}
use Rattle.proto_fields.specs.Spelling.{spell}
use Rattle.expression_messages.specs.Messages.{messages_fields}
use Rattle.expression_messages.specs.Spelled.{expr_fields}
use Rattle.expression_messages.proofs.expression_writing.+put_expressions.Given as goal

abbrev pub invariant-put_exprs-loop-index : goal.invariant-put_exprs-loop-index
invariant-put_exprs-loop-index l =
    spell (messages_fields expr_fields l.number (take l.index l.exprs)) ++ l.out ≡ spell (messages_fields expr_fields l.number l.exprs) ++ l.initial.out
