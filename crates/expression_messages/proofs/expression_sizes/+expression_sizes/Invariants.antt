-- The total is the size of the expressions so far.
use Rattle.std.proofs.Common.{◌≡◌, take}
use Rattle.proto_fields.specs.Sizes.{size_of}
use Rattle.expression_messages.specs.Messages.{messages_fields}
use Rattle.expression_messages.specs.Spelled.{expr_fields}
use Rattle.expression_messages.proofs.expression_sizes.+expression_sizes.Given as goal

abbrev pub invariant-exprs_size-loop-expr : goal.invariant-exprs_size-loop-expr
invariant-exprs_size-loop-expr l = l.total ≡ size_of (messages_fields expr_fields l.number (take l.expr-index l.exprs))
