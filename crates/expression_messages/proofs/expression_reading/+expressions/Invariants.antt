-- What an expression holds is read with the levels that it leaves; the expressions so far are those of the payloads so far.
use Rattle.std.proofs.Common.{◌≡◌, ◌+◌, ◌*◌, take, map}
use Rattle.proto_fields.specs.Fields.{fields_of}
use Rattle.expression_messages.specs.Expressions.{expr_at}
use Rattle.expression_messages.proofs.expression_reading.+expressions.Given as goal

abbrev pub decreases-expr_from : goal.decreases-expr_from
decreases-expr_from l = 3 * l.level

abbrev pub decreases-exprs_from : goal.decreases-exprs_from
decreases-exprs_from l = 3 * l.level + 1

abbrev pub decreases-expr_of_member : goal.decreases-expr_of_member
decreases-expr_of_member l = 3 * l.level + 2

abbrev pub invariant-exprs_from-loop-payload : goal.invariant-exprs_from-loop-payload
invariant-exprs_from-loop-payload l =
    l.exprs ≡ map (λ payload. expr_at l.level (fields_of payload)) (map (λ payload. payload.now) (take l.payload-index l.payload-items))
