use Rattle.std.proofs.Common.{arith}
use Rattle.httparse.specs.Spans.{FindsResponse}
use Rattle.web_heads.proofs.Answered.{response_tree-found, response_tree-none}
use Rattle.web_heads.proofs.response.response_spans.Goals as goal

pub returns-then-spans-head-clause-tree : goal.returns-then-spans-head-clause-tree
returns-then-spans-head-clause-tree c =
    response_tree-found c.args.head.now c.parse_response.new.headers c.in-Ok-Complete.spans
    (rw (c.in-Ok-Complete.is, c.in-Ok-Complete.field-0-is) at c.parse_response.ensures.complete)
    c.if-spans-head.true (omega arith)

pub returns-else-spans-head-clause-none : goal.returns-else-spans-head-clause-none
returns-else-spans-head-clause-none c =
    let finds : FindsResponse c.args.head.now 64 c.parse_response.new.headers c.parse_response.result = rw c.requires at c.parse_response.ensures.found in
    response_tree-none c.args.head.now c.parse_response.new.headers c.parse_response.result finds
    (rw (c.in-Ok-Complete.is, c.in-Ok-Complete.field-0-is) c.if-spans-head.false)

pub returns-in-Ok-Partial-clause-none : goal.returns-in-Ok-Partial-clause-none
returns-in-Ok-Partial-clause-none c =
    let finds : FindsResponse c.args.head.now 64 c.parse_response.new.headers c.parse_response.result = rw c.requires at c.parse_response.ensures.found in
    response_tree-none c.args.head.now c.parse_response.new.headers c.parse_response.result finds
    (rw (c.in-Ok-Partial.is, c.in-Ok-Partial.field-0-is) (λ no. no))

pub returns-in-Err-clause-none : goal.returns-in-Err-clause-none
returns-in-Err-clause-none c =
    let finds : FindsResponse c.args.head.now 64 c.parse_response.new.headers c.parse_response.result = rw c.requires at c.parse_response.ensures.found in
    response_tree-none c.args.head.now c.parse_response.new.headers c.parse_response.result finds (rw c.in-Err.is (λ no. no))
