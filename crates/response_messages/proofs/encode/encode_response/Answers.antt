-- What is given spells the response, and a response is read back.
use Rattle.std.proofs.Common.{◌<◌, ◌^◌, length, rules}
use Rattle.expression_messages.proofs.Encoded.{encoded}
use Rattle.response_messages.specs.Responses.{response_kind, method_answered, response_at}
use Rattle.response_messages.specs.Spelled.{response_fields}
use Rattle.response_messages.proofs.ResponseBack.{response_read_back}
use Rattle.response_messages.proofs.encode.encode_response.Goals as goal

pub returns-clause-read : goal.returns-clause-read
returns-clause-read c bits =
    let response = c.args.response.now in
    let short : length c.finish-bytes.result < 2 ^ 64 = search rules in
    encoded 200 (response_kind (method_answered response)) (response_fields response) (response_at 200 (method_answered response)) response c.finish-bytes.result short
    (λ few. response_read_back 200 response c.requires.known bits few c.requires.depth)
    (search rules)
