-- What is given spells the request, and a request is read back.
use Rattle.std.proofs.Common.{◌<◌, ◌^◌, length, rules}
use Rattle.expression_messages.proofs.Encoded.{encoded}
use Rattle.connect_messages.specs.Requests.{request_kind, method_asked, request_at}
use Rattle.connect_messages.specs.Spelled.{request_fields}
use Rattle.connect_messages.proofs.RequestBack.{request_read_back}
use Rattle.connect_messages.proofs.encode.encode_request.Goals as goal

pub returns-clause-read : goal.returns-clause-read
returns-clause-read c bits =
    let request = c.args.request.now in
    let short : length c.finish-bytes.result < 2 ^ 64 = search rules in
    encoded 200 (request_kind (method_asked request)) (request_fields request) (request_at 200 (method_asked request)) request c.finish-bytes.result short
    (λ few. request_read_back 200 request c.requires.known bits few c.requires.depth)
    (search rules)
