use Rattle.std.proofs.Common.{◌≡◌, ◌<◌, ap, ◌∙◌, rules, arith}
use Rattle.std.proofs.lemmas.List.Elements.{All-from_get_or}
use Rattle.web_requests.specs.Machine.{request_in}
use Rattle.web_writers.specs.Requests.{request_bytes}
use Rattle.web_writers.proofs.ReadBack.{read_alone}
use Rattle.web_writers.proofs.request.write_request.Goals as goal

pub returns-clause-read : goal.returns-clause-read
unfolding request_bytes
returns-clause-read c =
    let exact : c.append_both.new.self ≡ request_bytes c.args.path.now c.args.host.now c.args.message.now = search rules in
    ap request_in exact
    ∙ read_alone c.args.path.now c.args.host.now c.args.message.now c.requires.path c.requires.host c.requires.message
    (All-from_get_or (λ b. b < 256) c.args.message.now 0 (λ i less. let fits = c.type_inv.message i in omega arith))
