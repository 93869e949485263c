use Rattle.std.proofs.Common.{refl, sym, ◌∙◌, subst}
use Rattle.web_heads.specs.Fields.{Gives}
use Rattle.web_heads.specs.Requests.{request_head}
use Rattle.web_heads.specs.Standard.{RequestSays}
use Rattle.web_heads.proofs.AnswerLemmas.{Answers-Gives}
use Rattle.web_heads.proofs.RequestsSaid.{sound}
use Rattle.web_heads.proofs.HeadLemmas.{request_head-long, request_head-none, request_head-read}
use Rattle.web_heads.proofs.request.read_request_head.Goals as goal

pub returns-then-has_too_many_lines : goal.returns-then-has_too_many_lines
returns-then-has_too_many_lines c =
    let long = request_head-long c.args.head.now (sym c.has_too_many_lines.ensures ∙ c.if-has_too_many_lines.true) in
    record { exact = long; says = subst (RequestSays c.args.head.now) long (sound c.args.head.now) }

pub returns-in_default : goal.returns-in_default
returns-in_default c =
    let none = request_head-none c.args.head.now (sym c.has_too_many_lines.ensures ∙ c.if-has_too_many_lines.false) c.in_default.ensures.none in
    record { exact = none; says = subst (RequestSays c.args.head.now) none (sound c.args.head.now) }

pub returns : goal.returns
returns c =
    let read = request_head-read c.args.head.now c.request_spans.new.room c.in-Some.spans c.of-method.result.now c.of-target.result.now _
    (sym c.has_too_many_lines.ensures ∙ c.if-has_too_many_lines.false) c.in-Some.ensures.tree c.of-method.ensures c.of-target.ensures
    refl in
    let gives = subst (Gives c.request_of.result) read c.request_of.ensures in
    record { exact = gives; says = Answers-Gives c.request_of.result (request_head c.args.head.now) (RequestSays c.args.head.now) gives (sound c.args.head.now) }
