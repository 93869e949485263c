use Rattle.std.proofs.Common.{refl, sym, ◌∙◌, subst}
use Rattle.web_heads.specs.Fields.{Gives}
use Rattle.web_heads.specs.Responses.{response_head}
use Rattle.web_heads.specs.Standard.{ResponseSays}
use Rattle.web_heads.proofs.AnswerLemmas.{Answers-Gives}
use Rattle.web_heads.proofs.ResponsesSaid.{sound}
use Rattle.web_heads.proofs.HeadLemmas.{response_head-long, response_head-none, response_head-read}
use Rattle.web_heads.proofs.response.read_response_head.Goals as goal

pub returns-then-has_too_many_lines : goal.returns-then-has_too_many_lines
returns-then-has_too_many_lines c =
    let long = response_head-long c.args.head.now (sym c.has_too_many_lines.ensures ∙ c.if-has_too_many_lines.true) in
    record { exact = long; says = subst (ResponseSays c.args.head.now) long (sound c.args.head.now) }

pub returns-in_default : goal.returns-in_default
returns-in_default c =
    let none = response_head-none c.args.head.now (sym c.has_too_many_lines.ensures ∙ c.if-has_too_many_lines.false) c.in_default.ensures.none in
    record { exact = none; says = subst (ResponseSays c.args.head.now) none (sound c.args.head.now) }

pub returns : goal.returns
returns c =
    let read = response_head-read c.args.head.now c.response_spans.new.room c.in-Some.spans _
    (sym c.has_too_many_lines.ensures ∙ c.if-has_too_many_lines.false) c.in-Some.ensures.tree refl in
    let gives = subst (Gives c.response_of.result) read c.response_of.ensures in
    record { exact = gives; says = Answers-Gives c.response_of.result (response_head c.args.head.now) (ResponseSays c.args.head.now) gives (sound c.args.head.now) }
