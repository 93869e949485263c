use Rattle.std.proofs.Common.{ap, sym, ◌∙◌}
use Rattle.web_responses.specs.declared.reader.Stage.{Stage}
use Rattle.web_responses.specs.Answers.{standing}
use Rattle.web_responses.specs.Calls.{Reader, state_of}
use Rattle.web_responses.proofs.FeedLemmas.{holds_body, feeds_due, refuses_before}
use Rattle.web_responses.proofs.reader.ResponseReader.feed.Goals as goal

pub returns-in-Some-clause-feeds : goal.returns-in-Some-clause-feeds
returns-in-Some-clause-feeds c =
    feeds_due c.args.self.now c.take_due.new.self c.args.piece.now c.in-Some.event c.in-Some.ensures.due c.in-Some.ensures.state c.in-Some.ensures.count

pub returns-in-Body-clause-stays_refused : goal.returns-in-Body-clause-stays_refused
returns-in-Body-clause-stays_refused c fault none stands =
    let i = c.self.inside in
    let fine = (holds_body i.stage i.head i.body i.count c.in-Body.is c.self.invariant).0 in
    absurd (fine fault (ap (λ (s : Stage). standing (state_of s i.head i.body)) (sym c.in-Body.is)
    ∙ ap (λ (r : Reader). standing r.state) c.self.view_is ∙ ap standing c.in_default.ensures.state ∙ stands))

pub returns-in-Refused-clause-feeds : goal.returns-in-Refused-clause-feeds
returns-in-Refused-clause-feeds c =
    let i = c.self.inside in
    refuses_before c.args.self.now c.take_due.new.self c.args.piece.now c.in-Refused.fault (c.in_default.ensures.due ∙ c.in_default.ensures.none)
    c.in_default.ensures.state
    (ap (λ (r : Reader). standing r.state) (sym c.self.view_is) ∙ ap (λ (s : Stage). standing (state_of s i.head i.body)) c.in-Refused.is)
    c.in_default.ensures.none c.in_default.ensures.count
