use Rattle.std.proofs.Common.{sym, ap, ◌∙◌}
use Rattle.web_requests.specs.declared.stage.Stage.{Stage}
use Rattle.web_requests.specs.Calls.{view_of}
use Rattle.web_requests.proofs.Pieces.{refused_before, stays_refused}
use Rattle.web_requests.proofs.reader.RequestReader.feed.Goals as goal

pub returns-in-Head-clause-stays_refused : goal.returns-in-Head-clause-stays_refused
returns-in-Head-clause-stays_refused c fault e =
    stays_refused c.args.self.now c.args.piece.now c.feed_head.result c.feed_head.new.self fault e c.feed_head.ensures

pub returns-in-Body-clause-stays_refused : goal.returns-in-Body-clause-stays_refused
returns-in-Body-clause-stays_refused c fault e =
    stays_refused c.args.self.now c.args.piece.now c.feed_body.result c.feed_body.new.self fault e c.feed_body.ensures

pub returns-in-Refused-clause-feeds : goal.returns-in-Refused-clause-feeds
returns-in-Refused-clause-feeds c =
    let r = c.self.inside in
    refused_before c.args.self.now c.args.piece.now c.in-Refused.fault
    (sym c.self.view_is ∙ ap (λ (s : Stage). view_of s r.head r.path r.message r.contents) c.in-Refused.is)
