use Rattle.std.proofs.Common.{ap, sym, ◌∙◌}
use Rattle.web_contents.specs.Contents.{place_of}
use Rattle.web_contents.proofs.Runs.{none_so_far, gives_end, refuses_now}
use Rattle.web_responses.proofs.bare.BareReader.take.Goals as goal

pub returns-in-Over : goal.returns-in-Over
returns-in-Over c =
    gives_end c.args.self.now c.args.piece.now c.args.self.now 0 (none_so_far c.args.self.now c.args.piece.now)
    (ap place_of (sym c.self.view_is) ∙ sym c.self.invariant.1 ∙ c.in-Over.is)

pub returns-in-Refused : goal.returns-in-Refused
returns-in-Refused c =
    refuses_now c.args.self.now c.args.piece.now c.args.self.now 0 c.in-Refused.fault (none_so_far c.args.self.now c.args.piece.now)
    (ap place_of (sym c.self.view_is) ∙ sym c.self.invariant.1 ∙ c.in-Refused.is)
