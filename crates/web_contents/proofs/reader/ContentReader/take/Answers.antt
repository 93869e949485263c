use Rattle.std.proofs.Common.{ap, sym, ◌∙◌}
use Rattle.web_contents.specs.Contents.{place_of}
use Rattle.web_contents.proofs.Runs.{none_so_far, gives_end, refuses_now, taken_within, taken_counted}
use Rattle.web_contents.proofs.reader.ContentReader.take.Goals as goal

pub returns-in-Over-clause-takes : goal.returns-in-Over-clause-takes
returns-in-Over-clause-takes c =
    gives_end c.args.self.now c.args.piece.now c.args.self.now 0 (none_so_far c.args.self.now c.args.piece.now)
    (ap place_of (sym c.self.view_is) ∙ sym c.self.invariant.2 ∙ c.in-Over.is)

pub returns-in-Refused-clause-takes : goal.returns-in-Refused-clause-takes
returns-in-Refused-clause-takes c =
    refuses_now c.args.self.now c.args.piece.now c.args.self.now 0 c.in-Refused.fault (none_so_far c.args.self.now c.args.piece.now)
    (ap place_of (sym c.self.view_is) ∙ sym c.self.invariant.2 ∙ c.in-Refused.is)

pub returns-in-Open-clause-within : goal.returns-in-Open-clause-within
returns-in-Open-clause-within c = taken_within c.args.self.now c.args.piece.now c.take_open.result c.take_open.new.self c.take_open.ensures

pub returns-in-Open-clause-counted : goal.returns-in-Open-clause-counted
returns-in-Open-clause-counted c = taken_counted c.args.self.now c.args.piece.now c.take_open.result c.take_open.new.self c.take_open.ensures
