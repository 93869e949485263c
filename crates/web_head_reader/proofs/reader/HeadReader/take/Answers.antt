use Rattle.std.proofs.Common.{sym, ap, ◌∙◌}
use Rattle.web_head_reader.specs.Steps.{HeadState}
use Rattle.web_head_reader.proofs.Searches.{takes_nothing, refuses_before}
use Rattle.web_head_reader.proofs.reader.HeadReader.take.Goals as goal

pub returns-in-Whole-clause-taken : goal.returns-in-Whole-clause-taken
returns-in-Whole-clause-taken c =
    takes_nothing c.args.self.now c.args.piece.now (ap (λ (s : HeadState). s.place) (sym c.self.view_is) ∙ c.in-Whole.is)

pub returns-in-Refused-clause-refused : goal.returns-in-Refused-clause-refused
returns-in-Refused-clause-refused c =
    refuses_before c.args.self.now c.args.piece.now c.in-Refused.fault (ap (λ (s : HeadState). s.place) (sym c.self.view_is) ∙ c.in-Refused.is)
