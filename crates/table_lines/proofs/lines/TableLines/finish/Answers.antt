use Rattle.std.proofs.Common.{◌≡◌, ap, subst, ◌∙◌}
use Rattle.table_lines.specs.Lines.{named_of, CanStand}
use Rattle.table_lines.proofs.StandFacts.{stand_named}
use Rattle.table_lines.proofs.lines.TableLines.finish.Goals as goal

pub returns-clause-stand : goal.returns-clause-stand
returns-clause-stand c =
    let is : c.in_ok-named.named ≡ named_of c.args.self = c.in_ok-named.ensures ∙ ap named_of c.self.view_is in
    stand_named c.args.self c.in_ok-named.named is (subst CanStand c.self.view_is c.self.invariant)
